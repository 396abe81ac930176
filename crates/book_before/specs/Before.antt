-- The reader of a book as it was before request 2.3, "Payments per year": old behaviour, which no code has, for the comparisons in Kept.antt and
-- Spare.antt. Each definition takes the lowest yield: `first_lowest` gives the reader before request 2.1, "Yields below zero", and `lowest_yield` the
-- one after it. What the two requests changed is `yield_before`, `bare_before` and the test of the spare byte in `term_before`. The other definitions
-- repeat, over these, those of pricer's Range, book_term's Term, and book's Book and Parts. What the requests left alone is cited as it is today: the
-- other ranges, how bytes are read, identifiers, sizes and parts of the book. Definitions only.
use Rattle.std.specs.Prelude.{ℕ, ◌+◌, ◌*◌, Bool, not, cond, ◌&&◌, List, ltb, eqb, length, get_or, Float, Option, None, Some}
use Rattle.lists.specs.Scan.{least}
use Rattle.endian.specs.Endian.{le64}
use Rattle.isin.specs.Isin.{verdict_of}
use Rattle.pricer.specs.Price.{one}
use Rattle.pricer.specs.Range.{within, zero_float, coupon_in_range, periods_in_range}
use Rattle.pricer.specs.Bonds.{no_bond, with_terms}
use Rattle.pricer.specs.declared.Bond.{Bond}
use Rattle.pricer.specs.declared.Terms.{Terms}
use Rattle.pricer.specs.declared.Terms.TheVariants.{Zero, Fixed}
use Rattle.book_term.specs.Term.{float_of, term_number}
use Rattle.book.specs.Book.{raw_machine_count, raw_entry_count, sizes_in_range, identifier_at, term_at, repeated}
use Rattle.book.specs.Parts.{bond_in}

-- document 01: "yield from 0 to 1, ends included"
abbrev pub first_lowest : Float
first_lowest = zero_float

-- the yields from the lowest, lo, to 1
abbrev pub yield_before : Float → Float → Bool
yield_before lo y = within lo one y

-- as `terms_in_range`
abbrev pub terms_before : Float → Terms → Bool
terms_before lo (Zero y) = yield_before lo y
terms_before lo (Fixed c y) = coupon_in_range c && yield_before lo y

-- as `in_range`, which knew of no payments
unfoldable pub in_range_before : Float → Bond → Bool
in_range_before lo b = periods_in_range b.periods && terms_before lo b.terms

-- as `checked`
unfoldable pub checked_before : Float → Bond → Option Bond
checked_before lo b = cond (in_range_before lo b) (Some b) None

-- as `term_from`
unfoldable pub term_from_before : Float → ℕ → Bond → ℕ → ℕ → Option Bond
term_from_before lo kind b coupon ytm =
    cond (eqb kind 1)
    (cond (eqb coupon 0) (checked_before lo (with_terms b (Zero (float_of ytm)))) None)
    (cond (eqb kind 2) (checked_before lo (with_terms b (Fixed (float_of coupon) (float_of ytm)))) None)

-- as `bare_bond`: a bond had periods and terms, and was paid twice a year; it stands here as one of two payments
abbrev pub bare_before : List ℕ → Bond
bare_before s = record { periods = get_or s 1 0; payments = 2; terms = no_bond.terms }

-- as `term_of`: what 19 bytes were read as, with "a spare byte 0"
unfoldable pub term_before : Float → List ℕ → Option Bond
term_before lo s =
    cond (eqb (length s) 19)
    (cond (eqb (get_or s 2 0) 0) (term_from_before lo (get_or s 0 0) (bare_before s) (le64 s 3) (le64 s 11)) None)
    None

-- as `fault_at`
unfoldable pub fault_before : Float → List ℕ → ℕ → ℕ → ℕ
fault_before lo s n i =
    cond (not (eqb (verdict_of (identifier_at s i)) 0)) (verdict_of (identifier_at s i))
    (cond (repeated s i) 6
    (term_number (term_before lo (term_at s n i))))

-- as `lowest_faulty`
unfoldable pub lowest_faulty_before : Float → List ℕ → ℕ → ℕ
lowest_faulty_before lo s n = least (λ i. not (eqb (fault_before lo s n i) 0)) n

-- as `lowest_fault`
unfoldable pub lowest_fault_before : Float → List ℕ → ℕ → ℕ
lowest_fault_before lo s n = cond (ltb (lowest_faulty_before lo s n) n) (fault_before lo s n (lowest_faulty_before lo s n)) 0

-- as `book_verdict`: the number that a book got
unfoldable pub verdict_before : Float → List ℕ → ℕ
verdict_before lo s =
    cond (ltb (length s) 4) 1
    (cond (not (sizes_in_range (raw_machine_count s) (raw_entry_count s))) 2
    (cond (not (eqb (length s) (4 + 31 * raw_entry_count s))) 3
    (lowest_fault_before lo s (raw_entry_count s))))

-- as `entry_count_of`: the entries of an accepted book
abbrev pub entry_count_before : Float → List ℕ → ℕ
entry_count_before lo s = cond (eqb (verdict_before lo s) 0) (raw_entry_count s) 0

-- as `bond_of`: the bond of entry i of an accepted book
unfoldable pub bond_before : Float → List ℕ → ℕ → Bond
bond_before lo s i = cond (ltb i (entry_count_before lo s)) (bond_in (term_before lo (term_at s (entry_count_before lo s) i))) no_bond
