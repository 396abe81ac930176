-- A book that was accepted is accepted, with the same bonds and the same prices; the claim is in specs/Kept.antt. Assumes nothing.
use Rattle.std.proofs.Common.{Some}
use mathlib.Core.Path.{◌≡◌, sym, ap, ◌∙◌}
use mathlib.Core.Bool.{true}
use mathlib.Core.List.{List}
use Prim.Native.Nat.{ℕ, ◌+◌, ◌*◌, ◌<◌}
use borrow.Author.Tests.{ltb-true}
use lib.Dec.{ltb, eqb}
use lib.ListN.{length}
use lib.Ieee.{Float, le}
use Rattle.lists.proofs.Cases.{by_bool}
use Rattle.lists.proofs.Lowest.{lowest_none}
use Rattle.isin.specs.Isin.{verdict_of}
use Rattle.pricer.specs.Price.{price_bits}
use Rattle.pricer.specs.Range.{lowest_yield}
use Rattle.book.specs.Book.{raw_machine_count, raw_entry_count, sizes_in_range, identifier_at, term_at, repeated, book_verdict}
use Rattle.book.specs.Parts.{entry_count_of, bond_in, term_bond_at, bond_of}
use Rattle.book.proofs.Accepted.{no, past_sizes, past_identifier, valid, accepted_size}
use Rattle.book_before.specs.Before.{term_before, fault_before, lowest_faulty_before, lowest_fault_before, verdict_before}
use Rattle.book_before.specs.Before.{first_lowest, entry_count_before, bond_before}
use Rattle.book_before.specs.Kept.{StillAccepted, BooksKept}
use Rattle.book_before.proofs.Terms.{above, range_kept, term_kept}
use Rattle.book_before.proofs.Formula.{bits_before_lem}
use Rattle.book_before.proofs.Faults.{verdict_kept}

module _ (lo : Float) (up : (y : Float) → le lo y ≡ true → le lowest_yield y ≡ true) where
  -- ---- the entries of a book that was accepted

  faultless : (s : List ℕ) → verdict_before lo s ≡ 0 → (i : ℕ) → i < raw_entry_count s → fault_before lo s (raw_entry_count s) i ≡ 0
  unfolding verdict_before lowest_fault_before lowest_faulty_before
  faultless s e =
      let p = past_sizes (ltb (length s) 4) (sizes_in_range (raw_machine_count s) (raw_entry_count s)) (eqb (length s) (4 + 31 * raw_entry_count s)) _ e in
      lowest_none (fault_before lo s (raw_entry_count s)) (raw_entry_count s) p.3

  -- its term was read as a bond
  read : (s : List ℕ) (n i : ℕ) → fault_before lo s n i ≡ 0 → term_before lo (term_at s n i) ≡ Some (bond_in (term_before lo (term_at s n i)))
  unfolding fault_before
  read s n i e = valid (term_before lo (term_at s n i)) (past_identifier (verdict_of (identifier_at s i)) (repeated s i) _ e).2

  -- ---- the book

  module _ (s : List ℕ) (e : verdict_before lo s ≡ 0) where
    verdict_now : book_verdict s ≡ 0
    verdict_now = verdict_kept lo up s (λ h. no 6 (sym h ∙ e)) ∙ e

    count_before : entry_count_before lo s ≡ raw_entry_count s
    count_before = rw e

    count_now : entry_count_of s ≡ raw_entry_count s
    count_now = accepted_size s 2 verdict_now

    bond_now : (i : ℕ) → bond_of s i ≡ bond_before lo s i
    unfolding bond_of term_bond_at bond_before
    bond_now i =
        let n = raw_entry_count s in
        let t = term_at s n i in
        by_bool (ltb i n)
        (λ h. rw (count_now, count_before, h) (ap bond_in (term_kept lo up t _ (read s n i (faultless s e i (ltb-true i n h))))))
        (λ h. rw (count_now, count_before, h))

    accepted : StillAccepted lo s
    accepted = record {
      verdict = verdict_now;
      entries = count_now ∙ sym count_before;
      bond = bond_now;
      price = λ i. ap price_bits (bond_now i) ∙ bits_before_lem lo s i;
    }

  kept : BooksKept lo
  kept = record {
    range = range_kept lo up;
    term = term_kept lo up;
    accepted = accepted;
    numbers = verdict_kept lo up;
  }

-- the books accepted before request 2.1
pub books_kept : BooksKept first_lowest
books_kept = kept first_lowest above

-- the books accepted before request 2.3
pub books_kept_since : BooksKept lowest_yield
books_kept_since = kept lowest_yield (λ y h. h)
