-- Request 2.1: "Books accepted before are accepted with the same prices." The claim is `BooksKept`, of the reader with a lowest yield: with
-- `first_lowest` it is of the books accepted before 2.1, and with `lowest_yield` of those accepted before 2.3. Its proofs are in proofs/Kept.antt.
-- Definitions only.
use Rattle.std.specs.Prelude.{ℕ, ◌≡◌, ◌≢◌, true, List, Float, Some}
use Rattle.pricer.specs.Price.{price_bits}
use Rattle.pricer.specs.Range.{in_range}
use Rattle.pricer.specs.declared.Bond.{Bond}
use Rattle.book_term.specs.Term.{term_of}
use Rattle.book.specs.Book.{book_verdict}
use Rattle.book.specs.Parts.{entry_count_of, bond_of}
use Rattle.book_before.specs.Formula.{bits_before}
use Rattle.book_before.specs.Before.{in_range_before, term_before, verdict_before, entry_count_before, bond_before}

-- what a book that was accepted gives now
pub record StillAccepted (lo : Float) (s : List ℕ) : Type 0 where
  -- it is accepted,
  pub verdict : book_verdict s ≡ 0
  -- with as many entries,
  pub entries : entry_count_of s ≡ entry_count_before lo s
  -- each with the same bond,
  pub bond : (i : ℕ) → bond_of s i ≡ bond_before lo s i
  -- and "with the same prices": those of the formula as it was
  pub price : (i : ℕ) → price_bits (bond_of s i) ≡ bits_before (bond_before lo s i)

pub record BooksKept (lo : Float) : Type 0 where
  -- a bond that was in range is in range, paid twice a year as every bond was: check 9 of a table asks no more of it
  pub range : (b : Bond) → b.payments ≡ 2 → in_range_before lo b ≡ true → in_range b ≡ true
  -- a term that was read as a bond is read as the same bond
  pub term : (s : List ℕ) (b : Bond) → term_before lo s ≡ Some b → term_of s ≡ Some b
  -- "Books accepted before are accepted with the same prices"
  pub accepted : (s : List ℕ) → verdict_before lo s ≡ 0 → StillAccepted lo s
  -- and only a book refused 7 may get another number
  pub numbers : (s : List ℕ) → verdict_before lo s ≢ 7 → book_verdict s ≡ verdict_before lo s
