-- Request 2.3: "a book whose spare bytes are 0 prices to the same bits." The claim is `SpareBytes`, over the reader and the formula as they were
-- before the request; its proof is in proofs/Spare.antt. Definitions only.
use Rattle.std.specs.Prelude.{ℕ, ◌<◌, ◌≡◌, List, get_or}
use Rattle.pricer.specs.Price.{price_bits}
use Rattle.pricer.specs.Range.{lowest_yield}
use Rattle.book.specs.Book.{raw_entry_count, term_at, book_verdict}
use Rattle.book.specs.Parts.{bond_of}
use Rattle.book_before.specs.Formula.{bits_before}
use Rattle.book_before.specs.Before.{verdict_before, bond_before}

-- the spare byte of every entry's term is 0
abbrev pub SparesClear : List ℕ → Type 0
SparesClear s = (i : ℕ) → i < raw_entry_count s → get_or (term_at s (raw_entry_count s) i) 2 0 ≡ 0

pub record SpareBytes : Type 0 where
  -- a book whose spare bytes are 0 gets the number that it got,
  pub number : (s : List ℕ) → SparesClear s → book_verdict s ≡ verdict_before lowest_yield s
  -- its entries have the bonds that they had,
  pub bond : (s : List ℕ) → SparesClear s → (i : ℕ) → bond_of s i ≡ bond_before lowest_yield s i
  -- and it "prices to the same bits", those of the formula as it was
  pub price : (s : List ℕ) → SparesClear s → (i : ℕ) → price_bits (bond_of s i) ≡ bits_before (bond_before lowest_yield s i)
