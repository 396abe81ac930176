-- The claims about one call of the writer: what reading the result shows; that the number of an entry is the one that the reader gives to the grown
-- book; what an identifier and terms of other lengths get. Each is proved in proofs/Shown.antt. Definitions only.
use Rattle.std.specs.Prelude.{ℕ, ◌+◌, ◌≤◌, ◌<◌, ◌≡◌, ◌≢◌, false, cond, List, eqb, length, take, drop}
use Rattle.isin.specs.Isin.{verdict_of}
use Rattle.book_term.specs.Term.{term_of}
use Rattle.book.specs.Book.{book_verdict}
use Rattle.book.specs.Parts.{machine_count_of, entry_count_of, identifier_of, identifier_number, bond_in, bond_of}
use Rattle.book.specs.Entry.{holds}
use Rattle.book_writer.specs.Writer.{grown, book_number, add_number, add_bytes}

-- x at n, and f at every other number
abbrev pub with_last : {A : Type 0} → ℕ → A → (ℕ → A) → ℕ → A
with_last n x f i = cond (eqb i n) x (f i)

-- "Reading the result must show the old entries in order and then the new one": of the book s, and the book g that is left. g is accepted, for as
-- many machines, and has one entry more. At every entry number the reader hands out the identifier, its number and the bond that it did of s, but
-- at n of s, the first entry number that s has not, those of the new entry
pub record Shows (s id term g : List ℕ) : Type 0 where
  pub accepted : book_verdict g ≡ 0
  pub machines : machine_count_of g ≡ machine_count_of s
  pub entries : entry_count_of g ≡ entry_count_of s + 1
  pub identifier : (i : ℕ) → identifier_of g i ≡ with_last (entry_count_of s) id (identifier_of s) i
  pub number : (i : ℕ) → identifier_number g i ≡ with_last (entry_count_of s) 0 (identifier_number s) i
  pub bond : (i : ℕ) → bond_of g i ≡ with_last (entry_count_of s) (bond_in (term_of term)) (bond_of s) i

-- the buffer that the writer leaves: the first count + 31 bytes are that book, and "The bytes past the grown book are untouched."
pub record Added (buffer : List ℕ) (count : ℕ) (id term : List ℕ) : Type 0 where
  pub shows : Shows (take count buffer) id term (take (count + 31) (add_bytes buffer count id term))
  pub untouched : drop (count + 31) (add_bytes buffer count id term) ≡ drop (count + 31) buffer

-- so it is wherever the writer answers 0
abbrev pub ShowsEntries : Type 0
ShowsEntries = (buffer : List ℕ) (count : ℕ) (id term : List ℕ) → add_number buffer count id term ≡ 0 → Added buffer count id term

-- the number for an accepted book, an identifier of 12 bytes, terms of 19 and a buffer that is long enough is the one that the reader gives to the
-- grown book: 2 for a 65th entry, 4 to 7 for a faulty one, or 0
abbrev pub ReadersNumber : Type 0
ReadersNumber = (s : List ℕ) (size : ℕ) (id term : List ℕ) → book_verdict s ≡ 0 → length id ≡ 12 → length term ≡ 19 → length (grown s id term) ≤ size
    → book_number s size id term ≡ book_verdict (grown s id term)

-- "An identifier not of 12 bytes is refused 4, terms not of 19 bytes 7.": each in its place of the order, so the book is accepted and has fewer than
-- 64 entries, and before the terms the identifier passes and is new
pub record OtherLengths : Type 0 where
  pub identifier : (s : List ℕ) (size : ℕ) (id term : List ℕ) → book_verdict s ≡ 0 → entry_count_of s < 64 → length id ≢ 12 → book_number s size id term ≡ 4
  pub terms : (s : List ℕ) (size : ℕ) (id term : List ℕ) → book_verdict s ≡ 0 → entry_count_of s < 64
      → verdict_of id ≡ 0 → holds s (entry_count_of s) id ≡ false → length term ≢ 19 → book_number s size id term ≡ 7
