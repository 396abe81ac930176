-- The claim about the writer called again and again: "each accepted book can be built from its empty one in this way". Proved in proofs/Built.antt.
-- Definitions only.
use Rattle.std.specs.Prelude.{ℕ, ◌+◌, ◌*◌, ◌≤◌, ◌<◌, ◌≡◌, List, [], ◌++◌, length, drop}
use Rattle.lists.specs.Scan.{up_to}
use Rattle.book.specs.Book.{term_at, book_verdict}
use Rattle.book.specs.Parts.{machine_count_of, entry_count_of, identifier_of}
use Rattle.book_writer.specs.Writer.{laid, add_number, add_bytes}

-- "its empty one": "n = 0 is a book of 4 bytes", with the same machine count
abbrev pub empty_book : ℕ → List ℕ
empty_book machines = laid machines 0 [] []

-- the 19 bytes of entry k of an accepted book
abbrev pub term_of_entry : List ℕ → ℕ → List ℕ
term_of_entry s k = term_at s (entry_count_of s) k

-- the number that the writer answers when it is handed entry k of s, and the buffer starts with a book of k entries
abbrev pub adding_number : List ℕ → ℕ → List ℕ → ℕ
adding_number s k buffer = add_number buffer (4 + 31 * k) (identifier_of s k) (term_of_entry s k)

-- the buffer that it leaves
abbrev pub adding : List ℕ → ℕ → List ℕ → List ℕ
adding s k buffer = add_bytes buffer (4 + 31 * k) (identifier_of s k) (term_of_entry s k)

-- the buffer after the first k entries of s, from the empty book with any bytes after it
unfoldable pub built : List ℕ → List ℕ → ℕ → List ℕ
built s rest k = up_to (adding s) k (empty_book (machine_count_of s) ++ rest)

-- each call is answered 0; after the last the book itself stands in the buffer, byte for byte, and after it what stood there; and where the buffer
-- is as long as the book, it is the book
pub record Builds (s rest : List ℕ) : Type 0 where
  pub answers : (k : ℕ) → k < entry_count_of s → adding_number s k (built s rest k) ≡ 0
  pub bytes : built s rest (entry_count_of s) ≡ s ++ drop (31 * entry_count_of s) rest
  pub exactly : length rest ≡ 31 * entry_count_of s → built s rest (entry_count_of s) ≡ s

-- so it is of each accepted book, in a buffer that is long enough
abbrev pub BuildsEvery : Type 0
BuildsEvery = (s rest : List ℕ) → book_verdict s ≡ 0 → 31 * entry_count_of s ≤ length rest → Builds s rest
