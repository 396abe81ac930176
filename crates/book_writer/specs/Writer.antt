-- Document 02, 2.2, "Adding an entry to a book": "it takes a buffer whose first bytes, of a stated count, are a book, and one identifier with its
-- terms, and leaves in the buffer the book with that entry last." Definitions only.
use Rattle.std.specs.Prelude.{ℕ, ◌+◌, ◌*◌, not, cond, List, [], ◌∷◌, ◌++◌, leb, ltb, eqb, length, take, drop}
use Rattle.book.specs.Book.{book_verdict}
use Rattle.book.specs.Parts.{machine_count_of, entry_count_of}
use Rattle.book.specs.Entry.{entry_fault}

-- ---- the bytes of a book

-- "Bytes 0 and 1: machine count .. Bytes 2 and 3: entry count n .. Both are little-endian": an accepted book has both below 256
abbrev pub head : ℕ → ℕ → List ℕ
head machines n = machines ∷ 0 ∷ n ∷ 0 ∷ []

-- "Sizes first, then two parallel arrays": n identifiers, then n terms
unfoldable pub laid : ℕ → ℕ → List ℕ → List ℕ → List ℕ
laid machines n ids terms = head machines n ++ (ids ++ terms)

-- "n identifiers of 12 bytes": those of an accepted book
unfoldable pub identifiers : List ℕ → List ℕ
identifiers s = take (12 * entry_count_of s) (drop 4 s)

-- "then n terms of 19 bytes"
unfoldable pub terms : List ℕ → List ℕ
terms s = drop (12 * entry_count_of s) (drop 4 s)

-- "the book with that entry last"
unfoldable pub grown : List ℕ → List ℕ → List ℕ → List ℕ
grown s id term = laid (machine_count_of s) (entry_count_of s + 1) (identifiers s ++ id) (terms s ++ term)

-- ---- the number

-- for the book s in a buffer of `size` bytes: "In this order: a faulty book is refused by its own number, a 65th entry by 2, a faulty entry
-- by 4 to 7."; "23, buffer shorter than the grown book, checked last."
unfoldable pub book_number : List ℕ → ℕ → List ℕ → List ℕ → ℕ
book_number s size id term =
    cond (not (eqb (book_verdict s) 0)) (book_verdict s)
    (cond (leb 64 (entry_count_of s)) 2
    (cond (not (eqb (entry_fault s (entry_count_of s) id term) 0)) (entry_fault s (entry_count_of s) id term)
    (cond (ltb size (length (grown s id term))) 23 0)))

-- "A stated count past the buffer's end is refused 3 before all else."
unfoldable pub add_number : List ℕ → ℕ → List ℕ → List ℕ → ℕ
add_number buffer count id term = cond (ltb (length buffer) count) 3 (book_number (take count buffer) (length buffer) id term)

-- ---- the buffer

-- the book s at the front of the buffer
abbrev pub onto : List ℕ → List ℕ → List ℕ
onto s buffer = s ++ drop (length s) buffer

-- "The bytes past the grown book are untouched."; document 01: "A refusal returns its number; table and buffers are unchanged"
unfoldable pub add_bytes : List ℕ → ℕ → List ℕ → List ℕ → List ℕ
add_bytes buffer count id term =
    cond (eqb (add_number buffer count id term) 0) (onto (grown (take count buffer) id term) buffer) buffer
