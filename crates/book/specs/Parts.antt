-- What an accepted book hands out: its sizes, the identifier of an entry as that part of the book, and the bond of an entry. Definitions only.
use Rattle.std.specs.Prelude.{ℕ, ◌≡◌, ◌⊎◌, not, cond, List, [], ltb, eqb, Option, unwrap_or, Result, Ok, Err}
use Rattle.std.specs.Borrow.{Bor}
use Rattle.refusal.specs.declared.Refusal.{Refusal}
use Rattle.pricer.specs.Bonds.{no_bond}
use Rattle.pricer.specs.declared.Bond.{Bond}
use Rattle.endian.specs.Endian.{le16}
use Rattle.book_term.specs.Term.{term_of}
use Rattle.book.specs.Book.{identifier_at, term_at, book_verdict}

-- the two sizes stand at bytes 0 and 2
abbrev pub IsSize : ℕ → Type 0
IsSize at = (at ≡ 0) ⊎ (at ≡ 2)

-- a size of an accepted book; a faulty book opens no table, and its sizes are 0
unfoldable pub size_at : List ℕ → ℕ → ℕ
size_at s at = cond (eqb (book_verdict s) 0) (le16 s at) 0

-- the machine count of an accepted book
abbrev pub machine_count_of : List ℕ → ℕ
machine_count_of s = size_at s 0

-- n of an accepted book
abbrev pub entry_count_of : List ℕ → ℕ
entry_count_of s = size_at s 2

-- "The identifier of an entry is handed back as that part of the book. A faulty book .., an entry number of n or more .., both with an empty part."
unfoldable pub identifier_of : List ℕ → ℕ → List ℕ
identifier_of s i = cond (ltb i (entry_count_of s)) (identifier_at s i) []

-- "A faulty book gives its own number, an entry number of n or more gives 11"
unfoldable pub identifier_number : List ℕ → ℕ → ℕ
identifier_number s i =
    cond (not (eqb (book_verdict s) 0)) (book_verdict s)
    (cond (ltb i (entry_count_of s)) 0 11)

-- the part that a result hands back: the empty part beside a refusal
abbrev pub part_of : Result (Bor (List ℕ)) Refusal → List ℕ
part_of (Ok part) = part.now
part_of (Err r) = []

-- the bond that was read
abbrev pub bond_in : Option Bond → Bond
bond_in r = unwrap_or r no_bond

-- "Once read, a bond's terms are one of two cases": the bond of entry i of n
unfoldable pub term_bond_at : List ℕ → ℕ → ℕ → Bond
term_bond_at s n i = bond_in (term_of (term_at s n i))

-- that of an accepted book, for an entry number below n
unfoldable pub bond_of : List ℕ → ℕ → Bond
bond_of s i = cond (ltb i (entry_count_of s)) (term_bond_at s (entry_count_of s) i) no_bond
