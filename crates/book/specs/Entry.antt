-- An entry that is handed over, beside the first n entries of a book: document 01's row "Lowest faulty entry" for an identifier and terms wherever
-- they stand. The fault of an entry of the book (`fault_at`) is that of its own parts: proofs/Faults.antt, `fault_is`. Definitions only.
use Rattle.std.specs.Prelude.{ℕ, Bool, not, cond, List, eqb}
use Rattle.lists.specs.Scan.{all}
use Rattle.isin.specs.Isin.{verdict_of}
use Rattle.book_term.specs.Term.{term_of, term_number}
use Rattle.book.specs.Book.{identifier_at, same_bytes}

-- one of the first n entries of s has the identifier id
unfoldable pub holds : List ℕ → ℕ → List ℕ → Bool
holds s n id = not (all (λ k. not (same_bytes (identifier_at s k) id)) n)

-- 4 "identifier form" and 5 "check digit" first, then 6 "equals an earlier identifier", then 7 "term outside the rules"; or 0
unfoldable pub entry_fault : List ℕ → ℕ → List ℕ → List ℕ → ℕ
entry_fault s n id term =
    cond (not (eqb (verdict_of id) 0)) (verdict_of id)
    (cond (holds s n id) 6
    (term_number (term_of term)))
