-- What opening a book gives the page: a number of one digit. Assumes nothing.
use Rattle.std.proofs.Common.{Option, None, Some}
use Rattle.pricer.specs.declared.Bond.{Bond}
use Prim.Native.Nat.{ℕ, ◌≤◌}
use mathlib.Core.List.{List}
use native.Mathlib.Omega.{arith}
use Rattle.std.proofs.lemmas.Bool.Decides.{nat_tests}
use Rattle.isin.specs.Isin.{verdict_of}
use Rattle.book_term.specs.Term.{term_of, term_number}
use Rattle.book.specs.Book.{identifier_at, term_at, fault_at, lowest_fault}
use Rattle.book.specs.Book.{book_verdict}
use Rattle.table_opening.specs.Opening.{open_of}
use Rattle.table_opening.proofs.Shown.{opened_number}

-- ---- the numbers of a book

identifier_small : (s : List ℕ) → verdict_of s ≤ 7
unfolding verdict_of
identifier_small s = grind (arith, nat_tests)

term_small : (r : Option Bond) → term_number r ≤ 7
term_small None = omega arith
term_small (Some b) = omega arith

fault_small : (s : List ℕ) (n i : ℕ) → fault_at s n i ≤ 7
unfolding fault_at
fault_small s n i = grind (arith, nat_tests, identifier_small (identifier_at s i), term_small (term_of (term_at s n i)))

lowest_small : (s : List ℕ) (n : ℕ) → lowest_fault s n ≤ 7
unfolding lowest_fault
lowest_small s n = grind (arith, nat_tests, fault_small)

pub verdict_small : (s : List ℕ) → book_verdict s ≤ 7
unfolding book_verdict
verdict_small s = grind (arith, nat_tests, lowest_small)

-- ---- opening it

pub number_small : (s : List ℕ) → (open_of s).number ≤ 7
number_small s = rw (opened_number s) (verdict_small s)
