-- Both ways in which opening a book ends. Assumes nothing.
use Rattle.std.proofs.Common.{ℕ, ◌≡◌, List, Result, Ok, Err, IsErr, IsErrAnd}
use borrow.Author.Tests.{ne_eqb}
use Rattle.book.specs.Book.{book_verdict}
use Rattle.refusal.specs.declared.Refusal.{Refusal}
use Rattle.refusal.specs.Numbers.{number_of}
use Rattle.refusal.proofs.Passed.{not_zero}
use Rattle.table.specs.declared.Table.{Table}
use Rattle.table.specs.Views.{refuse}
use Rattle.table_opening.specs.Opening.{fresh_of, open_of, opened}

pub book_refused : (s : List ℕ) (r : Result Table Refusal) (e : Refusal) → IsErr r × IsErrAnd r (λ x. x ≡ e)
    → number_of e ≡ book_verdict s → opened r ≡ open_of s
unfolding open_of
book_refused s (Ok t) e h q = absurd h.1
book_refused s (Err x) e h q = rw (h.1, q, ne_eqb (book_verdict s) 0 (not_zero e _ q))

pub book_accepted : (s : List ℕ) (t : Table) → 0 ≡ book_verdict s → t ≡ fresh_of s → refuse 0 t ≡ open_of s
unfolding open_of
book_accepted s t q e = rw (e, ← q)
