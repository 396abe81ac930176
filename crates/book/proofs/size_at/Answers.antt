-- `book::size_at` meets its contract: a size of an accepted book fits a byte. Assumes nothing.
use mathlib.Core.Path.{◌≡◌, sym, ◌∙◌}
use native.Mathlib.Omega.{arith}
use mathlib.Core.Logic.{⊎_elim}
use Rattle.refusal.proofs.Passed.{refused_number, accepted_number}
use Rattle.book.specs.Book.{book_verdict}
use Rattle.book.proofs.Accepted.{accepted, accepted_size, refused_size, size_small}
use Rattle.book.proofs.size_at.Goals as goal
use Rattle.book.proofs.size_at.Goals.{Else-is_err}

zero : (c : Else-is_err) → book_verdict c.args.s.now ≡ 0
zero c = sym c.verdict.ensures ∙ accepted_number _ (sym c.if-is_err.ensures.value)

pub returns-then-is_err : goal.returns-then-is_err
returns-then-is_err c =
    let p = refused_number _ (sym c.if-is_err.ensures.value) in sym (refused_size _ _ (λ z. omega (arith, c.verdict.ensures, z, p)))

pub u16_at-requires : goal.u16_at-requires
u16_at-requires c = let a = accepted _ (zero (goal.at.u16_at-requires c).Else-is_err) in let f = a.four in ⊎_elim (λ q. omega arith) (λ q. omega arith) c.requires

pub overflow_cast-result : goal.overflow_cast-result
overflow_cast-result c = let b = size_small _ _ (zero (goal.at.overflow_cast-result c).Else-is_err) c.requires in omega (arith, c.u16_at.ensures)

pub returns : goal.returns
returns c = c.u16_at.ensures ∙ sym (accepted_size _ _ (zero (goal.at.returns c).Else-is_err))
