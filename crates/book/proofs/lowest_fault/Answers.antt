-- `book::lowest_fault` meets its contract. The invariant: no entry before i is faulty. Assumes nothing.
use borrow.Author.Rules.{rules}
use mathlib.Core.Path.{sym, ap, ◌∙◌}
use mathlib.Core.Bool.{not}
use borrow.Author.Tests.{eq-eqb}
use native.Mathlib.Nat.{le_antisymm}
use Rattle.lists.proofs.Scans.{least_none, least_more, least_end}
use Rattle.refusal.proofs.Passed.{passed_on, not_zero}
use Rattle.book.proofs.Faults.{first_fault, no_fault}
use Rattle.book.proofs.lowest_fault.Goals as goal

pub loop-i-init : goal.loop-i-init
loop-i-init c = least_none _

pub returns-in_err-fault : goal.returns-in_err-fault
returns-in_err-fault c =
    let e = c.in_err-fault.ensures in
    passed_on _ _ c.from_residual.ensures
    ∙ e ∙ first_fault _ _ c.loop-i.i (search rules) c.loop-i.invariant (not_zero c.in_err-fault.field-0.0 _ e)

pub loop-i-preserved : goal.loop-i-preserved
loop-i-preserved c =
    least_more _ _ c.loop-i.invariant (ap not (eq-eqb _ _ (sym c.in_ok-fault.ensures)))

pub returns : goal.returns
returns c = no_fault _ _ (sym (least_end _ _ _ (search rules) (search rules) c.loop-i.invariant)
    ∙ le_antisymm (search rules) c.loop-i-test.false)
