-- `book::holds` meets its contract. The invariant: each entry before k has another identifier. Assumes nothing.
use borrow.Author.Rules.{rules}
use mathlib.Core.Path.{ap, ◌∙◌}
use mathlib.Core.Bool.{not}
use Rattle.lists.proofs.Scans.{all_none, all_more, all_end}
use Rattle.book.proofs.Faults.{compared, found, missed}
use Rattle.book.proofs.holds.Goals as goal

pub loop-k-init : goal.loop-k-init
loop-k-init c = all_none _

pub returns-then-equal : goal.returns-then-equal
returns-then-equal c =
    found _ _ _ c.loop-k.k (search rules)
    (compared _ _ _ _ _ c.identifier_at.ensures c.equal.ensures ∙ ap not c.if-equal.true)

pub loop-k-preserved : goal.loop-k-preserved
loop-k-preserved c =
    all_more _ _ c.loop-k.invariant
    (compared _ _ _ _ _ c.identifier_at.ensures c.equal.ensures ∙ ap not c.if-equal.false)

pub returns : goal.returns
returns c = missed _ _ _ (all_end _ _ _ (search rules) (search rules) c.loop-k.invariant)
