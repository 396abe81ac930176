-- `event_notice::reissue` meets its contract. The loop keeps: the jobs before j have had their turn.
-- Assumes nothing.
use mathlib.Core.Path.{◌∙◌, sym}
use native.Mathlib.Omega.{arith}
use Rattle.lists.proofs.Scans.{up_end, up_more, up_none}
use Rattle.table.specs.Views.{parts}
use Rattle.event_notice.proofs.Parts.{reissue_unaffected, reissue_affected, open_before}
use Rattle.event_notice.specs.Notice.{reissue}
use Rattle.event_notice.proofs.reissue.Goals as goal
use Rattle.event_notice.proofs.reissue.Goals.{then-affected, else-affected}

pub loop-j-init : goal.loop-j-init
loop-j-init c = up_none _ _

pub overflow_add-v : goal.overflow_add-v
unfolding parts
overflow_add-v c = let h = c.requires c.loop-j.j (omega arith) in omega arith

pub open_on_root-u-requires : goal.open_on_root-u-requires
unfolding parts
open_on_root-u-requires c =
    let l = c.loop-j in
    let a = c.args in
    (omega arith, open_before a.t l.u a.b l.j l.invariant (sym c.affected.ensures ∙ c.if-affected.true))

pub loop-j-preserved : goal.loop-j-preserved
unfolding parts
loop-j-preserved c =
    elim c.if-affected.branch [
      | then-affected w ↦
          w.u-is ∙ w.open_on_root-u.ensures
          ∙ reissue_affected _ _ _ _ (sym c.affected.ensures ∙ w.if-affected.true)
          ∙ up_more _ _ _ _ c.loop-j.invariant
      | else-affected w ↦
          w.u-is ∙ reissue_unaffected _ _ _ _ (sym c.affected.ensures ∙ w.if-affected.false)
          ∙ up_more _ _ _ _ c.loop-j.invariant
    ]

pub returns : goal.returns
unfolding reissue
returns c = up_end _ _ 64 _ _ (omega arith) (omega arith) c.loop-j.invariant
