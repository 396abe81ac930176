-- `page_run::put_refusals` meets its contract. The invariant of its loop: the lines of the first k numbers are written.
-- Assumes nothing.
use native.Mathlib.Omega.{arith}
use Rattle.page_run.proofs.Turns.{lines_none, lines_same, lines_more}
use Rattle.page_run.proofs.put_refusals.Goals as goal
use Rattle.page_run.proofs.put_refusals.Goals.{then-number-ne0, else-number-ne0}

pub loop-k-init : goal.loop-k-init
loop-k-init c = lines_none c.args.numbers.now c.args.c.now

pub loop-k-preserved : goal.loop-k-preserved
loop-k-preserved c =
    let l = c.loop-k in
    elim c.if-number-ne0.branch [
      | then-number-ne0 w ↦
          rw w.c-is (lines_more _ _ l.k l.c l.invariant (omega arith) _ w.if-number-ne0.true
          (c.requires.by_index l.k)
          (omega (arith, c.requires.numbers_in_bounds))
          w.put_event_refused.ensures)
      | else-number-ne0 w ↦ rw w.c-is (lines_same _ _ l.k l.c l.invariant (omega arith) w.if-number-ne0.false)
    ]
