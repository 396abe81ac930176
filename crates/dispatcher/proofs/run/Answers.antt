-- `dispatcher::run` meets its contract. Assumes nothing.
use mathlib.Core.Path.{◌∙◌}
use native.Mathlib.Omega.{arith}
use Rattle.lists.specs.Scan.{tabulate}
use Rattle.table.proofs.Long.{long}
use Rattle.dispatcher.specs.Events.{event_at}
use Rattle.dispatcher.proofs.Preserved.{run_ok, run_sized}
use Rattle.dispatcher.proofs.Ready.{passed_sized, passed}
use Rattle.dispatcher.proofs.Turns.{turn_none, turn_more, turn_end}
use Rattle.dispatcher.proofs.run.Goals as goal

pub loop-i-init : goal.loop-i-init
loop-i-init c = turn_none _ _ _

pub apply-answer-requires : goal.apply-answer-requires
apply-answer-requires c =
    let t = c.args.t in
    let es = tabulate (event_at c.args.s.now) c.loop-i.i in
    let s = passed_sized t (long t _ c.well_formed.0) c.requires.t_value in
    rw c.loop-i.invariant.table (passed _ (run_sized t es s) (run_ok t es s c.requires.t_value))

pub loop-i-preserved : goal.loop-i-preserved
loop-i-preserved c =
    let a = c.apply-answer.ensures in
    let e = c.event_at.ensures in
    turn_more _ _ _ _ _ _ _ _ c.loop-i.invariant (omega (arith, c.loop-i-test.true, c.requires.s_len_bound.1))
    (rw e at a.table_after) (rw e at (c.answer.ensures ∙ a.number))

pub returns : goal.returns
returns c =
    let e = turn_end c.args.t c.args.s.now c.args.numbers.now c.loop-i.i _ _ (omega arith) c.loop-i.invariant in
    record { value = e.0; numbers_after = e.1 }
