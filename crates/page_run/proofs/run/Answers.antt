-- `page_run::run` meets its contract: the table is that of the run, and the lines are those of its numbers.
-- Assumes nothing.
use native.Mathlib.Omega.{arith}
use Rattle.dispatcher.specs.Events.{events_in}
use Rattle.page_run.proofs.Turns.{answers_most, front}
use Rattle.page_run.proofs.run.Goals as goal

pub put_refusals-requires-clause-by_index : goal.put_refusals-requires-clause-by_index
put_refusals-requires-clause-by_index c =
    rw (front c.args.t c.args.s.now _ _ c.run-table.ensures.numbers_after) (answers_most c.args.t (events_in c.args.s.now))

pub returns : goal.returns
returns c =
    let r = c.run-table.ensures in
    let n = c.new-c.ensures in
    let p = c.put_refusals.ensures in
    let w = rw (front c.args.t c.args.s.now _ _ r.numbers_after, n.text, n.at) at p.written in
    record { table = r.value; lines = record { text = grind (arith, w.text, p.same, n.same_reference); end = w.end } }
