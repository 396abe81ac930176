-- `page_run::put_refusals` meets its contract. The invariant of its loop: the lines of the first k numbers are written.
-- Assumes nothing.
use Rattle.page_run.proofs.Turns.{Lines}
use Rattle.page_run.proofs.put_refusals.Given as goal

abbrev pub invariant-loop-k : goal.invariant-loop-k
invariant-loop-k l = Lines l.numbers l.initial.c l.k l.c
