-- `dispatcher::run` meets its contract. The invariant of its loop: the first i events have been run, and their numbers stand at the front of the buffer.
-- Assumes nothing.
use Rattle.dispatcher.proofs.Turns.{Turn}
use Rattle.dispatcher.proofs.run.Given as goal

abbrev pub invariant-loop-i : goal.invariant-loop-i
invariant-loop-i l = Turn l.initial.u l.s l.initial.numbers l.i l.u l.numbers
