-- `dispatcher::exchange` meets its contract. The invariant of its loop: the messages after the slot have moved up as far as the loop has come.
-- Assumes nothing.
use mathlib.Core.Path.{◌≡◌}
use Rattle.protocol_messages.proofs.InPlace.{moved_up}
use Rattle.dispatcher.proofs.exchange.Given as goal

abbrev pub invariant-loop-i : goal.invariant-loop-i
invariant-loop-i l = l.t ≡ moved_up l.initial.t l.slot l.i
