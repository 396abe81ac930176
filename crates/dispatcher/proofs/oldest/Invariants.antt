-- `dispatcher::oldest` meets its contract. The invariant of its loop: no message before this slot is of the channel. Assumes nothing.
use mathlib.Core.Path.{◌≡◌}
use Rattle.lists.specs.Scan.{least}
use Rattle.table.specs.Views.{message_at}
use Rattle.table.specs.Messages.{in_channel}
use Rattle.dispatcher.proofs.oldest.Given as goal

abbrev pub invariant-loop-i : goal.invariant-loop-i
invariant-loop-i l = least (λ i. in_channel l.a l.b (message_at l.t i)) l.i ≡ l.i
