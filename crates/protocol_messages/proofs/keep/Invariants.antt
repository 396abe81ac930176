-- `protocol_messages::keep` meets its contract. The loop keeps: `out` holds, from its first slot, the messages passed so far that stay.
-- Assumes nothing.
use Prim.Native.Nat.{◌≤◌}
use lib.ListN.{take}
use mathlib.Core.Bool.{Bool}
use mathlib.Core.Path.{◌≡◌}
use Rattle.lists.proofs.Scans.{Kept}
use Rattle.table.specs.declared.Message.{Message}
use Rattle.table.specs.Views.{no_message}
use Rattle.protocol_messages.proofs.keep.Given as goal

abbrev pub invariant-loop-m : goal.invariant-loop-m
invariant-loop-m g l =
    (l.w ≤ l.m-index)
    × ((p : Message → Bool) → ((m : Message) (b : Bool) → goal.F-post g l.fn.stays m b → b ≡ p m)
    → Kept p (take l.fn.t.in_flight l.fn.t.messages) 128 no_message l.m-index l.w l.out)
