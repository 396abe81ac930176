-- Event 2 by parts is event 2 on the table. Assumes nothing.
use mathlib.Core.Path.{◌≡◌, sym}
use Prim.Native.Nat.{ℕ, ◌+◌}
use Rattle.std.proofs.Common.{Some}
use Rattle.table.specs.declared.Table.{Table}
use Rattle.table.specs.Views.{machine_at, told_at}
use Rattle.table.specs.Parts.{waiting, message, FISH}
use Rattle.table.proofs.Refusals.{judged_number}
use Rattle.protocol_change.specs.Change.{parts_at, send_some, made}
use Rattle.protocol_change.proofs.Made.{made_machine}
use Rattle.event_steal.specs.Steal.{stolen, steal_number, steal_of}
use Rattle.event_steal.specs.StealParts.{steal_change}

pub steal_number_lem : (t : Table) (a b : ℕ) → steal_number (machine_at t a) (machine_at t b) (told_at t a b) t.in_flight a b ≡ (steal_of t a b).number
unfolding steal_of
steal_number_lem t a b = sym (judged_number t _ (stolen t a b))

pub made_stolen : (t : Table) (a b j : ℕ) → made t a j (steal_change (parts_at t a j) a b) ≡ stolen t a b
unfolding steal_change parts_at send_some message stolen
made_stolen t a b j = made_machine t a j (waiting (machine_at t a) (b + 1)) (Some (message FISH a b 0 0 0))
