-- What a thief makes of itself and of a cell in its pool, made on a table, is what specs/Thief.antt says. Assumes nothing.
use mathlib.Core.Path.{◌≡◌}
use Prim.Native.Nat.{ℕ, max}
use Rattle.std.proofs.Common.{None, Some}
use Rattle.table.specs.declared.Message.{Message}
use Rattle.table.specs.declared.Table.{Table}
use Rattle.table.specs.Views.{machine_at, pool_at}
use Rattle.table.specs.Pools.{enter}
use Rattle.table.specs.Parts.{waiting, message, ACK}
use Rattle.protocol_change.specs.Change.{parts_at, send_some, made}
use Rattle.protocol_change.proofs.Made.{made_machine, made_machine_cell}
use Rattle.handler_thief.specs.Thief.{on_schedule, on_no_work}
use Rattle.handler_thief.specs.ThiefParts.{schedule_change, no_work_change}

module _ (t : Table) (m : Message) where
  pub made_schedule : made t m.to m.job (schedule_change (parts_at t m.to m.job) m) ≡ on_schedule t m
  unfolding schedule_change on_schedule enter message send_some parts_at
  made_schedule =
      made_machine_cell t m.to m.job (waiting (machine_at t m.to) 0) (max (pool_at t m.to m.job) m.replica)
      (Some (message ACK m.to 0 m.job m.replica 0))

  -- whichever job the parts are of
  pub made_no_work : (j : ℕ) → made t m.to j (no_work_change (parts_at t m.to j)) ≡ on_no_work t m
  unfolding no_work_change on_no_work send_some parts_at
  made_no_work j = made_machine t m.to j (waiting (machine_at t m.to) 0) None
