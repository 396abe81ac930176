-- Events 4 and 5 by parts are events 4 and 5 on the table. Assumes nothing.
use mathlib.Core.Path.{◌≡◌, sym}
use Prim.Native.Nat.{ℕ}
use Rattle.std.proofs.Common.{None, Some}
use Rattle.pricer.specs.Price.{price_bits}
use Rattle.table.specs.declared.Machine.{Machine}
use Rattle.table.specs.declared.Table.{Table}
use Rattle.table.specs.Views.{bond_at, machine_at, pool_at}
use Rattle.table.specs.Parts.{running, result}
use Rattle.table.proofs.Refusals.{judged_number}
use Rattle.protocol_change.specs.Change.{parts_at, send_some, made}
use Rattle.protocol_change.proofs.Made.{made_machine, made_machine_cell}
use Rattle.event_start_done.specs.StartDone.{started, start_number, start_of, finished, done_number, done_of}
use Rattle.event_start_done.specs.StartDoneParts.{start_change, done_change}

pub start_number_lem : (t : Table) (a b : ℕ) → start_number (machine_at t a) (pool_at t a b) ≡ (start_of t a b).number
unfolding start_of
start_number_lem t a b = sym (judged_number t _ (started t a b))

pub made_started : (t : Table) (a b : ℕ) → made t a b (start_change (parts_at t a b) b) ≡ started t a b
unfolding start_change parts_at send_some started
made_started t a b = made_machine_cell t a b (running (machine_at t a) b (pool_at t a b)) 0 None

pub done_number_lem : (t : Table) (a : ℕ) → done_number (machine_at t a) t.in_flight ≡ (done_of t a).number
unfolding done_of
done_number_lem t a = sym (judged_number t _ (finished t a))

-- whichever job the parts hold: Done leaves it as it was
pub made_finished : (t : Table) (a j : ℕ)
    → made t a j (done_change (parts_at t a j) a (price_bits (bond_at t (machine_at t a).running_job))) ≡ finished t a
unfolding done_change parts_at send_some result finished
made_finished t a j =
    made_machine t a j (running n 0 0) (Some (result a n.running_job n.running_replica (price_bits (bond_at t n.running_job))))
  where
    n : Machine
    n = machine_at t a
