-- The numbers of events 1, 3 and 6 and the change of event 1, by parts, are those on the table. Assumes nothing.
use mathlib.Core.Path.{◌≡◌, sym}
use Prim.Native.Nat.{ℕ, max}
use Rattle.std.proofs.Common.{None}
use Rattle.table.specs.declared.Table.{Table}
use Rattle.table.specs.Views.{job_at, machine_at, pool_at}
use Rattle.table.specs.Messages.{oldest}
use Rattle.table.specs.Pools.{enter}
use Rattle.table.specs.Parts.{opened}
use Rattle.table.proofs.Refusals.{judged_number}
use Rattle.table.proofs.Views.{views}
use Rattle.protocol_change.specs.Change.{parts_at, send_some, made}
use Rattle.protocol_change.proofs.Made.{made_job_cell}
use Rattle.event_admit_deliver_die.specs.AdmitDeliverDie.{admitted, admit_number, admit_of, delivered, deliver_number, deliver_of, died, die_number, die_of}
use Rattle.event_admit_deliver_die.specs.AdmitDeliverDieParts.{admit_change}

pub admit_number_lem : (t : Table) (a : ℕ) → admit_number (job_at t a) ≡ (admit_of t a).number
unfolding admit_of
admit_number_lem t a = sym (judged_number t _ (admitted t a))

pub made_admitted : (t : Table) (a : ℕ) → made t 0 a (admit_change (parts_at t 0 a)) ≡ admitted t a
unfolding admit_change parts_at send_some admitted enter
made_admitted t a = simp views (made_job_cell t 0 a (opened 1) (max (pool_at t 0 a) 1) None)

pub deliver_number_lem : (t : Table) (a b : ℕ) → deliver_number t.in_flight (oldest t a b) ≡ (deliver_of t a b).number
unfolding deliver_of
deliver_number_lem t a b = sym (judged_number t _ (delivered t (oldest t a b)))

pub die_number_lem : (t : Table) (a : ℕ) → die_number a (machine_at t a) ≡ (die_of t a).number
unfolding die_of
die_number_lem t a = sym (judged_number t _ (died t a))
