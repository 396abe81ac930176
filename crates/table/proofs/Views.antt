-- The laws of the table's views over its updates. Everything but the proofs of code goes by these, and unfolds no view.
-- Assumes nothing.
use mathlib.Core.Path.{◌≡◌, refl, sym, ◌∙◌}
use mathlib.Core.Logic.{◌≢◌}
use mathlib.Core.List.{List}
use Prim.Native.Nat.{ℕ, ◌+◌, ◌*◌, ◌≤◌, ◌<◌}
use native.Mathlib.Omega.{arith}
use lib.ListN.{length, length-set}
use lib.Seq.{get_or-set_same, get_or-set_other, length-take-le}
use Rattle.table.specs.declared.Job.{Job}
use Rattle.table.specs.declared.Machine.{Machine}
use Rattle.table.specs.declared.Message.{Message}
use Rattle.table.specs.declared.Table.{Table}
use Rattle.lists.proofs.Set.{set_part}
use Rattle.table.specs.Views.{no_job, no_machine, bond_at, job_at, machine_at, pool_at, told_at, message_at, flight, with_job, with_machine, with_pool}
use Rattle.table.specs.Views.{with_told, with_messages, with_machine_count}
use Rattle.table.specs.Needs.{RoomFor}

-- the arrays have their lengths
pub record Sized (t : Table) : Type 0 where
  pub jobs : length t.jobs ≡ 64
  pub machines : length t.machines ≡ 16
  pub told : length t.told ≡ 256
  pub pools : length t.pools ≡ 1024
  pub messages : length t.messages ≡ 128
  pub used : t.in_flight ≤ 128

pub sized_job : (t : Table) (j : ℕ) (v : Job) → Sized t → Sized (with_job t j v)
unfolding with_job
sized_job t j v s =
    record { jobs = simp length-set s.jobs; machines = s.machines; told = s.told; pools = s.pools; messages = s.messages; used = s.used }

pub sized_machine : (t : Table) (m : ℕ) (v : Machine) → Sized t → Sized (with_machine t m v)
unfolding with_machine
sized_machine t m v s =
    record { jobs = s.jobs; machines = simp length-set s.machines; told = s.told; pools = s.pools; messages = s.messages; used = s.used }

pub sized_pool : (t : Table) (m j r : ℕ) → Sized t → Sized (with_pool t m j r)
unfolding with_pool
sized_pool t m j r s =
    record { jobs = s.jobs; machines = s.machines; told = s.told; pools = simp length-set s.pools; messages = s.messages; used = s.used }

pub sized_told : (t : Table) (m d r : ℕ) → Sized t → Sized (with_told t m d r)
unfolding with_told
sized_told t m d r s =
    record { jobs = s.jobs; machines = s.machines; told = simp length-set s.told; pools = s.pools; messages = s.messages; used = s.used }

pub sized_messages : (t : Table) (n : ℕ) (l : List Message) → length l ≡ 128 → n ≤ 128 → Sized t → Sized (with_messages t n l)
unfolding with_messages
sized_messages t n l e h s = record { jobs = s.jobs; machines = s.machines; told = s.told; pools = s.pools; messages = e; used = h }

pub sized_machine_count : (t : Table) (n : ℕ) → Sized t → Sized (with_machine_count t n)
unfolding with_machine_count
sized_machine_count t n s =
    record { jobs = s.jobs; machines = s.machines; told = s.told; pools = s.pools; messages = s.messages; used = s.used }

-- ---- a part after its own update
module _ (t : Table) (s : Sized t) where
  pub job_same : (j : ℕ) (v : Job) → j < 64 → job_at (with_job t j v) j ≡ v
  unfolding job_at with_job
  job_same j v h = get_or-set_same t.jobs j v no_job (omega arith)

  pub machine_same : (m : ℕ) (v : Machine) → m < 16 → machine_at (with_machine t m v) m ≡ v
  unfolding machine_at with_machine
  machine_same m v h = get_or-set_same t.machines m v no_machine (omega arith)

  pub pool_same : (m j r : ℕ) → m < 16 → j < 64 → pool_at (with_pool t m j r) m j ≡ r
  unfolding pool_at with_pool
  pool_same m j r h k = get_or-set_same t.pools (m * 64 + j) r 0 (omega arith)

  pub told_same : (m j r : ℕ) → m < 16 → j < 16 → told_at (with_told t m j r) m j ≡ r
  unfolding told_at with_told
  told_same m j r h k = get_or-set_same t.told (m * 16 + j) r 0 (omega arith)

  pub length_flight : length (flight t) ≡ t.in_flight
  unfolding flight
  length_flight = length-take-le t.in_flight t.messages (omega arith)

-- ---- a part after the update of another place
pub job_other : (t : Table) (j k : ℕ) (v : Job) → k ≢ j → job_at (with_job t j v) k ≡ job_at t k
unfolding job_at with_job
job_other t j k v h = get_or-set_other t.jobs j k v no_job h

pub machine_other : (t : Table) (j k : ℕ) (v : Machine) → k ≢ j → machine_at (with_machine t j v) k ≡ machine_at t k
unfolding machine_at with_machine
machine_other t j k v h = get_or-set_other t.machines j k v no_machine h

pub pool_other_machine : (t : Table) (m j k i r : ℕ) → j < 64 → i < 64 → k ≢ m → pool_at (with_pool t m j r) k i ≡ pool_at t k i
unfolding pool_at with_pool
pool_other_machine t m j k i r a b h = get_or-set_other t.pools (m * 64 + j) (k * 64 + i) r 0 (omega arith)

pub pool_other_job : (t : Table) (m j k i r : ℕ) → j < 64 → i < 64 → i ≢ j → pool_at (with_pool t m j r) k i ≡ pool_at t k i
unfolding pool_at with_pool
pool_other_job t m j k i r a b h = get_or-set_other t.pools (m * 64 + j) (k * 64 + i) r 0 (omega arith)

pub told_other : (t : Table) (m j k i r : ℕ) → j < 16 → i < 16 → i ≢ j → told_at (with_told t m j r) k i ≡ told_at t k i
unfolding told_at with_told
told_other t m j k i r a b h = get_or-set_other t.told (m * 16 + j) (k * 16 + i) r 0 (omega arith)

pub told_other_machine : (t : Table) (m j k i r : ℕ) → j < 16 → i < 16 → k ≢ m → told_at (with_told t m j r) k i ≡ told_at t k i
unfolding told_at with_told
told_other_machine t m j k i r a b h = get_or-set_other t.told (m * 16 + j) (k * 16 + i) r 0 (omega arith)

-- ---- a part after the update of another part
pub bond_job : (t : Table) (j : ℕ) (v : Job) (k : ℕ) → bond_at (with_job t j v) k ≡ bond_at t k
unfolding bond_at with_job
bond_job t j v k = refl

pub bond_machine : (t : Table) (m : ℕ) (v : Machine) (k : ℕ) → bond_at (with_machine t m v) k ≡ bond_at t k
unfolding bond_at with_machine
bond_machine t m v k = refl

pub bond_pool : (t : Table) (m j r : ℕ) (k : ℕ) → bond_at (with_pool t m j r) k ≡ bond_at t k
unfolding bond_at with_pool
bond_pool t m j r k = refl

pub bond_told : (t : Table) (m d r : ℕ) (k : ℕ) → bond_at (with_told t m d r) k ≡ bond_at t k
unfolding bond_at with_told
bond_told t m d r k = refl

pub bond_messages : (t : Table) (n : ℕ) (l : List Message) (k : ℕ) → bond_at (with_messages t n l) k ≡ bond_at t k
unfolding bond_at with_messages
bond_messages t n l k = refl

pub job_machine : (t : Table) (m : ℕ) (v : Machine) (k : ℕ) → job_at (with_machine t m v) k ≡ job_at t k
unfolding job_at with_machine
job_machine t m v k = refl

pub job_pool : (t : Table) (m j r : ℕ) (k : ℕ) → job_at (with_pool t m j r) k ≡ job_at t k
unfolding job_at with_pool
job_pool t m j r k = refl

pub job_told : (t : Table) (m d r : ℕ) (k : ℕ) → job_at (with_told t m d r) k ≡ job_at t k
unfolding job_at with_told
job_told t m d r k = refl

pub job_messages : (t : Table) (n : ℕ) (l : List Message) (k : ℕ) → job_at (with_messages t n l) k ≡ job_at t k
unfolding job_at with_messages
job_messages t n l k = refl

pub machine_job : (t : Table) (j : ℕ) (v : Job) (k : ℕ) → machine_at (with_job t j v) k ≡ machine_at t k
unfolding machine_at with_job
machine_job t j v k = refl

pub machine_pool : (t : Table) (m j r : ℕ) (k : ℕ) → machine_at (with_pool t m j r) k ≡ machine_at t k
unfolding machine_at with_pool
machine_pool t m j r k = refl

pub machine_told : (t : Table) (m d r : ℕ) (k : ℕ) → machine_at (with_told t m d r) k ≡ machine_at t k
unfolding machine_at with_told
machine_told t m d r k = refl

pub machine_messages : (t : Table) (n : ℕ) (l : List Message) (k : ℕ) → machine_at (with_messages t n l) k ≡ machine_at t k
unfolding machine_at with_messages
machine_messages t n l k = refl

pub pool_job : (t : Table) (j : ℕ) (v : Job) (k i : ℕ) → pool_at (with_job t j v) k i ≡ pool_at t k i
unfolding pool_at with_job
pool_job t j v k i = refl

pub pool_machine : (t : Table) (m : ℕ) (v : Machine) (k i : ℕ) → pool_at (with_machine t m v) k i ≡ pool_at t k i
unfolding pool_at with_machine
pool_machine t m v k i = refl

pub pool_told : (t : Table) (m d r : ℕ) (k i : ℕ) → pool_at (with_told t m d r) k i ≡ pool_at t k i
unfolding pool_at with_told
pool_told t m d r k i = refl

pub pool_messages : (t : Table) (n : ℕ) (l : List Message) (k i : ℕ) → pool_at (with_messages t n l) k i ≡ pool_at t k i
unfolding pool_at with_messages
pool_messages t n l k i = refl

pub told_job : (t : Table) (j : ℕ) (v : Job) (k i : ℕ) → told_at (with_job t j v) k i ≡ told_at t k i
unfolding told_at with_job
told_job t j v k i = refl

pub told_machine : (t : Table) (m : ℕ) (v : Machine) (k i : ℕ) → told_at (with_machine t m v) k i ≡ told_at t k i
unfolding told_at with_machine
told_machine t m v k i = refl

pub told_pool : (t : Table) (m j r : ℕ) (k i : ℕ) → told_at (with_pool t m j r) k i ≡ told_at t k i
unfolding told_at with_pool
told_pool t m j r k i = refl

pub told_messages : (t : Table) (n : ℕ) (l : List Message) (k i : ℕ) → told_at (with_messages t n l) k i ≡ told_at t k i
unfolding told_at with_messages
told_messages t n l k i = refl

pub message_job : (t : Table) (j : ℕ) (v : Job) (k : ℕ) → message_at (with_job t j v) k ≡ message_at t k
unfolding message_at with_job
message_job t j v k = refl

pub message_machine : (t : Table) (m : ℕ) (v : Machine) (k : ℕ) → message_at (with_machine t m v) k ≡ message_at t k
unfolding message_at with_machine
message_machine t m v k = refl

pub message_pool : (t : Table) (m j r : ℕ) (k : ℕ) → message_at (with_pool t m j r) k ≡ message_at t k
unfolding message_at with_pool
message_pool t m j r k = refl

pub message_told : (t : Table) (m d r : ℕ) (k : ℕ) → message_at (with_told t m d r) k ≡ message_at t k
unfolding message_at with_told
message_told t m d r k = refl

pub flight_job : (t : Table) (j : ℕ) (v : Job) → flight (with_job t j v) ≡ flight t
unfolding flight with_job
flight_job t j v = refl

pub flight_machine : (t : Table) (m : ℕ) (v : Machine) → flight (with_machine t m v) ≡ flight t
unfolding flight with_machine
flight_machine t m v = refl

pub flight_pool : (t : Table) (m j r : ℕ) → flight (with_pool t m j r) ≡ flight t
unfolding flight with_pool
flight_pool t m j r = refl

pub flight_told : (t : Table) (m d r : ℕ) → flight (with_told t m d r) ≡ flight t
unfolding flight with_told
flight_told t m d r = refl

pub machine_count_job : (t : Table) (j : ℕ) (v : Job) → (with_job t j v).machine_count ≡ t.machine_count
unfolding with_job
machine_count_job t j v = refl

pub machine_count_machine : (t : Table) (m : ℕ) (v : Machine) → (with_machine t m v).machine_count ≡ t.machine_count
unfolding with_machine
machine_count_machine t m v = refl

pub machine_count_pool : (t : Table) (m j r : ℕ) → (with_pool t m j r).machine_count ≡ t.machine_count
unfolding with_pool
machine_count_pool t m j r = refl

pub machine_count_told : (t : Table) (m d r : ℕ) → (with_told t m d r).machine_count ≡ t.machine_count
unfolding with_told
machine_count_told t m d r = refl

pub machine_count_messages : (t : Table) (n : ℕ) (l : List Message) → (with_messages t n l).machine_count ≡ t.machine_count
unfolding with_messages
machine_count_messages t n l = refl

pub entry_count_job : (t : Table) (j : ℕ) (v : Job) → (with_job t j v).entry_count ≡ t.entry_count
unfolding with_job
entry_count_job t j v = refl

pub entry_count_machine : (t : Table) (m : ℕ) (v : Machine) → (with_machine t m v).entry_count ≡ t.entry_count
unfolding with_machine
entry_count_machine t m v = refl

pub entry_count_pool : (t : Table) (m j r : ℕ) → (with_pool t m j r).entry_count ≡ t.entry_count
unfolding with_pool
entry_count_pool t m j r = refl

pub entry_count_told : (t : Table) (m d r : ℕ) → (with_told t m d r).entry_count ≡ t.entry_count
unfolding with_told
entry_count_told t m d r = refl

pub entry_count_messages : (t : Table) (n : ℕ) (l : List Message) → (with_messages t n l).entry_count ≡ t.entry_count
unfolding with_messages
entry_count_messages t n l = refl

pub bonds_job : (t : Table) (j : ℕ) (v : Job) → (with_job t j v).bonds ≡ t.bonds
unfolding with_job
bonds_job t j v = refl

pub bonds_machine : (t : Table) (m : ℕ) (v : Machine) → (with_machine t m v).bonds ≡ t.bonds
unfolding with_machine
bonds_machine t m v = refl

pub bonds_pool : (t : Table) (m j r : ℕ) → (with_pool t m j r).bonds ≡ t.bonds
unfolding with_pool
bonds_pool t m j r = refl

pub bonds_told : (t : Table) (m d r : ℕ) → (with_told t m d r).bonds ≡ t.bonds
unfolding with_told
bonds_told t m d r = refl

pub bonds_messages : (t : Table) (n : ℕ) (l : List Message) → (with_messages t n l).bonds ≡ t.bonds
unfolding with_messages
bonds_messages t n l = refl

pub used_job : (t : Table) (j : ℕ) (v : Job) → (with_job t j v).in_flight ≡ t.in_flight
unfolding with_job
used_job t j v = refl

pub used_machine : (t : Table) (m : ℕ) (v : Machine) → (with_machine t m v).in_flight ≡ t.in_flight
unfolding with_machine
used_machine t m v = refl

pub used_pool : (t : Table) (m j r : ℕ) → (with_pool t m j r).in_flight ≡ t.in_flight
unfolding with_pool
used_pool t m j r = refl

pub used_told : (t : Table) (m d r : ℕ) → (with_told t m d r).in_flight ≡ t.in_flight
unfolding with_told
used_told t m d r = refl

pub slots_job : (t : Table) (j : ℕ) (v : Job) → (with_job t j v).messages ≡ t.messages
unfolding with_job
slots_job t j v = refl

pub slots_machine : (t : Table) (m : ℕ) (v : Machine) → (with_machine t m v).messages ≡ t.messages
unfolding with_machine
slots_machine t m v = refl

pub slots_pool : (t : Table) (m j r : ℕ) → (with_pool t m j r).messages ≡ t.messages
unfolding with_pool
slots_pool t m j r = refl

pub slots_told : (t : Table) (m d r : ℕ) → (with_told t m d r).messages ≡ t.messages
unfolding with_told
slots_told t m d r = refl

pub open_machine : (t : Table) (m : ℕ) (v : Machine) → (with_machine t m v).open_jobs ≡ t.open_jobs
unfolding with_machine
open_machine t m v = refl

pub open_pool : (t : Table) (m j r : ℕ) → (with_pool t m j r).open_jobs ≡ t.open_jobs
unfolding with_pool
open_pool t m j r = refl

pub open_told : (t : Table) (m d r : ℕ) → (with_told t m d r).open_jobs ≡ t.open_jobs
unfolding with_told
open_told t m d r = refl

pub open_messages : (t : Table) (n : ℕ) (l : List Message) → (with_messages t n l).open_jobs ≡ t.open_jobs
unfolding with_messages
open_messages t n l = refl

pub bond_machine_count : (t : Table) (n : ℕ) (k : ℕ) → bond_at (with_machine_count t n) k ≡ bond_at t k
unfolding bond_at with_machine_count
bond_machine_count t n k = refl

pub job_machine_count : (t : Table) (n : ℕ) (k : ℕ) → job_at (with_machine_count t n) k ≡ job_at t k
unfolding job_at with_machine_count
job_machine_count t n k = refl

pub machine_machine_count : (t : Table) (n : ℕ) (k : ℕ) → machine_at (with_machine_count t n) k ≡ machine_at t k
unfolding machine_at with_machine_count
machine_machine_count t n k = refl

pub pool_machine_count : (t : Table) (n : ℕ) (k i : ℕ) → pool_at (with_machine_count t n) k i ≡ pool_at t k i
unfolding pool_at with_machine_count
pool_machine_count t n k i = refl

pub told_machine_count : (t : Table) (n : ℕ) (k i : ℕ) → told_at (with_machine_count t n) k i ≡ told_at t k i
unfolding told_at with_machine_count
told_machine_count t n k i = refl

pub message_machine_count : (t : Table) (n : ℕ) (k : ℕ) → message_at (with_machine_count t n) k ≡ message_at t k
unfolding message_at with_machine_count
message_machine_count t n k = refl

pub flight_machine_count : (t : Table) (n : ℕ) → flight (with_machine_count t n) ≡ flight t
unfolding flight with_machine_count
flight_machine_count t n = refl

pub entry_count_machine_count : (t : Table) (n : ℕ) → (with_machine_count t n).entry_count ≡ t.entry_count
unfolding with_machine_count
entry_count_machine_count t n = refl

pub bonds_machine_count : (t : Table) (n : ℕ) → (with_machine_count t n).bonds ≡ t.bonds
unfolding with_machine_count
bonds_machine_count t n = refl

pub used_machine_count : (t : Table) (n : ℕ) → (with_machine_count t n).in_flight ≡ t.in_flight
unfolding with_machine_count
used_machine_count t n = refl

pub slots_machine_count : (t : Table) (n : ℕ) → (with_machine_count t n).messages ≡ t.messages
unfolding with_machine_count
slots_machine_count t n = refl

pub open_machine_count : (t : Table) (n : ℕ) → (with_machine_count t n).open_jobs ≡ t.open_jobs
unfolding with_machine_count
open_machine_count t n = refl

pub machine_count_same : (t : Table) (n : ℕ) → (with_machine_count t n).machine_count ≡ n
unfolding with_machine_count
machine_count_same t n = refl

pub ruleset views = (
  bond_job,
  bond_machine,
  bond_pool,
  bond_told,
  bond_messages,
  job_machine,
  job_pool,
  job_told,
  job_messages,
  machine_job,
  machine_pool,
  machine_told,
  machine_messages,
  pool_job,
  pool_machine,
  pool_told,
  pool_messages,
  told_job,
  told_machine,
  told_pool,
  told_messages,
  message_job,
  message_machine,
  message_pool,
  message_told,
  flight_job,
  flight_machine,
  flight_pool,
  flight_told,
  machine_count_job,
  machine_count_machine,
  machine_count_pool,
  machine_count_told,
  machine_count_messages,
  entry_count_job,
  entry_count_machine,
  entry_count_pool,
  entry_count_told,
  entry_count_messages,
  bonds_job,
  bonds_machine,
  bonds_pool,
  bonds_told,
  bonds_messages,
  used_job,
  used_machine,
  used_pool,
  used_told,
  slots_job,
  slots_machine,
  slots_pool,
  slots_told,
  open_machine,
  open_pool,
  open_told,
  open_messages,
  bond_machine_count,
  job_machine_count,
  machine_machine_count,
  pool_machine_count,
  told_machine_count,
  message_machine_count,
  flight_machine_count,
  entry_count_machine_count,
  bonds_machine_count,
  used_machine_count,
  slots_machine_count,
  open_machine_count,
  machine_count_same,
)

-- a part of the machines' records that machine m's new record has too; also where there is no machine m, since then nothing is written
pub part_machine : {A : Type 0} (f : Machine → A) (t : Table) (m : ℕ) (v : Machine)
    → f v ≡ f (machine_at t m) → (k : ℕ) → f (machine_at (with_machine t m v) k) ≡ f (machine_at t k)
unfolding machine_at with_machine
part_machine f t m v e k = set_part f t.machines m v no_machine e k

-- a machine's update that leaves it alive or dead as it was
module _ (t : Table) (m : ℕ) (v : Machine) (e : v.alive ≡ (machine_at t m).alive) where
  pub alive_machine : (k : ℕ) → (machine_at (with_machine t m v) k).alive ≡ (machine_at t k).alive
  alive_machine = part_machine (λ n. n.alive) t m v e

  pub room_machine : (b : ℕ) → RoomFor t b → RoomFor (with_machine t m v) b
  room_machine b r l = rw (used_machine t m v) (r (sym (alive_machine b) ∙ l))
