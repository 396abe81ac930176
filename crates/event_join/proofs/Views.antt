-- What Join writes and what it leaves as it was, through the table's views. Assumes nothing.
use Prim.Native.Nat.{ℕ, ◌+◌, ◌<◌}
use mathlib.Core.Path.{◌≡◌}
use mathlib.Core.Logic.{◌≢◌}
use Rattle.table.specs.declared.Table.{Table}
use Rattle.table.specs.Views.{idle_machine, bond_at, job_at, machine_at, pool_at, told_at, flight, with_machine}
use Rattle.table.proofs.Views.{Sized, views, sized_machine, sized_machine_count, machine_same, machine_other}
use Rattle.event_join.specs.Join.{joined}

module _ (t : Table) (a : ℕ) where
  pub sized_joined : Sized t → Sized (joined t a)
  unfolding joined
  sized_joined s = sized_machine_count (with_machine t a (idle_machine 1)) _ (sized_machine t a (idle_machine 1) s)

  pub machine_count_joined : (joined t a).machine_count ≡ t.machine_count + 1
  unfolding joined
  machine_count_joined = simp views

  pub entry_count_joined : (joined t a).entry_count ≡ t.entry_count
  unfolding joined
  entry_count_joined = simp views

  pub bonds_joined : (joined t a).bonds ≡ t.bonds
  unfolding joined
  bonds_joined = simp views

  pub bond_joined : (j : ℕ) → bond_at (joined t a) j ≡ bond_at t j
  unfolding joined
  bond_joined j = simp views

  pub job_joined : (j : ℕ) → job_at (joined t a) j ≡ job_at t j
  unfolding joined
  job_joined j = simp views

  pub pool_joined : (m j : ℕ) → pool_at (joined t a) m j ≡ pool_at t m j
  unfolding joined
  pool_joined m j = simp views

  pub told_joined : (m d : ℕ) → told_at (joined t a) m d ≡ told_at t m d
  unfolding joined
  told_joined m d = simp views

  pub flight_joined : flight (joined t a) ≡ flight t
  unfolding joined
  flight_joined = simp views

  pub slots_joined : (joined t a).messages ≡ t.messages
  unfolding joined
  slots_joined = simp views

  pub used_joined : (joined t a).in_flight ≡ t.in_flight
  unfolding joined
  used_joined = simp views

  pub open_joined : (joined t a).open_jobs ≡ t.open_jobs
  unfolding joined
  open_joined = simp views

  -- the machine that joins, and the others
  pub machine_joined : Sized t → a < 16 → machine_at (joined t a) a ≡ idle_machine 1
  unfolding joined
  machine_joined s h = simp views (machine_same t s a (idle_machine 1) h)

  pub machine_joined_other : (m : ℕ) → m ≢ a → machine_at (joined t a) m ≡ machine_at t m
  unfolding joined
  machine_joined_other m e = simp views (machine_other t a m (idle_machine 1) e)

pub ruleset joining = (
  machine_count_joined,
  entry_count_joined,
  bonds_joined,
  bond_joined,
  job_joined,
  pool_joined,
  told_joined,
  flight_joined,
  slots_joined,
  used_joined,
  open_joined,
)
