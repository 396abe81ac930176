-- What Die leaves as it was, through the table's views. Assumes nothing.
use Prim.Native.Nat.{ℕ, ◌<◌}
use mathlib.Core.Path.{◌≡◌, ◌∙◌}
use mathlib.Core.Logic.{◌≢◌}
use Rattle.lists.specs.Scan.{filter}
use Rattle.table.specs.declared.Table.{Table}
use Rattle.table.specs.Views.{no_machine, bond_at, job_at, machine_at, pool_at, told_at, flight}
use Rattle.table.specs.Messages.{keep_messages, not_to}
use Rattle.table.specs.Pools.{clear_pool}
use Rattle.table.proofs.Views.{Sized, views, machine_same, machine_other}
use Rattle.table.proofs.Messages.{flight_keep_messages}
use Rattle.table.proofs.ClearPool.{machine_count_clear_pool, entry_count_clear_pool, bond_clear_pool, job_clear_pool, machine_clear_pool, told_clear_pool}
use Rattle.table.proofs.ClearPool.{flight_clear_pool, sized_clear_pool, pool_clear_pool_own, pool_clear_pool_other}
use Rattle.event_admit_deliver_die.specs.AdmitDeliverDie.{died}

module _ (t : Table) (a : ℕ) where
  pub machines_died : (died t a).machine_count ≡ t.machine_count
  unfolding died keep_messages
  machines_died = simp (views, machine_count_clear_pool)

  pub entries_died : (died t a).entry_count ≡ t.entry_count
  unfolding died keep_messages
  entries_died = simp (views, entry_count_clear_pool)

  pub bond_died : (j : ℕ) → bond_at (died t a) j ≡ bond_at t j
  unfolding died keep_messages
  bond_died j = simp (views, bond_clear_pool)

  pub job_died : (j : ℕ) → job_at (died t a) j ≡ job_at t j
  unfolding died keep_messages
  job_died j = simp (views, job_clear_pool)

  pub told_died : (m d : ℕ) → told_at (died t a) m d ≡ told_at t m d
  unfolding died keep_messages
  told_died m d = simp (views, told_clear_pool)

  pub flight_died : flight (died t a) ≡ filter (not_to a) (flight t)
  unfolding died
  flight_died = flight_keep_messages _ (not_to a) ∙ simp (views, flight_clear_pool)

  -- the machine that dies, and the others
  pub machine_died : Sized t → a < 16 → machine_at (died t a) a ≡ no_machine
  unfolding died keep_messages
  machine_died s h = simp views (machine_same (clear_pool t a) (sized_clear_pool t a s) a no_machine h)

  pub machine_died_other : (m : ℕ) → m ≢ a → machine_at (died t a) m ≡ machine_at t m
  unfolding died keep_messages
  machine_died_other m e = simp views (machine_other (clear_pool t a) a m no_machine e ∙ machine_clear_pool t a m)

  pub pool_died : (j : ℕ) → Sized t → a < 16 → j < 64 → pool_at (died t a) a j ≡ 0
  unfolding died keep_messages
  pool_died j s h l = simp views (pool_clear_pool_own t a s h j l)

  pub pool_died_other : (m j : ℕ) → j < 64 → m ≢ a → pool_at (died t a) m j ≡ pool_at t m j
  unfolding died keep_messages
  pool_died_other m j l e = simp views (pool_clear_pool_other t a m j l e)
