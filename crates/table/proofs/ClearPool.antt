-- What clearing a pool leaves as it was.
-- Assumes nothing.
use Prim.Native.Nat.{ℕ, ◌<◌}
use mathlib.Core.Path.{◌≡◌, refl, ◌∙◌}
use mathlib.Core.Logic.{◌≢◌}
use native.Mathlib.Omega.{arith}
use native.Mathlib.Nat.{not-suc-le-zero}
use Rattle.table.specs.declared.Table.{Table}
use Rattle.lists.proofs.Keeps.{up_each, up_keeps}
use Rattle.table.specs.Views.{bond_at, job_at, machine_at, pool_at, told_at, flight, with_pool}
use Rattle.table.specs.Pools.{clear_pool}
use Rattle.lists.proofs.Cases.{by_eq}
use Rattle.table.proofs.Views.{Sized, sized_pool, pool_same, pool_other_job, pool_other_machine, bond_pool, job_pool, machine_pool, told_pool}
use Rattle.table.proofs.Views.{flight_pool, machine_count_pool, entry_count_pool, used_pool}

module _ (t : Table) (m : ℕ) where
  -- what clearing one cell keeps, and a view that no pool changes
  pub keeps_clear_pool : (P : Table → Type 0) → ((u : Table) (j : ℕ) → P u → P (with_pool u m j 0)) → P t → P (clear_pool t m)
  unfolding clear_pool
  keeps_clear_pool P h p = up_keeps (λ j u. with_pool u m j 0) P (λ j u. h u j) 64 t p

  same : {A : Type 0} (f : Table → A) → ((u : Table) (j : ℕ) → f (with_pool u m j 0) ≡ f u) → f (clear_pool t m) ≡ f t
  same f h = keeps_clear_pool (λ u. f u ≡ f t) (λ u j e. h u j ∙ e) refl

  pub used_clear_pool : (clear_pool t m).in_flight ≡ t.in_flight
  used_clear_pool = same (λ u. u.in_flight) (λ u j. used_pool u m j 0)

  pub machine_count_clear_pool : (clear_pool t m).machine_count ≡ t.machine_count
  machine_count_clear_pool = same (λ u. u.machine_count) (λ u j. machine_count_pool u m j 0)

  pub entry_count_clear_pool : (clear_pool t m).entry_count ≡ t.entry_count
  entry_count_clear_pool = same (λ u. u.entry_count) (λ u j. entry_count_pool u m j 0)

  pub bond_clear_pool : (k : ℕ) → bond_at (clear_pool t m) k ≡ bond_at t k
  bond_clear_pool k = same (λ u. bond_at u k) (λ u j. bond_pool u m j 0 k)

  pub job_clear_pool : (k : ℕ) → job_at (clear_pool t m) k ≡ job_at t k
  job_clear_pool k = same (λ u. job_at u k) (λ u j. job_pool u m j 0 k)

  pub machine_clear_pool : (k : ℕ) → machine_at (clear_pool t m) k ≡ machine_at t k
  machine_clear_pool k = same (λ u. machine_at u k) (λ u j. machine_pool u m j 0 k)

  pub told_clear_pool : (k i : ℕ) → told_at (clear_pool t m) k i ≡ told_at t k i
  told_clear_pool k i = same (λ u. told_at u k i) (λ u j. told_pool u m j 0 k i)

  pub flight_clear_pool : flight (clear_pool t m) ≡ flight t
  flight_clear_pool = same (λ u. flight u) (λ u j. flight_pool u m j 0)

  pub sized_clear_pool : Sized t → Sized (clear_pool t m)
  sized_clear_pool s = keeps_clear_pool Sized (λ u j. sized_pool u m j 0) s

  pub pool_clear_pool_other : (k i : ℕ) → i < 64 → k ≢ m → pool_at (clear_pool t m) k i ≡ pool_at t k i
  unfolding clear_pool
  pool_clear_pool_other k i l e =
      up_each (λ j u. with_pool u m j 0) (λ n u. pool_at u k i ≡ pool_at t k i) 64
      (λ j u h p. pool_other_machine u m j k i 0 h l e ∙ p) t refl

  -- the cells of the first n jobs are empty
  pub pool_clear_pool_own : Sized t → m < 16 → (i : ℕ) → i < 64 → pool_at (clear_pool t m) m i ≡ 0
  unfolding clear_pool
  pool_clear_pool_own s b i l =
      (up_each (λ j u. with_pool u m j 0) (λ n u. Sized u × (i < n → pool_at u m i ≡ 0)) 64
      (λ j u h p. (
        sized_pool u m j 0 p.0,
        λ q.
            by_eq i j
            (λ e. rw e (pool_same u p.0 m j 0 b h))
            (λ e. pool_other_job u m j m i 0 h l e ∙ p.1 (omega arith)),
      ))
      t (s, λ q. absurd (not-suc-le-zero q))).1 l
