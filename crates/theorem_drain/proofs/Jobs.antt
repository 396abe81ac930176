-- Once nothing is in flight: at most 32 events, Done and Deliver for each machine that runs a copy, leave nothing running; then at most 192, Start,
-- Done and Deliver for each open job, leave no job open.
-- Assumes nothing.
use mathlib.Core.Path.{◌≡◌, refl, sym, ap, ◌∙◌}
use mathlib.Core.Logic.{◌≢◌}
use Prim.Native.Nat.{ℕ, suc, ◌<◌}
use native.Mathlib.Omega.{arith}
use Rattle.table.specs.declared.Job.{Job}
use Rattle.table.specs.declared.Machine.{Machine}
use Rattle.table.specs.declared.Table.{Table}
use Rattle.table.specs.Views.{job_at, machine_at, pool_at, with_pool}
use Rattle.table.specs.Parts.{running, accept, OPEN}
use Rattle.table.proofs.Views.{Sized, views, sized_pool, machine_same, machine_other, machine_pool}
use Rattle.event_start_done.specs.StartDone.{started}
use Rattle.lists.proofs.Cases.{by_eq}
use Rattle.theorem_invariant.proofs.State.{Invariant}
use Rattle.theorem_invariant.proofs.Alive.{alive_started}
use Rattle.dispatcher.proofs.Fixed.{fixed_machine_count, fixed_started}
use Rattle.dispatcher.specs.Codes.{START}
use Rattle.dispatcher.specs.Step.{event, step_of}
use Rattle.theorem_drain.proofs.Reach.{Reach, reach_here, reach_step, reach_map, reach_loop}
use Rattle.theorem_drain.proofs.Steps.{accepts_start}
use Rattle.theorem_drain.proofs.AcceptedInvariant.{accepted_invariant}
use Rattle.theorem_drain.proofs.Deliveries.{Drained, informed_same}
use Rattle.theorem_drain.proofs.Results.{Finished, finishes}
use Rattle.theorem_drain.proofs.Pooled.{Pooled, open_pooled}

-- ---- the machines that run a copy

-- nothing is in flight, and no machine below k runs a copy
pub record NoneRunning (k : ℕ) (t : Table) : Type 0 where
  pub drained : Drained t
  pub idle : (m : ℕ) → m < k → (machine_at t m).running_replica ≡ 0

none_running_one : (k : ℕ) (t : Table) → k < 16 → NoneRunning k t → Reach (NoneRunning (suc k)) t 2
none_running_one k t kl h =
    by_eq (machine_at t k).running_replica 0
    (λ e. reach_here (NoneRunning (suc k)) t 2 (record { drained = h.drained; idle = λ m l. by_eq m k (λ d. rw d e) (λ d. h.idle m (omega arith)) }))
    (λ e. reach_map (NoneRunning (suc k)) (Finished t k) t 2
    (λ u f. record {
      drained = f.drained;
      idle = λ m l. by_eq m k (λ d. rw d f.idle) (λ d. ap (λ (n : Machine). n.running_replica) (f.others m d) ∙ h.idle m (omega arith));
    })
    (finishes t k h.drained kl e))

pub none_running : (t : Table) → Drained t → Reach (NoneRunning 16) t 32
none_running t q = reach_loop NoneRunning 2 16 none_running_one t (record { drained = q; idle = λ m l. absurd (omega arith) })

-- ---- the open jobs

-- besides, no job below k is open
pub record NoneOpen (k : ℕ) (t : Table) : Type 0 where
  pub none_running : NoneRunning 16 t
  pub none_open : (j : ℕ) → j < k → (job_at t j).state ≢ OPEN

module _ (t : Table) (a j : ℕ) (z : Sized t) (al : a < 16) where
  start_machine : machine_at (started t a j) a ≡ running (machine_at t a) j (pool_at t a j)
  unfolding started
  start_machine = machine_same (with_pool t a j 0) (sized_pool t a j 0 z) a (running (machine_at t a) j (pool_at t a j)) al

  start_other : (m : ℕ) → m ≢ a → machine_at (started t a j) m ≡ machine_at t m
  unfolding started
  start_other m e = machine_other (with_pool t a j 0) a m (running (machine_at t a) j (pool_at t a j)) e ∙ machine_pool t a j 0 m

  start_job : (i : ℕ) → job_at (started t a j) i ≡ job_at t i
  unfolding started
  start_job i = simp views

  start_drained : Invariant (started t a j) → Drained t → Drained (started t a j)
  unfolding started
  start_drained w q = record {
    invariant = w;
    informed = informed_same t (started t a j) (fixed_started (λ v. v.machine_count) fixed_machine_count t a j)
        (alive_started t a j) (λ m d. simp views) q.informed;
    empty = simp views q.empty;
  }

  -- what runs then
  start_runs : ((machine_at (started t a j) a).running_job ≡ j) × ((machine_at (started t a j) a).running_replica ≡ pool_at t a j)
  start_runs = (
    ap (λ (n : Machine). n.running_job) start_machine ∙ unfold running in refl,
    ap (λ (n : Machine). n.running_replica) start_machine ∙ unfold running in refl,
  )

none_open_open : (k : ℕ) (t : Table) → k < 64 → NoneOpen k t → (job_at t k).state ≡ OPEN → Reach (NoneOpen (suc k)) t 3
none_open_open k t kl h o =
    let q = h.none_running.drained in
    let w = q.invariant in
    let a = (job_at t k).holder in
    let al : a < 16 = (w.facts.job k kl).holder in
    let c : Pooled t k a = open_pooled t q h.none_running.idle k kl o in
    let v = started t a k in
    let z = w.sized in
    let step : step_of t (event START a k) ≡ accept v = accepts_start t w a k al kl c.lives (h.none_running.idle a al) c.there in
    let runs = start_runs t a k z al in
    reach_step (NoneOpen (suc k)) t v (event START a k) 2 step refl
    (reach_map (NoneOpen (suc k)) (Finished v a) v 2
    (λ u f. record {
      none_running = record {
        drained = f.drained;
        idle = λ m l. by_eq m a (λ d. rw d f.idle) (λ d. ap (λ (n : Machine). n.running_replica) (f.others m d ∙ start_other t a k z al m d)
            ∙ h.none_running.idle m l);
      };
      none_open = λ j l. by_eq j k
          (λ d e. f.none_open (ap (λ (i : ℕ). (job_at u i).state) (runs.0 ∙ sym d) ∙ e))
          (λ d e. h.none_open j (omega arith) (sym (ap (λ (b : Job). b.state) (f.jobs j (λ p. d (p ∙ runs.0)) ∙ start_job t a k z al j)) ∙ e));
    })
    (finishes v a (start_drained t a k z al (accepted_invariant t v (event START a k) w step) q) al (λ e. c.there (sym runs.1 ∙ e))))

none_open_one : (k : ℕ) (t : Table) → k < 64 → NoneOpen k t → Reach (NoneOpen (suc k)) t 3
none_open_one k t kl h =
    by_eq (job_at t k).state OPEN
    (none_open_open k t kl h)
    (λ e. reach_here (NoneOpen (suc k)) t 3
    (record { none_running = h.none_running; none_open = λ j l. by_eq j k (λ d. rw d e) (λ d. h.none_open j (omega arith)) }))

pub none_open_all : (t : Table) → NoneRunning 16 t → Reach (NoneOpen 64) t 192
none_open_all t r = reach_loop NoneOpen 3 64 none_open_one t (record { none_running = r; none_open = λ j l. absurd (omega arith) })
