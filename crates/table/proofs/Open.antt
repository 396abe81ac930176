-- The number of open jobs that the table keeps (document 02, 2.4), through the update of a job: it moves with that job's state alone, and stays the
-- full recount. Assumes nothing.
use Prim.Native.Nat.{ℕ, ◌+◌, ◌≤◌, ◌<◌}
use mathlib.Core.Path.{◌≡◌, refl, sym, ap, ◌∙◌}
use mathlib.Core.Logic.{◌≢◌}
use mathlib.Core.Bool.{Bool}
use native.Mathlib.Omega.{arith}
use borrow.Author.Tests.{eq-eqb, ltb-true, ltb-false}
use lib.Dec.{eqb, ltb}
use lib.ListN.{length}
use lib.Seq.{set_out}
use Rattle.lists.proofs.Cases.{by_bool}
use Rattle.lists.proofs.Scans.{count_most}
use Rattle.lists.proofs.Count.{ind, count_to_some, count_to_same, count_to_change}
use Rattle.lists.proofs.Set.{set_part}
use Rattle.table.specs.declared.Job.{Job}
use Rattle.table.specs.declared.Table.{Table}
use Rattle.table.specs.States.{OPEN, opens, open_after}
use Rattle.table.specs.Views.{no_job, job_at, with_job}
use Rattle.table.specs.Parts.{recount}
use Rattle.table.proofs.Views.{Sized, job_same, job_other}

-- ---- the number after one job's change

pub open_after_same : (n state : ℕ) → open_after n state state ≡ n
unfolding open_after
open_after_same n state = omega arith

-- "open": the state's test, as a number
opens_ind : (state : ℕ) → opens state ≡ ind (eqb state OPEN)
unfolding opens
opens_ind state = by_bool (eqb state OPEN) (λ e. rw e) (λ e. rw e)

pub open_job : (t : Table) (j : ℕ) (v : Job)
    → (with_job t j v).open_jobs ≡ open_after t.open_jobs (job_at t j).state (job_at (with_job t j v) j).state
unfolding job_at with_job
open_job t j v = refl

-- job j is one of the table's
pub open_job_in : (t : Table) (j : ℕ) (v : Job) → Sized t → j < 64 → (with_job t j v).open_jobs ≡ open_after t.open_jobs (job_at t j).state v.state
open_job_in t j v s h = open_job t j v ∙ ap (λ (w : Job). open_after t.open_jobs (job_at t j).state w.state) (job_same t s j v h)

-- the job keeps its state
pub open_job_same : (t : Table) (j : ℕ) (v : Job) → v.state ≡ (job_at t j).state → (with_job t j v).open_jobs ≡ t.open_jobs
unfolding job_at with_job
open_job_same t j v e =
    ap (λ (n : ℕ). open_after t.open_jobs (job_at t j).state n) (set_part (λ (w : Job). w.state) t.jobs j v no_job e j)
    ∙ open_after_same t.open_jobs (job_at t j).state

-- ---- the recount

module _ (t : Table) where
  abbrev is_open : ℕ → Bool
  is_open j = eqb (job_at t j).state OPEN

  pub recount_most : recount t ≤ 64
  unfolding recount
  recount_most = count_most is_open 64

  pub recount_some : (j : ℕ) → j < 64 → (job_at t j).state ≡ OPEN → 1 ≤ recount t
  unfolding recount
  recount_some j h e = count_to_some is_open 64 j h (eq-eqb _ _ e)

-- two tables whose jobs are alike but for the state of one
pub recount_change : (t u : Table) (j : ℕ) → j < 64 → ((i : ℕ) → i < 64 → i ≢ j → (job_at u i).state ≡ (job_at t i).state)
    → recount u + opens (job_at t j).state ≡ recount t + opens (job_at u j).state
unfolding recount
recount_change t u j h e =
    rw (opens_ind (job_at t j).state, opens_ind (job_at u j).state)
    (count_to_change (is_open t) (is_open u) 64 j h (λ i l n. ap (λ (k : ℕ). eqb k OPEN) (sym (e i l n))))

-- whose jobs have the same states
pub recount_same : (t u : Table) → ((i : ℕ) → i < 64 → (job_at u i).state ≡ (job_at t i).state) → recount u ≡ recount t
unfolding recount
recount_same t u e = count_to_same (is_open u) (is_open t) 64 (λ i l. ap (λ (k : ℕ). eqb k OPEN) (e i l))

-- ---- the two together

module _ (t : Table) (j : ℕ) (v : Job) (e : t.open_jobs ≡ recount t) where
  abbrev Kept : Type 0
  Kept = (with_job t j v).open_jobs ≡ recount (with_job t j v)

  within : j < 64 → Kept
  unfolding open_after
  within h =
      let r = recount_change t (with_job t j v) j h (λ i l n. ap (λ (w : Job). w.state) (job_other t j i v n)) in
      open_job t j v ∙ omega arith

  -- there is no such job, and nothing is written
  past : length t.jobs ≡ 64 → 64 ≤ j → Kept
  unfolding with_job job_at recount
  past s h = rw (set_out t.jobs j v (omega arith)) (open_after_same t.open_jobs (job_at t j).state ∙ e)

  pub recount_job : length t.jobs ≡ 64 → Kept
  recount_job s = by_bool (ltb j 64) (λ h. within (ltb-true _ _ h)) (λ h. past s (ltb-false _ _ h))

-- ---- as the code writes it: a job stored, and the number apart

-- t with another number of open jobs, and all else as it was
abbrev pub with_open : Table → ℕ → Table
with_open t n =
    record {
      machine_count = t.machine_count;
      entry_count = t.entry_count;
      bonds = t.bonds;
      jobs = t.jobs;
      machines = t.machines;
      told = t.told;
      pools = t.pools;
      in_flight = t.in_flight;
      messages = t.messages;
      open_jobs = n;
    }

pub with_open_lem : (t : Table) (n : ℕ) → n ≡ t.open_jobs → with_open t n ≡ t
with_open_lem t n e = rw e
