-- What the root does besides when it is told of a death: each affected job is issued again. The table after it, through its views.
-- Assumes nothing.
use mathlib.Core.Path.{◌≡◌, refl, ◌∙◌}
use mathlib.Core.Bool.{cond}
use Prim.Native.Nat.{ℕ, ◌+◌, ◌≤◌, ◌<◌}
use native.Mathlib.Nat.{not-suc-le-zero}
use native.Mathlib.Omega.{arith}
use Rattle.lists.proofs.Cases.{by_bool, by_eq}
use Rattle.lists.proofs.Keeps.{up_each, up_keeps}
use Rattle.table.specs.declared.Job.{Job}
use Rattle.table.specs.declared.Table.{Table}
use Rattle.table.specs.Views.{job_at, machine_at, told_at, flight, with_job}
use Rattle.table.specs.Pools.{enter}
use Rattle.table.specs.Parts.{opened}
use Rattle.table.proofs.Views.{Sized, views, job_same, job_pool}
use Rattle.event_notice.specs.Notice.{affected, reissue_one, reissue}
use Rattle.event_notice.proofs.Parts.{one, job_one_other, job_before}
use Rattle.protocol_preservation.proofs.Sizes.{sized_reissue_one}

-- the job after the death of b
unfoldable pub reissued_job : Job → ℕ → Job
reissued_job v b = cond (affected v b) (opened (v.replica + 1)) v

-- ---- one turn of the loop, for job j, which was v before

job_one : (v : Job) (b j : ℕ) (u : Table) → Sized u → j < 64 → job_at u j ≡ v → job_at (reissue_one v b j u) j ≡ reissued_job v b
unfolding reissue_one reissued_job enter
job_one v b j u s l e =
    by_bool (affected v b)
    (λ c. rw (c, reissue_one) (job_pool (with_job u j (opened (v.replica + 1))) 0 j _ j ∙ job_same u s j (opened (v.replica + 1)) l))
    (λ c. rw (c, reissue_one) e)

-- ---- the loop

module _ (t : Table) (b : ℕ) where
  -- a view that is neither a job's nor a pool's
  same : {A : Type 0} (f : Table → A) → ((u : Table) (v : Job) (j r : ℕ) → f (enter (with_job u j v) 0 j r) ≡ f u) → f (reissue t b) ≡ f t
  unfolding reissue
  same f h = up_keeps (λ j u. reissue_one (job_at t j) b j u) (λ u. f u ≡ f t) (λ j u e. one f (job_at t j) b j u (h u _ j _) ∙ e) 64 t refl

  pub machine_reissue : (m : ℕ) → machine_at (reissue t b) m ≡ machine_at t m
  unfolding enter
  machine_reissue m = same (λ u. machine_at u m) (λ u v i r. simp views)

  pub told_reissue : (m d : ℕ) → told_at (reissue t b) m d ≡ told_at t m d
  unfolding enter
  told_reissue m d = same (λ u. told_at u m d) (λ u v i r. simp views)

  pub flight_reissue : flight (reissue t b) ≡ flight t
  unfolding enter
  flight_reissue = same flight (λ u v i r. simp views)

  -- a job whose turn is still to come, and one that has had it
  pub job_reissue : Sized t → (j : ℕ) → j < 64 → job_at (reissue t b) j ≡ reissued_job (job_at t j) b
  unfolding reissue
  job_reissue s k l =
      (up_each (λ j u. reissue_one (job_at t j) b j u)
      (λ n u. Sized u × ((n ≤ k → job_at u k ≡ job_at t k) × (k < n → job_at u k ≡ reissued_job (job_at t k) b))) 64
      (λ j u h p. (
        sized_reissue_one u p.0 (job_at t j) b j,
        (
          λ q. job_one_other (job_at t j) b j k u (λ e. omega arith) ∙ p.1.0 (omega arith),
          λ q. by_eq k j
              (λ e. rw e (job_one (job_at t j) b j u p.0 h (rw e at (p.1.0 (omega arith)))))
              (λ e. job_one_other (job_at t j) b j k u e ∙ p.1.1 (omega arith)),
        ),
      ))
      t (s, (λ q. refl, λ q. absurd (not-suc-le-zero q)))).1.1 l

  pub job_reissue_past : (j : ℕ) → 64 ≤ j → job_at (reissue t b) j ≡ job_at t j
  unfolding reissue
  job_reissue_past k h = job_before t b k 64 h
