-- What one event, accepted or refused, does to one job of a table of the invariant.
-- Assumes nothing.
use Prim.Native.Nat.{ℕ, ◌<◌}
use mathlib.Core.Path.{◌≡◌, refl, sym, ap, ◌∙◌}
use mathlib.Core.Logic.{◌≢◌}
use mathlib.Core.Bool.{Bool, false, ◌&&◌}
use mathlib.Core.List.{List}
use native.Mathlib.Omega.{arith}
use borrow.Author.Tests.{eq-eqb, ne_eqb}
use lib.Dec.{eqb}
use Rattle.lists.proofs.Cases.{by_bool, by_eq}
use Rattle.table.specs.declared.Job.{Job}
use Rattle.table.specs.declared.Table.{Table}
use Rattle.table.specs.declared.Answer.{Answer}
use Rattle.table.specs.Views.{job_at, with_job}
use Rattle.table.specs.Messages.{oldest}
use Rattle.table.specs.Parts.{opened, accept, RESULT}
use Rattle.table.proofs.Views.{views, job_same, job_other, job_machine}
use Rattle.event_admit_deliver_die.specs.AdmitDeliverDie.{admitted, delivered, died}
use Rattle.event_steal.specs.Steal.{stolen}
use Rattle.event_start_done.specs.StartDone.{started, finished}
use Rattle.event_notice.specs.Notice.{affected, notice_local, reissue, noticed}
use Rattle.event_join.specs.Join.{joined}
use Rattle.event_join.proofs.Views.{job_joined}
use Rattle.protocol_preservation.proofs.Sizes.{sized_notice_local}
use Rattle.theorem_invariant.proofs.State.{Invariant}
use Rattle.theorem_invariant.proofs.Frame.{job_enter}
use Rattle.event_admit_deliver_die.proofs.Views.{job_died}
use Rattle.event_notice.proofs.Parts.{job_notice_local, affected_open}
use Rattle.theorem_invariant.proofs.Reissued.{reissued_job, job_reissue}
use Rattle.dispatcher.specs.Codes.{ADMIT, STEAL, DELIVER, START, DONE, DIE, NOTICE, JOIN}
use Rattle.dispatcher.specs.Step.{code_of, first_of, second_of, step_of}
use Rattle.claims.specs.History.{admits, delivers, finds, taken_off}
use Rattle.table.proofs.Refusals.{refused_nonzero}
use Rattle.dispatcher.proofs.Events.{by_cases}
use Rattle.event_admit_deliver_die.proofs.Cases.{Admitting}
use Rattle.claims.proofs.Runs.{other_code}
use Rattle.claims.proofs.Change.{same_job, Change, job_send}
use Rattle.claims.proofs.Change.Change.{admission, finding, other}
use Rattle.claims.proofs.Handled.{change_delivered}

-- ---- the events that write no job

module _ (t : Table) (j : ℕ) where
  job_stolen : (a b : ℕ) → job_at (stolen t a b) j ≡ job_at t j
  unfolding stolen
  job_stolen a b = job_send _ _ j ∙ job_machine t a _ j

  job_started : (a b : ℕ) → job_at (started t a b) j ≡ job_at t j
  unfolding started
  job_started a b = simp views

  job_finished : (a : ℕ) → job_at (finished t a) j ≡ job_at t j
  unfolding finished
  job_finished a = job_send _ _ j ∙ job_machine t a _ j

-- ---- those that do

-- the root's part of Notice
change_reissued : (u : Job) (b p : ℕ) → Change false false (affected u b) p u (reissued_job u b)
unfolding reissued_job
change_reissued u b p =
    by_bool (affected u b)
    (λ e. rw (e, reissued_job) (finding refl refl refl (affected_open u b e) refl))
    (λ e. rw (e, reissued_job) (other refl refl refl (same_job u u refl)))

module _ (t : Table) (w : Invariant t) (j : ℕ) (l : j < 64) where
  abbrev v : Job
  v = job_at t j

  job_admitted : (a : ℕ) → a < 64 → a ≡ j → job_at (admitted t a) j ≡ opened 1
  unfolding admitted
  job_admitted a h e =
      job_enter (with_job t a (opened 1)) 0 a 1 j ∙ ap (λ (i : ℕ). job_at (with_job t a (opened 1)) i) (sym e) ∙ job_same t w.sized a (opened 1) h

  job_admitted_other : (a : ℕ) → a ≢ j → job_at (admitted t a) j ≡ v
  unfolding admitted
  job_admitted_other a e = job_enter (with_job t a (opened 1)) 0 a 1 j ∙ job_other t a j (opened 1) (λ z. e (sym z))

  change_admitted : (a : ℕ) (p : ℕ) → Admitting t a → Change (eqb a j) false false p v (job_at (admitted t a) j)
  change_admitted a p c =
      by_eq a j
      (λ e. admission (eq-eqb a j e) refl refl (ap (λ (i : ℕ). (job_at t i).state) (sym e) ∙ c.new)
      (job_admitted a (omega (arith, c.entry, w.facts.entry_count_most)) e))
      (λ e. other (ne_eqb a j e) refl refl (same_job v _ (job_admitted_other a e)))

  -- what the root does with its jobs
  change_reissue : (a b : ℕ) (p : ℕ) → Change false false (affected v b) p v (job_at (reissue (notice_local t a b) b) j)
  change_reissue a b p =
      let q = notice_local t a b in
      let new : job_at (reissue q b) j ≡ reissued_job v b =
      job_reissue q b (sized_notice_local t w.sized a b) j l ∙ ap (λ (u : Job). reissued_job u b) (job_notice_local t a b j) in
      rw new (change_reissued v b p)

  change_noticed : (a b : ℕ) (p : ℕ) → Change false false (eqb a 0 && affected v b) p v (job_at (noticed t a b) j)
  unfolding noticed
  change_noticed a b p =
      by_bool (eqb a 0)
      (λ e. rw (e, noticed) (change_reissue a b p))
      (λ e. rw (e, noticed) (other refl refl refl (same_job v _ (job_notice_local t a b j))))

-- ---- any event

-- the event has another code
not_code : (code k m : ℕ) (c : Bool) → code ≡ k → eqb k m ≡ false → eqb code m && c ≡ false
not_code code k m c h n = rw (other_code code k m h n) refl

-- it has this one
is_code : (code m : ℕ) (c d : Bool) → code ≡ m → c ≡ d → eqb code m && c ≡ d
is_code code m c d h n = rw (eq-eqb code m h) n

-- the same change, told by equal tests
flags : {a d f a₁ d₁ f₁ : Bool} {p : ℕ} {v w : Job} → a ≡ a₁ → d ≡ d₁ → f ≡ f₁ → Change a₁ d₁ f₁ p v w → Change a d f p v w
flags x y z c = rw (x, y, z) c

module _ (t : Table) (w : Invariant t) (e : List ℕ) (j : ℕ) (l : j < 64) where
  abbrev Told : Answer → Type 0
  Told x =
      Change (eqb x.number 0 && (eqb (code_of e) ADMIT && eqb (first_of e) j))
      (eqb x.number 0 && (eqb (code_of e) DELIVER && (eqb (taken_off t e).kind RESULT && eqb (taken_off t e).job j)))
      (eqb x.number 0 && (eqb (code_of e) NOTICE && (eqb (first_of e) 0 && affected (job_at t j) (second_of e))))
      (taken_off t e).price (job_at t j) (job_at x.table j)

  -- an accepted event of another kind writes no job
  job_unchanged : (u : Table) (k : ℕ) → code_of e ≡ k → eqb k ADMIT ≡ false → eqb k DELIVER ≡ false → eqb k NOTICE ≡ false → job_at u j ≡ job_at t j
      → Told (accept u)
  job_unchanged u k c n1 n3 n7 same =
      other (not_code (code_of e) k ADMIT _ c n1) (not_code (code_of e) k DELIVER _ c n3) (not_code (code_of e) k NOTICE _ c n7)
      (same_job (job_at t j) (job_at u j) same)

  delivery : code_of e ≡ DELIVER → oldest t (first_of e) (second_of e) < t.in_flight → Told (accept (delivered t (oldest t (first_of e) (second_of e))))
  delivery c slot =
      flags (not_code (code_of e) DELIVER ADMIT _ c refl) (is_code (code_of e) DELIVER _ _ c refl) (not_code (code_of e) DELIVER NOTICE _ c refl)
      (change_delivered t (oldest t (first_of e) (second_of e)) j w slot)

  notice : code_of e ≡ NOTICE → Told (accept (noticed t (first_of e) (second_of e)))
  notice c =
      flags (not_code (code_of e) NOTICE ADMIT _ c refl) (not_code (code_of e) NOTICE DELIVER _ c refl) (is_code (code_of e) NOTICE _ _ c refl)
      (change_noticed t w j l (first_of e) (second_of e) (taken_off t e).price)

  pub change_step : Change (admits j t e) (delivers j t e) (finds j t e) (taken_off t e).price (job_at t j) (job_at (step_of t e).table j)
  change_step =
      by_cases Told t e
      (λ n r. rw (ne_eqb n 0 (refused_nonzero 9 n (omega arith) r)) (other refl refl refl (same_job (job_at t j) (job_at t j) refl)))
      (record {
        admit = λ c d. flags (is_code (code_of e) ADMIT _ _ c refl) (not_code (code_of e) ADMIT DELIVER _ c refl)
            (not_code (code_of e) ADMIT NOTICE _ c refl)
            (change_admitted t w j l (first_of e) (taken_off t e).price d);
        steal = λ c d. job_unchanged (stolen t (first_of e) (second_of e)) STEAL c refl refl refl (job_stolen t j (first_of e) (second_of e));
        deliver = λ c d. delivery c d.slot;
        start = λ c d. job_unchanged (started t (first_of e) (second_of e)) START c refl refl refl (job_started t j (first_of e) (second_of e));
        done = λ c d. job_unchanged (finished t (first_of e)) DONE c refl refl refl (job_finished t j (first_of e));
        die = λ c d. job_unchanged (died t (first_of e)) DIE c refl refl refl (job_died t (first_of e) j);
        notice = λ c d. notice c;
        join = λ c d. job_unchanged (joined t (first_of e)) JOIN c refl refl refl (job_joined t (first_of e) j);
      })
