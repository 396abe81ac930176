-- Document 02, 2.4: the number of open jobs along every run. On a table of the invariant it is the recount, before an event and after it; and what the
-- event does to each job's state (`change_step`) says how the recount moves.
-- Assumes nothing.
use Prim.Native.Nat.{ℕ, ◌+◌, ◌<◌}
use mathlib.Core.Path.{◌≡◌, refl, sym, ap, ◌∙◌}
use mathlib.Core.Logic.{◌≢◌}
use mathlib.Core.Bool.{Bool, true, false, cond, ◌&&◌, true≢false}
use mathlib.Core.List.{List, [], ◌∷◌}
use native.Mathlib.Omega.{arith}
use borrow.Author.Tests.{eqb-true, eq-eqb, ne_eqb}
use lib.Dec.{eqb}
use Rattle.lists.proofs.Cases.{by_bool, and_left, and_right, and_no}
use Rattle.book.specs.Book.{book_verdict}
use Rattle.table.specs.declared.Job.{Job}
use Rattle.table.specs.declared.Table.{Table}
use Rattle.table.specs.States.{opens}
use Rattle.table.specs.Views.{job_at}
use Rattle.table.specs.Parts.{RESULT, NOT_ADMITTED, OPEN, PRICED, recount}
use Rattle.table.proofs.Open.{recount_change, recount_same}
use Rattle.table.proofs.Refusals.{refused_nonzero}
use Rattle.table_opening.specs.Opening.{open_of}
use Rattle.table_opening.proofs.Shown.{open_fresh, opened_table}
use Rattle.theorem_invariant.proofs.State.{Invariant}
use Rattle.theorem_invariant.proofs.Keeps.{invariant_step, invariant_run}
use Rattle.dispatcher.specs.Codes.{ADMIT, DELIVER}
use Rattle.dispatcher.specs.Step.{code_of, first_of, step_of, run_of}
use Rattle.dispatcher.proofs.Events.{by_cases}
use Rattle.claims.specs.History.{is_accepted, count_of, admits, delivers, taken_off}
use Rattle.claims.specs.Open.{is_admission, finds_open, Counted, OpenJobs}
use Rattle.claims.proofs.Change.{Change}
use Rattle.claims.proofs.Change.Change.{admission, pricing, late, finding, other}
use Rattle.claims.proofs.Steps.{change_step}
use Rattle.claims.proofs.History.{opened_state, priced_state}
use Rattle.claims.proofs.Runs.{count_more, count_none}
use Rattle.claims.proofs.Further.{job_64}
use Rattle.claims.proofs.Start.{start}

-- ---- what a change of a job says of its state

module _ {a d f : Bool} {p : ℕ} {v w : Job} where
  becomes_open : Change a d f p v w → a ≡ true → (v.state ≡ NOT_ADMITTED) × (w.state ≡ OPEN)
  becomes_open (admission x y z s e) h = (s, ap (λ (u : Job). u.state) e ∙ opened_state 1)
  becomes_open (pricing x y z s e) h = absurd (true≢false (sym h ∙ x))
  becomes_open (late x y z s e) h = absurd (true≢false (sym h ∙ x))
  becomes_open (finding x y z s e) h = absurd (true≢false (sym h ∙ x))
  becomes_open (other x y z s) h = absurd (true≢false (sym h ∙ x))

  becomes_priced : Change a d f p v w → d ≡ true → v.state ≡ OPEN → w.state ≡ PRICED
  becomes_priced (admission x y z s e) h o = absurd (true≢false (sym h ∙ y))
  becomes_priced (pricing x y z s e) h o = ap (λ (u : Job). u.state) e ∙ priced_state v p
  becomes_priced (late x y z s e) h o = absurd (omega arith)
  becomes_priced (finding x y z s e) h o = absurd (true≢false (sym h ∙ y))
  becomes_priced (other x y z s) h o = absurd (true≢false (sym h ∙ y))

  stays : Change a d f p v w → a ≡ false → (d ≡ true → v.state ≢ OPEN) → w.state ≡ v.state
  stays (admission x y z s e) h k = absurd (true≢false (sym x ∙ h))
  stays (pricing x y z s e) h k = absurd (k y s)
  stays (late x y z s e) h k = ap (λ (u : Job). u.state) e
  stays (finding x y z s e) h k = ap (λ (u : Job). u.state) e ∙ opened_state (v.replica + 1) ∙ sym s
  stays (other x y z s) h k = s.state

-- ---- the recount through one event

module _ (t : Table) (w : Invariant t) (e : List ℕ) where
  abbrev u : Table
  u = (step_of t e).table

  number_before_lem : t.open_jobs ≡ recount t
  number_before_lem = w.counts.open_jobs

  number_after : u.open_jobs ≡ recount u
  number_after = (invariant_step t e w).counts.open_jobs

  -- an admission names an entry
  named : is_accepted t e ≡ true → code_of e ≡ ADMIT → first_of e < 64
  named =
      by_cases (λ x. eqb x.number 0 ≡ true → code_of e ≡ ADMIT → first_of e < 64) t e
      (λ n r h k. absurd (refused_nonzero 9 n (omega arith) r (eqb-true n 0 h)))
      (record {
        admit = λ c d h k. omega (arith, d.entry, w.facts.entry_count_most);
        steal = λ c d h k. absurd (omega arith);
        deliver = λ c d h k. absurd (omega arith);
        start = λ c d h k. absurd (omega arith);
        done = λ c d h k. absurd (omega arith);
        die = λ c d h k. absurd (omega arith);
        notice = λ c d h k. absurd (omega arith);
        join = λ c d h k. absurd (omega arith);
      })

  -- an event that changes the state of job j alone
  one_job : (j : ℕ) → j < 64 → ((i : ℕ) → i < 64 → i ≢ j → admits i t e ≡ false) → ((i : ℕ) → i < 64 → i ≢ j → delivers i t e ≡ false)
      → recount u + opens (job_at t j).state ≡ recount t + opens (job_at u j).state
  one_job j l a d =
      recount_change t u j l (λ i k n. stays (change_step t w e i k) (a i k n) (λ x. absurd (true≢false (sym x ∙ d i k n))))

  raised : is_admission t e ≡ true → u.open_jobs ≡ t.open_jobs + 1
  unfolding opens
  raised h =
      let yes = and_left (is_accepted t e) (eqb (code_of e) ADMIT) h in
      let code : code_of e ≡ ADMIT = eqb-true _ _ (and_right (is_accepted t e) (eqb (code_of e) ADMIT) h) in
      let j = first_of e in
      let l = named yes code in
      let s = becomes_open (change_step t w e j l) (rw (yes, code, eq-eqb j j refl) refl) in
      let r = one_job j l
      (λ i k n. and_no (is_accepted t e) _ (and_no (eqb (code_of e) ADMIT) _ (ne_eqb j i (λ z. n (sym z)))))
      (λ i k n. and_no (is_accepted t e) _ (rw code refl)) in
      let q : recount u + 0 ≡ recount t + 1 = rw (s.0, s.1) at r in
      number_after ∙ omega (arith, q, number_before_lem)

  lowered : finds_open t e ≡ true → u.open_jobs + 1 ≡ t.open_jobs
  unfolding opens
  lowered h =
      let x = taken_off t e in
      let j = x.job in
      let code = eqb (code_of e) DELIVER in
      let kind = eqb x.kind RESULT in
      let open_job = eqb (job_at t j).state OPEN in
      let yes = and_left (is_accepted t e) (code && (kind && open_job)) h in
      let h1 = and_right (is_accepted t e) (code && (kind && open_job)) h in
      let c : code_of e ≡ DELIVER = eqb-true _ _ (and_left code (kind && open_job) h1) in
      let h2 = and_right code (kind && open_job) h1 in
      let k = and_left kind open_job h2 in
      let o : (job_at t j).state ≡ OPEN = eqb-true _ _ (and_right kind open_job h2) in
      let l = job_64 t j w (λ z. omega arith) in
      let s = becomes_priced (change_step t w e j l) (rw (yes, c, k, eq-eqb j j refl) refl) o in
      let r = one_job j l
      (λ i g n. and_no (is_accepted t e) _ (rw c refl))
      (λ i g n. and_no (is_accepted t e) _ (and_no code _ (and_no kind _ (ne_eqb j i (λ z. n (sym z)))))) in
      let q : recount u + 1 ≡ recount t + 0 = rw (s, o) at r in
      omega (arith, q, number_before_lem, number_after)

  unchanged : is_admission t e ≡ false → finds_open t e ≡ false → u.open_jobs ≡ t.open_jobs
  unchanged a f =
      number_after
      ∙ recount_same t u (λ i l. stays (change_step t w e i l) (no_admission i) (no_result i))
      ∙ sym number_before_lem
    where
      no_admission : (i : ℕ) → admits i t e ≡ false
      no_admission i =
          by_bool (is_accepted t e)
          (λ y. by_bool (eqb (code_of e) ADMIT) (λ c. absurd (true≢false (sym (rw (y, c) refl) ∙ a))) (λ c. rw (y, c) refl))
          (λ y. rw y refl)

      no_result : (i : ℕ) → delivers i t e ≡ true → (job_at t i).state ≢ OPEN
      no_result i d o =
          let x = taken_off t e in
          let yes = and_left (is_accepted t e) _ d in
          let h1 = and_right (is_accepted t e) _ d in
          let c = and_left (eqb (code_of e) DELIVER) _ h1 in
          let h2 = and_right (eqb (code_of e) DELIVER) _ h1 in
          let k = and_left (eqb x.kind RESULT) (eqb x.job i) h2 in
          let j : x.job ≡ i = eqb-true _ _ (and_right (eqb x.kind RESULT) (eqb x.job i) h2) in
          let s : (job_at t x.job).state ≡ OPEN = ap (λ (n : ℕ). (job_at t n).state) j ∙ o in
          true≢false (sym (rw (yes, c, k, eq-eqb _ _ s) refl) ∙ f)

  pub counted : Counted t e
  counted = record { raised = raised; lowered = lowered; unchanged = unchanged }

-- ---- along a list

-- an event is no admission and no RESULT at once
both_sides : (t u : ℕ) (a f : Bool) → (a ≡ true → u ≡ t + 1) → (f ≡ true → u + 1 ≡ t) → (a ≡ false → f ≡ false → u ≡ t)
    → t + cond a 1 0 ≡ u + cond f 1 0
both_sides t u true true r l s = absurd (omega (arith, r refl, l refl))
both_sides t u true false r l s = omega (arith, r refl)
both_sides t u false true r l s = omega (arith, l refl)
both_sides t u false false r l s = omega (arith, s refl refl)

balance : (t : Table) (es : List (List ℕ)) → Invariant t
    → t.open_jobs + count_of is_admission t es ≡ (run_of t es).open_jobs + count_of finds_open t es
unfolding run_of
balance t [] w = omega (arith, count_none is_admission t, count_none finds_open t)
balance t (e ∷ es) w =
    let u = (step_of t e).table in
    let c = counted t w e in
    let b = both_sides t.open_jobs u.open_jobs (is_admission t e) (finds_open t e) c.raised c.lowered c.unchanged in
    omega (arith, b, count_more is_admission t e es, count_more finds_open t e es, balance u es (invariant_step t e w))

pub open_jobs : (book : List ℕ) → book_verdict book ≡ 0 → (events : List (List ℕ)) → OpenJobs book events
open_jobs book accepted events =
    let t = (open_of book).table in
    let s = start book accepted in
    let w = invariant_run t events s.invariant in
    record {
      recounted = w.counts.open_jobs;
      next = λ e. counted (run_of t events) w e;
      history = omega (arith, balance t events s.invariant, ap (λ (u : Table). u.open_jobs) (opened_table book accepted), open_fresh book);
    }
