-- A job along a list of events, told by the admissions, RESULTs and notices of the list: by induction on the list from what one event does to it.
-- Assumes nothing.
use Prim.Native.Nat.{ℕ, zero, suc, ◌+◌, ◌≤◌, ◌<◌}
use mathlib.Core.Path.{◌≡◌, refl, sym, ap, ◌∙◌}
use mathlib.Core.Logic.{◌≢◌}
use mathlib.Core.Bool.{Bool, true, false, cond}
use mathlib.Core.List.{List, [], ◌∷◌}
use native.Mathlib.Omega.{arith}
use lib.ListN.{get_or}
use Rattle.table.specs.declared.Job.{Job}
use Rattle.table.specs.declared.Table.{Table}
use Rattle.table.specs.Views.{job_at}
use Rattle.table.specs.Parts.{opened, priced, NOT_ADMITTED, OPEN, PRICED}
use Rattle.theorem_invariant.proofs.State.{Invariant}
use Rattle.dispatcher.specs.Step.{step_of, run_of}
use Rattle.claims.specs.History.{count_of, admits, finds, delivers, taken_off, results_of, state_after}
use Rattle.dispatcher.proofs.Runs.{run_more}
use Rattle.claims.proofs.Runs.{count_more, count_none, results_yes, results_no}
use Rattle.theorem_invariant.proofs.Keeps.{invariant_step}
use Rattle.claims.proofs.Change.{Change}
use Rattle.claims.proofs.Change.Change.{admission, pricing, late, finding, other}
use Rattle.claims.proofs.Steps.{change_step}

-- ---- parts of jobs

pub opened_state : (r : ℕ) → (opened r).state ≡ OPEN
unfolding opened
opened_state r = refl

opened_replica : (r : ℕ) → (opened r).replica ≡ r
unfolding opened
opened_replica r = refl

pub priced_state : (v : Job) (p : ℕ) → (priced v p).state ≡ PRICED
unfolding priced
priced_state v p = refl

priced_price : (v : Job) (p : ℕ) → (priced v p).price ≡ p
unfolding priced
priced_price v p = refl

priced_replica : (v : Job) (p : ℕ) → (priced v p).replica ≡ v.replica
unfolding priced
priced_replica v p = refl

after_some : (n p : ℕ) (ps : List ℕ) → state_after n (p ∷ ps) ≡ 2
unfolding state_after
after_some zero p ps = refl
after_some (suc n) p ps = refl

-- ---- a priced job

-- no event touches it
pub record Settled (j : ℕ) (t : Table) (es : List (List ℕ)) : Type 0 where
  pub job : job_at (run_of t es) j ≡ job_at t j
  pub admitted : count_of (admits j) t es ≡ 0
  pub found : count_of (finds j) t es ≡ 0

module _ (j : ℕ) (l : j < 64) where
  settled_one : (a d f : Bool) (p : ℕ) (v w : Job) → Change a d f p v w → v.state ≡ PRICED → (w ≡ v) × (a ≡ false) × (f ≡ false)
  settled_one a d f p v w (admission x y z s e) h = absurd (omega arith)
  settled_one a d f p v w (pricing x y z s e) h = absurd (omega arith)
  settled_one a d f p v w (late x y z s e) h = (e, x, z)
  settled_one a d f p v w (finding x y z s e) h = absurd (omega arith)
  settled_one a d f p v w (other x y z s) h = (s.stays h, x, z)

  settled_more : (t : Table) (e : List ℕ) (es : List (List ℕ)) → (job_at (step_of t e).table j ≡ job_at t j) × (admits j t e ≡ false)
      × (finds j t e ≡ false) → Settled j (step_of t e).table es → Settled j t (e ∷ es)
  settled_more t e es c r = record {
    job = rw (run_more t e es) (r.job ∙ c.0);
    admitted = count_more (admits j) t e es ∙ rw (c.1, r.admitted) refl;
    found = count_more (finds j) t e es ∙ rw (c.2, r.found) refl;
  }

  pub settled : (t : Table) (es : List (List ℕ)) → Invariant t → (job_at t j).state ≡ PRICED → Settled j t es
  unfolding run_of
  settled t [] w h = record { job = refl; admitted = count_none (admits j) t; found = count_none (finds j) t }
  settled t (e ∷ es) w h =
      let c = settled_one _ _ _ _ _ _ (change_step t w e j l) h in
      settled_more t e es c (settled (step_of t e).table es (invariant_step t e w) (ap (λ (v : Job). v.state) c.0 ∙ h))

-- ---- a job not admitted, or open

-- before: 1 if it was open at the start, else 0; base: the replica number it had or will be admitted with
pub record Shows (j : ℕ) (t : Table) (es : List (List ℕ)) (before base : ℕ) : Type 0 where
  pub state : (job_at (run_of t es) j).state ≡ state_after (before + count_of (admits j) t es) (results_of j t es)
  pub once : before + count_of (admits j) t es ≤ 1
  pub admitted : results_of j t es ≢ [] → before + count_of (admits j) t es ≡ 1
  pub price : (job_at (run_of t es) j).price ≡ get_or (results_of j t es) 0 0
  pub replica : (job_at (run_of t es) j).state ≢ NOT_ADMITTED → (job_at (run_of t es) j).replica ≡ base + count_of (finds j) t es

-- an event that delivers no RESULT for the job
shows_more : (j : ℕ) (t : Table) (e : List ℕ) (es : List (List ℕ)) (n m b c : ℕ) → delivers j t e ≡ false
    → n + cond (admits j t e) 1 0 ≡ m → b + cond (finds j t e) 1 0 ≡ c → Shows j (step_of t e).table es m c → Shows j t (e ∷ es) n b
shows_more j t e es n m b c d a f r =
    let u = (step_of t e).table in
    let na : n + count_of (admits j) t (e ∷ es) ≡ m + count_of (admits j) u es = omega (arith, count_more (admits j) t e es, a) in
    let nf : b + count_of (finds j) t (e ∷ es) ≡ c + count_of (finds j) u es = omega (arith, count_more (finds j) t e es, f) in
    record {
      state = rw (run_more t e es, na, results_no j t e es d) r.state;
      once = rw na r.once;
      admitted = rw (na, results_no j t e es d) r.admitted;
      price = rw (run_more t e es, results_no j t e es d) r.price;
      replica = rw (run_more t e es, nf) r.replica;
    }

-- the first RESULT for an open job
shows_priced : (j : ℕ) (t : Table) (e : List ℕ) (es : List (List ℕ)) → admits j t e ≡ false → delivers j t e ≡ true → finds j t e ≡ false
    → job_at (step_of t e).table j ≡ priced (job_at t j) (taken_off t e).price → Settled j (step_of t e).table es
    → Shows j t (e ∷ es) 1 (job_at t j).replica
shows_priced j t e es a d f w r =
    let v = job_at t j in
    let p = (taken_off t e).price in
    let last : job_at (run_of t (e ∷ es)) j ≡ priced v p = ap (λ (u : Table). job_at u j) (run_more t e es) ∙ r.job ∙ w in
    let na : 1 + count_of (admits j) t (e ∷ es) ≡ 1 =
    omega (arith, count_more (admits j) t e es, r.admitted, ap (λ (b : Bool). cond {A = ℕ} b 1 0) a) in
    let nf : count_of (finds j) t (e ∷ es) ≡ 0 = omega (arith, count_more (finds j) t e es, r.found, ap (λ (b : Bool). cond {A = ℕ} b 1 0) f) in
    record {
      state = rw (last, priced_state v p, results_yes j t e es d) (sym (after_some _ p _));
      once = omega (arith, na);
      admitted = λ z. na;
      price = rw (last, results_yes j t e es d) (priced_price v p);
      replica = λ z. rw (last, priced_replica v p) (omega (arith, nf));
    }

module _ (j : ℕ) (l : j < 64) where
  -- no event
  open_none : (t : Table) → Invariant t → (job_at t j).state ≡ OPEN → Shows j t [] 1 (job_at t j).replica
  unfolding run_of count_of results_of state_after
  open_none t w h = record {
    state = h;
    once = omega arith;
    admitted = λ z. refl;
    price = (w.facts.job j l).unpriced (λ e. omega arith);
    replica = λ z. omega arith;
  }

  new_none : (t : Table) → Invariant t → (job_at t j).state ≡ NOT_ADMITTED → Shows j t [] 0 1
  unfolding run_of count_of results_of state_after
  new_none t w h = record {
    state = h;
    once = omega arith;
    admitted = λ z. absurd (z refl);
    price = (w.facts.job j l).unpriced (λ e. omega arith);
    replica = λ z. absurd (z h);
  }

  open_more : (t : Table) (e : List ℕ) (es : List (List ℕ))
      → Change (admits j t e) (delivers j t e) (finds j t e) (taken_off t e).price (job_at t j) (job_at (step_of t e).table j)
      → (job_at t j).state ≡ OPEN
      → ((job_at (step_of t e).table j).state ≡ OPEN → Shows j (step_of t e).table es 1 (job_at (step_of t e).table j).replica)
      → ((job_at (step_of t e).table j).state ≡ PRICED → Settled j (step_of t e).table es)
      → Shows j t (e ∷ es) 1 (job_at t j).replica
  open_more t e es (admission x y z s c) h r q = absurd (omega arith)
  open_more t e es (pricing x y z s c) h r q =
      shows_priced j t e es x y z c (q (ap (λ (v : Job). v.state) c ∙ priced_state (job_at t j) (taken_off t e).price))
  open_more t e es (late x y z s c) h r q = absurd (omega arith)
  open_more t e es (finding x y z s c) h r q =
      let k = (job_at t j).replica + 1 in
      let o : (job_at (step_of t e).table j).replica ≡ k = ap (λ (v : Job). v.replica) c ∙ opened_replica k in
      shows_more j t e es 1 1 (job_at t j).replica k y (rw x refl) (rw z refl) (rw o at (r (ap (λ (v : Job). v.state) c ∙ opened_state k)))
  open_more t e es (other x y z s) h r q =
      shows_more j t e es 1 1 (job_at t j).replica (job_at t j).replica y (rw x refl) (rw z (omega arith)) (rw s.replica at (r (s.state ∙ h)))

  pub open_run : (t : Table) (es : List (List ℕ)) → Invariant t → (job_at t j).state ≡ OPEN → Shows j t es 1 (job_at t j).replica
  open_run t [] w h = open_none t w h
  open_run t (e ∷ es) w h =
      open_more t e es (change_step t w e j l) h (open_run (step_of t e).table es (invariant_step t e w))
      (settled j l (step_of t e).table es (invariant_step t e w))

  new_more : (t : Table) (e : List ℕ) (es : List (List ℕ))
      → Change (admits j t e) (delivers j t e) (finds j t e) (taken_off t e).price (job_at t j) (job_at (step_of t e).table j)
      → (job_at t j).state ≡ NOT_ADMITTED
      → ((job_at (step_of t e).table j).state ≡ NOT_ADMITTED → Shows j (step_of t e).table es 0 1)
      → ((job_at (step_of t e).table j).state ≡ OPEN → Shows j (step_of t e).table es 1 (job_at (step_of t e).table j).replica)
      → Shows j t (e ∷ es) 0 1
  new_more t e es (admission x y z s c) h r q =
      let o : (job_at (step_of t e).table j).replica ≡ 1 = ap (λ (v : Job). v.replica) c ∙ opened_replica 1 in
      shows_more j t e es 0 1 1 1 y (rw x refl) (rw z refl) (rw o at (q (ap (λ (v : Job). v.state) c ∙ opened_state 1)))
  new_more t e es (pricing x y z s c) h r q = absurd (omega arith)
  new_more t e es (late x y z s c) h r q = absurd (omega arith)
  new_more t e es (finding x y z s c) h r q = absurd (omega arith)
  new_more t e es (other x y z s) h r q = shows_more j t e es 0 0 1 1 y (rw x refl) (rw z refl) (r (s.state ∙ h))

  pub new_run : (t : Table) (es : List (List ℕ)) → Invariant t → (job_at t j).state ≡ NOT_ADMITTED → Shows j t es 0 1
  new_run t [] w h = new_none t w h
  new_run t (e ∷ es) w h =
      new_more t e es (change_step t w e j l) h (new_run (step_of t e).table es (invariant_step t e w))
      (open_run (step_of t e).table es (invariant_step t e w))
