-- "at most 879 further accepted events (no admission, steal or death) price every admitted bond", from any table of the invariant.
-- Assumes nothing.
use Prim.Native.Nat.{ℕ, ◌+◌, ◌<◌}
use mathlib.Core.Path.{◌≡◌, refl, ap}
use mathlib.Core.Logic.{◌≢◌}
use mathlib.Core.Bool.{true}
use mathlib.Core.List.{List, [], ◌∷◌}
use native.Mathlib.Omega.{arith}
use borrow.Author.Tests.{ltb-true, ltb-false}
use lib.Dec.{ltb}
use lib.ListN.{length, replicate}
use Rattle.lists.proofs.Cases.{by_bool, by_eq, and_both}
use Rattle.table.specs.declared.Job.{Job}
use Rattle.table.specs.Parts.{NOT_ADMITTED, OPEN, PRICED}
use Rattle.table.specs.declared.Table.{Table}
use Rattle.table.specs.Views.{job_at}
use Rattle.theorem_invariant.proofs.State.{Invariant}
use Rattle.dispatcher.specs.Step.{step_of, run_of, answers_of, is_further}
use Rattle.theorem_drain.proofs.Reach.{Accepted}
use Rattle.theorem_drain.proofs.Drain.{drain}
use Rattle.claims.specs.History.{count_of, admits, results_of, state_after, all_further}
use Rattle.claims.specs.Claims.{Further}
use Rattle.claims.proofs.Change.{job_past}
use Rattle.claims.proofs.History.{settled, open_run}

-- each event of the list is answered 0, and is none of the other kinds
all_zero : (t : Table) (es : List (List ℕ)) → Accepted t es → answers_of t es ≡ replicate (length es) 0
unfolding answers_of
all_zero t [] a = refl
all_zero t (e ∷ es) a = rw (a.1, all_zero (step_of t e).table es a.2) refl

all_further_lem : (t : Table) (es : List (List ℕ)) → Accepted t es → all_further es ≡ true
unfolding all_further
all_further_lem t [] a = refl
all_further_lem t (e ∷ es) a = and_both (is_further e) (all_further es) a.0 (all_further_lem (step_of t e).table es a.2)

-- ---- an admitted job stays admitted

admitted_after : (ps : List ℕ) → state_after 1 ps ≢ 0
unfolding state_after
admitted_after [] = λ (e : ◌≡◌ {A = ℕ} 1 0). omega arith
admitted_after (p ∷ ps) = λ (e : ◌≡◌ {A = ℕ} 2 0). omega arith

-- only the jobs of the array are admitted
pub job_64 : (t : Table) (j : ℕ) → Invariant t → (job_at t j).state ≢ NOT_ADMITTED → j < 64
job_64 t j w n =
    by_bool (ltb j 64)
    (λ e. ltb-true j 64 e)
    (λ e. absurd (n (ap (λ (v : Job). v.state) (job_past t w.sized j (ltb-false j 64 e)))))

stays_admitted : (t : Table) (es : List (List ℕ)) (j : ℕ) → Invariant t → (job_at t j).state ≢ NOT_ADMITTED → (job_at (run_of t es) j).state ≢ NOT_ADMITTED
stays_admitted t es j w n =
    let l = job_64 t j w n in
    by_eq (job_at t j).state OPEN
    (λ e.
    let r = open_run j l t es w e in
    let one : 1 + count_of (admits j) t es ≡ 1 = omega (arith, r.once) in
    rw (r.state, one) (admitted_after (results_of j t es)))
    (λ e.
    let two : (job_at t j).state ≡ PRICED = omega (arith, n, e, (w.facts.job j l).state) in
    rw (settled j l t es w two).job n)

pub further : (t : Table) → Invariant t → Further t
further t w =
    let r = drain t w in
    record {
      events = r.events;
      few = omega (arith, r.few);
      accepted = all_zero t r.events r.accepted;
      only = all_further_lem t r.events r.accepted;
      priced = λ j n.
          let l = job_64 t j w n in
          omega (arith, stays_admitted t r.events j w n, r.there.none_open j l, (r.there.invariant.facts.job j l).state);
    }
