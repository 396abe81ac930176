-- What `Answered` says of an event wherever it stands in its list, what is counted with one more event at the front, and so along a list.
-- Assumes nothing.
use Prim.Native.Nat.{ℕ, ◌+◌}
use mathlib.Core.Path.{◌≡◌, refl, sym, ap, ◌∙◌}
use mathlib.Core.Logic.{◌≢◌}
use mathlib.Core.Bool.{Bool, true, false, cond}
use mathlib.Core.List.{List, [], ◌∷◌, ◌++◌}
use native.Mathlib.Omega.{arith}
use lib.Dec.{eqb}
use lib.ListN.{length, get_or}
use Rattle.table.specs.declared.Table.{Table}
use Rattle.protocol_preservation.proofs.Ok.{Valid}
use Rattle.theorem_invariant.proofs.State.{Invariant}
use Rattle.theorem_invariant.proofs.Keeps.{invariant_step}
use Rattle.dispatcher.specs.Step.{step_of, run_of, answers_of}
use Rattle.dispatcher.proofs.Preserved.{valid_passes, valid_run, step_answer}
use Rattle.dispatcher.proofs.Runs.{run_append, run_more, answer_at}
use Rattle.dispatcher.proofs.Events.{answer_9, step_refused}
use Rattle.claims.specs.History.{count_of, delivers, taken_off, results_of}
use Rattle.claims.specs.Claims.{Answered}

step_valid : (t : Table) (e : List ℕ) → Valid t → (step_of t e).number ≢ 9
step_valid t e v = rw (step_answer t e (valid_passes t v)) (answer_9 t e)

pub answered : (t : Table) → Valid t → (front : List (List ℕ)) (e : List ℕ) (back : List (List ℕ))
    → Answered t front e back (get_or (answers_of t (front ++ e ∷ back)) (length front) 0)
answered t v front e back =
    let n = answer_at t front e back in
    record {
      number = n;
      next = run_append t front (e ∷ back) ∙ run_more (run_of t front) e back;
      refused = λ h. step_refused (run_of t front) e (λ z. h (n ∙ z));
      valid = λ z. step_valid (run_of t front) e (valid_run t front v) (sym n ∙ z);
    }

-- ---- one more event at the front

pub count_more : (p : Table → List ℕ → Bool) (t : Table) (e : List ℕ) (es : List (List ℕ))
    → count_of p t (e ∷ es) ≡ cond (p t e) 1 0 + count_of p (step_of t e).table es
unfolding count_of
count_more p t e es = refl

pub count_none : (p : Table → List ℕ → Bool) (t : Table) → count_of p t [] ≡ 0
unfolding count_of
count_none p t = refl

pub results_yes : (j : ℕ) (t : Table) (e : List ℕ) (es : List (List ℕ)) → delivers j t e ≡ true
    → results_of j t (e ∷ es) ≡ (taken_off t e).price ∷ results_of j (step_of t e).table es
unfolding results_of
results_yes j t e es d = rw d refl

pub results_no : (j : ℕ) (t : Table) (e : List ℕ) (es : List (List ℕ)) → delivers j t e ≡ false
    → results_of j t (e ∷ es) ≡ results_of j (step_of t e).table es
unfolding results_of
results_no j t e es d = rw d refl

-- ---- along a list

-- what grows by one at each event that passes the test grows by as many as pass it
pub count_along : (f : Table → ℕ) (p : Table → List ℕ → Bool)
    → ((t : Table) (e : List ℕ) → Invariant t → f (step_of t e).table ≡ f t + cond (p t e) 1 0)
    → (t : Table) (es : List (List ℕ)) → Invariant t → f (run_of t es) ≡ f t + count_of p t es
unfolding run_of
count_along f p step t [] w = omega (arith, count_none p t)
count_along f p step t (e ∷ es) w =
    omega (arith, count_along f p step (step_of t e).table es (invariant_step t e w), step t e w, count_more p t e es)

-- an event of one code has no other
pub other_code : (code k m : ℕ) → code ≡ k → eqb k m ≡ false → eqb code m ≡ false
other_code code k m h n = ap (λ (i : ℕ). eqb i m) h ∙ n
