-- Runs put together: a list of events after another, one more event at the front, and the number of an event where it stands in its list.
-- Assumes nothing.
use Prim.Native.Nat.{ℕ, suc}
use mathlib.Core.Path.{◌≡◌, refl, ap}
use mathlib.Core.List.{List, [], ◌∷◌, ◌++◌}
use lib.ListN.{length, get_or}
use Rattle.table.specs.declared.Table.{Table}
use Rattle.dispatcher.specs.Step.{step_of, run_of, answers_of}

pub run_append : (t : Table) (es fs : List (List ℕ)) → run_of t (es ++ fs) ≡ run_of (run_of t es) fs
unfolding run_of
run_append t [] fs = refl
run_append t (e ∷ es) fs = run_append (step_of t e).table es fs

pub answers_append : (t : Table) (es fs : List (List ℕ)) → answers_of t (es ++ fs) ≡ answers_of t es ++ answers_of (run_of t es) fs
unfolding answers_of run_of
answers_append t [] fs = refl
answers_append t (e ∷ es) fs = ap (λ (l : List ℕ). (step_of t e).number ∷ l) (answers_append (step_of t e).table es fs)

pub run_more : (t : Table) (e : List ℕ) (es : List (List ℕ)) → run_of t (e ∷ es) ≡ run_of (step_of t e).table es
unfolding run_of
run_more t e es = refl

pub answers_length : (t : Table) (es : List (List ℕ)) → length (answers_of t es) ≡ length es
unfolding answers_of
answers_length t [] = refl
answers_length t (e ∷ es) = ap suc (answers_length (step_of t e).table es)

pub answer_at : (t : Table) (es : List (List ℕ)) (e : List ℕ) (fs : List (List ℕ))
    → get_or (answers_of t (es ++ e ∷ fs)) (length es) 0 ≡ (step_of (run_of t es) e).number
unfolding run_of answers_of
answer_at t [] e fs = refl
answer_at t (d ∷ es) e fs = answer_at (step_of t d).table es e fs
