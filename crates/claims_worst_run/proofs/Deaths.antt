-- Among events that are all accepted the deaths are those of code 6; and so the run that copies most has k of them.
-- Assumes nothing.
use Prim.Native.Nat.{ℕ, zero, suc}
use mathlib.Core.Path.{◌≡◌, refl, ap}
use mathlib.Core.Bool.{Bool, true, false, cond}
use mathlib.Core.List.{List, [], ◌∷◌}
use native.Mathlib.Omega.{arith}
use lib.Dec.{eqb}
use lib.ListN.{length, drop, get_or, replicate}
use Rattle.lists.proofs.Count.{ind, count, count_append}
use Rattle.table.specs.declared.Table.{Table}
use Rattle.dispatcher.specs.Codes.{DIE}
use Rattle.dispatcher.specs.Step.{code_of, step_of, answers_of}
use Rattle.claims.specs.History.{count_of, kills}
use Rattle.worst_run.specs.Worst.{death_of, deaths_to, worst_run}

abbrev is_death : List ℕ → Bool
is_death e = eqb (code_of e) DIE

cond_ind : (b : Bool) → cond b 1 0 ≡ ind b
cond_ind true = refl
cond_ind false = refl

deaths_accepted : (t : Table) (es : List (List ℕ)) → answers_of t es ≡ replicate (length es) 0 → count_of kills t es ≡ count is_death es
unfolding answers_of count_of
deaths_accepted t [] h = refl
deaths_accepted t (e ∷ es) h =
    let first : (step_of t e).number ≡ 0 = ap (λ (l : List ℕ). get_or l 0 0) h in
    let others : answers_of (step_of t e).table es ≡ replicate (length es) 0 = ap (drop 1) h in
    rw first (omega (arith, cond_ind (is_death e), deaths_accepted (step_of t e).table es others))

deaths_to_lem : (k : ℕ) → count is_death (deaths_to k) ≡ k
unfolding deaths_to death_of
deaths_to_lem zero = refl
deaths_to_lem (suc k) = omega (arith, count_append is_death (deaths_to k) (death_of (suc k)), deaths_to_lem k)

deaths_listed : (k : ℕ) → count is_death (worst_run k) ≡ k
unfolding worst_run
deaths_listed k = omega (arith, deaths_to_lem k)

pub deaths_run : (t : Table) (k : ℕ) → answers_of t (worst_run k) ≡ replicate (length (worst_run k)) 0 → count_of kills t (worst_run k) ≡ k
deaths_run t k h = omega (arith, deaths_accepted t (worst_run k) h, deaths_listed k)
