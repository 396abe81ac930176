-- What holds of a table and is kept by each accepted event holds after any step, accepted or refused, and along every run.
-- Assumes nothing.
use mathlib.Core.List.{List, [], ◌∷◌}
use Prim.Native.Nat.{ℕ}
use Rattle.table.specs.declared.Table.{Table}
use Rattle.dispatcher.proofs.Events.{Arms, by_cases}
use Rattle.dispatcher.specs.Step.{step_of, run_of}

-- each accepted event keeps P: the one list of the events, at P
abbrev pub Preserved : (Table → Type 0) → Type 0
Preserved P = (t : Table) (e : List ℕ) → P t → Arms P t e

pub by_step : (P : Table → Type 0) → Preserved P → (t : Table) → P t → (e : List ℕ) → P (step_of t e).table
by_step P keeps t p e = by_cases (λ x. P x.table) t e (λ n r. p) (keeps t e p)

pub by_run : (P : Table → Type 0) → Preserved P → (t : Table) (es : List (List ℕ)) → P t → P (run_of t es)
unfolding run_of
by_run P k t [] p = p
by_run P k t (e ∷ es) p = by_run P k (step_of t e).table es (by_step P k t p e)
