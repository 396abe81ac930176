-- An accepted event keeps the invariant.
-- Assumes nothing.
use mathlib.Core.Path.{◌≡◌, ap}
use mathlib.Core.List.{List}
use Prim.Native.Nat.{ℕ}
use Rattle.table.specs.declared.Answer.{Answer}
use Rattle.table.specs.declared.Table.{Table}
use Rattle.table.specs.Parts.{accept}
use Rattle.theorem_invariant.proofs.State.{Invariant}
use Rattle.theorem_invariant.proofs.Keeps.{invariant_step}
use Rattle.dispatcher.specs.Step.{step_of}

-- the table that an accepted event returns
pub accepted_invariant : (t u : Table) (e : List ℕ) → Invariant t → step_of t e ≡ accept u → Invariant u
accepted_invariant t u e w s = let next : (step_of t e).table ≡ u = ap (λ (a : Answer). a.table) s in rw next at (invariant_step t e w)
