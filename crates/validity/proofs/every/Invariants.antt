-- `validity::every` meets its contract. The loop keeps: all the items passed so far pass.
-- Assumes nothing.
use Rattle.std.proofs.Common.{◌≡◌, ℕ, Bool, true}
use Rattle.lists.specs.Scan.{all}
use Rattle.validity.specs.Each.{Tells}
use Rattle.validity.proofs.every.Given as goal

abbrev pub invariant-loop-i : goal.invariant-loop-i
invariant-loop-i g l = (d : _) (p : ℕ → Bool) → Tells (goal.F-post g l.test) l.items d p → all p l.i ≡ true
