-- `validity::each` meets its contract. The loop keeps: the test of all the items passed so far.
-- Assumes nothing.
use Rattle.std.proofs.Common.{◌≡◌, ℕ, Bool}
use Rattle.lists.specs.Scan.{all}
use Rattle.validity.specs.Each.{Tells}
use Rattle.validity.proofs.each.Given as goal

abbrev pub invariant-loop-i : goal.invariant-loop-i
invariant-loop-i g l = (d : _) (p : ℕ → Bool) → Tells (goal.F-post g l.test) l.items d p → l.ok ≡ all p l.i
