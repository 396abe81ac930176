-- What a job adds to the number of open jobs: 0 or 1. Assumes nothing.
use Prim.Native.Nat.{ℕ, ◌≤◌}
use mathlib.Core.Path.{◌≡◌}
use native.Mathlib.Omega.{arith}
use borrow.Author.Tests.{eqb-true}
use lib.Dec.{eqb}
use Rattle.lists.proofs.Cases.{by_bool}
use Rattle.table.specs.States.{OPEN, opens}

pub opens_most : (state : ℕ) → opens state ≤ 1
unfolding opens
opens_most state = by_bool (eqb state OPEN) (λ e. rw e (omega arith)) (λ e. rw e (omega arith))

pub opens_within : (state n : ℕ) → (state ≡ OPEN → 1 ≤ n) → opens state ≤ n
unfolding opens
opens_within state n h = by_bool (eqb state OPEN) (λ e. rw e (h (eqb-true _ _ e))) (λ e. rw e (omega arith))
