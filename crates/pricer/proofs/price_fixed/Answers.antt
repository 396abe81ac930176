-- `pricer::price_fixed` meets its contract. The invariant: after i periods p is the definition's value at i. Assumes nothing.
use native.Mathlib.Nat.{le_antisymm}
use native.Mathlib.Omega.{arith}
use mathlib.Core.Path.{refl, ap, ◌∙◌}
use lib.Ieee.{of_bits}
use Rattle.pricer.specs.Price.{fixed_after}
use Rattle.pricer.proofs.Steps.{fixed_step}
use Rattle.pricer.proofs.price_fixed.Goals as goal

pub loop-i-init : goal.loop-i-init
unfolding of_bits fixed_after
loop-i-init c = refl

pub loop-i-preserved : goal.loop-i-preserved
loop-i-preserved c = fixed_step _ _ _ _ c.loop-i.invariant

pub returns : goal.returns
unfolding of_bits
returns c = rw (← c.yearly-k.ensures) (c.loop-i.invariant ∙ ap (fixed_after _ _) (le_antisymm (omega arith) c.loop-i-test.false))
