-- `pricer::price_fixed` meets its contract. The invariant: after i periods p is the definition's value at i. Assumes nothing.
use mathlib.Core.Path.{◌≡◌}
use Rattle.pricer.specs.Price.{fixed_after}
use Rattle.pricer.proofs.price_fixed.Given as goal

abbrev pub invariant-loop-i : goal.invariant-loop-i
invariant-loop-i l = l.p ≡ fixed_after l.h l.d l._i
