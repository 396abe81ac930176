-- `pricer::price_zero` meets its contract. The invariant: after i periods p is the definition's value at i. Assumes nothing.
use mathlib.Core.Path.{◌≡◌}
use Rattle.pricer.specs.Price.{zero_after}
use Rattle.pricer.proofs.price_zero.Given as goal

abbrev pub invariant-loop-i : goal.invariant-loop-i
invariant-loop-i l = l.p ≡ zero_after l.d l._i
