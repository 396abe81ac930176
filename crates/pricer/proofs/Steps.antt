-- One more period, in the code's words: a turn of the loop goes from i to i + 1. Assumes nothing.
use mathlib.Core.Path.{◌≡◌}
use Prim.Native.Nat.{ℕ, ◌+◌}
use native.Mathlib.Numerals.{add-one}
use lib.Ieee.{Float, binary64, add, div}
use Rattle.pricer.specs.Price.{zero_after, fixed_after}

pub zero_step : (d p : Float) (i : ℕ) → p ≡ zero_after d i → div binary64 p d ≡ zero_after d (i + 1)
unfolding zero_after
zero_step d p i e = rw (add-one, e)

pub fixed_step : (h d p : Float) (i : ℕ) → p ≡ fixed_after h d i → div binary64 (add binary64 p h) d ≡ fixed_after h d (i + 1)
unfolding fixed_after
fixed_step h d p i e = rw (add-one, e)
