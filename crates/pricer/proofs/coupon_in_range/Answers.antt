-- `pricer::coupon_in_range` meets its contract: its tests are the definition's, the literals being the definition's numbers. Assumes nothing.
use mathlib.Core.Path.{refl}
use lib.Ieee.{of_bits}
use Rattle.pricer.proofs.coupon_in_range.Goals as goal

pub returns : goal.returns
unfolding of_bits
returns c = refl
