-- `pricer::yield_in_range` meets its contract: its tests are the definition's, the literals being the definition's numbers. Assumes nothing.
use mathlib.Core.Path.{refl}
use lib.Ieee.{of_bits, neg}
use Rattle.pricer.proofs.yield_in_range.Goals as goal

pub returns : goal.returns
unfolding of_bits neg
returns c = refl
