-- `table_opening::no_bonds` meets its contract. The bits of 0.0 are those of the definition's +0.
-- Assumes nothing.
use mathlib.Core.Path.{refl}
use lib.Ieee.{of_bits}
use Rattle.table_opening.proofs.no_bonds.Goals as goal

pub returns : goal.returns
unfolding of_bits
returns c = refl
