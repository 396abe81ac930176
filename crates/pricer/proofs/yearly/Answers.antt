-- `pricer::yearly` meets its contract: each literal is its number as binary64 has it. Assumes nothing.
use lib.Ieee.{of_bits, of_int, round}
use Rattle.pricer.proofs.yearly.Goals as goal

pub returns-in-1 : goal.returns-in-1
unfolding of_bits of_int round
returns-in-1 c = rw c.in-1.is

pub returns-in-2 : goal.returns-in-2
unfolding of_bits of_int round
returns-in-2 c = rw c.in-2.is

pub returns-in-4 : goal.returns-in-4
unfolding of_bits of_int round
returns-in-4 c = rw c.in-4.is

pub returns-in-12 : goal.returns-in-12
unfolding of_bits of_int round
returns-in-12 c = rw c.in-12.is
