-- `validity::passes` meets its contract. The definition joins what the two functions that it calls equal.
-- Assumes nothing.
use Rattle.validity.specs.Validity.{table_ok}
use Rattle.validity.proofs.passes.Goals as goal

pub returns : goal.returns
unfolding table_ok
returns c = rw (c.elements_ok.ensures, c.counts_ok.ensures)
