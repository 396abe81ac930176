-- `validity::counts_ok` meets its contract.
-- Assumes nothing.
use Rattle.validity.specs.Validity.{counts_ok}
use Rattle.validity.proofs.counts_ok.Goals as goal

pub returns : goal.returns
unfolding counts_ok
returns c = rw c.open_in.ensures
