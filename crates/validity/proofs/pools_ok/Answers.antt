-- `validity::pools_ok` meets its contract. The test of each machine is that of its pool.
-- Assumes nothing.
use Rattle.std.proofs.Common.{rules, arith}
use Rattle.table.specs.Views.{no_machine}
use Rattle.validity.specs.Validity.{pools_ok}
use Rattle.validity.proofs.pools_ok.Goals as goal

pub returns : goal.returns
unfolding pools_ok
returns c = c.every.ensures 16 no_machine _ (omega arith) (λ i r h q. search rules)
