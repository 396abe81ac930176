-- `validity::tolds_ok` meets its contract. The test of each machine is that of what it was told.
-- Assumes nothing.
use Rattle.std.proofs.Common.{rules, arith}
use Rattle.table.specs.Views.{no_machine}
use Rattle.validity.specs.Validity.{tolds_ok}
use Rattle.validity.proofs.tolds_ok.Goals as goal

pub returns : goal.returns
unfolding tolds_ok
returns c = c.every.ensures 16 no_machine _ (omega arith) (λ i r h q. search rules)
