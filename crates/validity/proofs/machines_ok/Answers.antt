-- `validity::machines_ok` meets its contract. The test of each machine is the definition's.
-- Assumes nothing.
use Rattle.std.proofs.Common.{rules, arith}
use Rattle.table.specs.Views.{parts, no_machine}
use Rattle.validity.specs.Validity.{machines_ok}
use Rattle.validity.proofs.machines_ok.Goals as goal

pub returns : goal.returns
unfolding machines_ok parts
returns c = c.every.ensures 16 no_machine _ (omega arith) (λ i r h q. search rules)
