-- `validity::bonds_ok` meets its contract. The test of each bond is the definition's.
-- Assumes nothing.
use Rattle.std.proofs.Common.{rules, arith}
use Rattle.table.specs.Views.{parts, past_bond}
use Rattle.validity.specs.Validity.{bonds_ok}
use Rattle.validity.proofs.bonds_ok.Goals as goal

pub returns : goal.returns
unfolding bonds_ok parts
returns c = c.every.ensures 64 past_bond _ (omega arith) (λ i r h q. search rules)
