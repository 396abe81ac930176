-- `validity::jobs_ok` meets its contract. The test of each job is the definition's.
-- Assumes nothing.
use Rattle.std.proofs.Common.{rules, arith}
use Rattle.table.specs.Views.{parts, no_job}
use Rattle.validity.specs.Validity.{jobs_ok}
use Rattle.validity.proofs.jobs_ok.Goals as goal

pub returns : goal.returns
unfolding jobs_ok parts
returns c = c.every.ensures 64 no_job _ (omega arith) (λ i r h q. search rules)
