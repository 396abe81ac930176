-- `validity::open_in` meets its contract. The chain counts the jobs of the array, the definition their indices.
-- Assumes nothing.
use Rattle.std.proofs.Common.{rules, arith, ◌≡◌, length, ◌∙◌}
use Rattle.std.specs.List.{count_by}
use lib.Dec.{eqb}
use Rattle.table.specs.Views.{parts, no_job}
use Rattle.table.specs.declared.Job.{Job}
use Rattle.table.specs.Parts.{OPEN, recount}
use Rattle.validity.proofs.Counts.{counted_all}
use Rattle.validity.proofs.open_in.Goals as goal

pub returns : goal.returns
unfolding recount parts
returns c =
    let jobs = c.args.t.now.jobs in
    let n : length jobs ≡ 64 = omega arith in
    let e : c.count.result ≡ count_by (λ (v : Job). eqb v.state OPEN) jobs = search rules in
    e ∙ counted_all (λ (v : Job). eqb v.state OPEN) no_job jobs 64 n
