-- `protocol_pools::open_on_root` meets its contract. One store, which leaves the number of open jobs as it is, then the equation of `enter`.
-- Assumes nothing.
use mathlib.Core.Path.{sym, ap, ◌∙◌}
use Rattle.table.specs.declared.Table.{Table}
use Rattle.table.specs.Parts.{opened}
use Rattle.table.specs.Pools.{enter}
use Rattle.table.specs.Views.{with_job, parts}
use Rattle.table.proofs.Open.{open_job_same, with_open_lem}
use Rattle.protocol_pools.proofs.open_on_root.Goals as goal

pub returns : goal.returns
unfolding parts opened
returns c =
    let a = c.args in
    let v = opened a.r in
    let kept = with_open_lem (with_job a.t a.j v) _ (sym (open_job_same a.t a.j v (sym c.requires.1))) in
    c.enter.ensures ∙ rw c.open_job.ensures (ap (λ (w : Table). enter w 0 a.j a.r) kept)
