-- `dispatcher::write` meets its contract. The number of open jobs is that of the update of a job. Assumes nothing.
use mathlib.Core.Path.{◌≡◌, sym, ap, ◌∙◌}
use Prim.Native.Nat.{◌<◌}
use native.Mathlib.Omega.{arith}
use lib.ListN.{length, get_or, set}
use lib.Seq.{get_or-set_same}
use Rattle.table.specs.declared.Job.{Job}
use Rattle.table.specs.States.{open_after}
use Rattle.table.specs.Views.{no_job, parts}
use Rattle.table.proofs.Open.{with_open_lem}
use Rattle.dispatcher.specs.EventParts.{written}
use Rattle.dispatcher.proofs.write.Goals as goal

pub open_after-u-requires : goal.open_after-u-requires
unfolding parts
open_after-u-requires c = c.requires.open_bounds

pub returns : goal.returns
unfolding parts
returns c =
    let a = c.args in
    let b = c.requires.place_bounds in
    let l : a.place.job < length a.u.now.jobs = omega (arith, b.0, b.2) in
    let e : get_or (set a.u.now.jobs a.place.job a.after.job) a.place.job no_job ≡ a.after.job = get_or-set_same a.u.now.jobs a.place.job a.after.job no_job l in
    with_open_lem (written a.u.now a.place.machine a.place.job a.after) _
    (c.open_after-u.ensures ∙ ap (λ (w : Job). open_after a.u.now.open_jobs (get_or a.u.now.jobs a.place.job no_job).state w.state) (sym e))
