-- `worst_run::put_death` meets its contract. Assumes nothing.
use mathlib.Core.List.{flatten}
use Rattle.worst_run.specs.Worst.{death_of}
use Rattle.worst_run.proofs.put_death.Goals as goal

pub returns : goal.returns
unfolding flatten death_of
returns c = rw c.as_flattened.ensures.value at c.put.ensures
