-- "RESULT: .. any other job is untouched": of a job that is not open a RESULT changes nothing, so the first one delivered decides. Assumes nothing.
use mathlib.Core.Path.{◌≡◌}
use mathlib.Core.Logic.{◌≢◌}
use borrow.Author.Tests.{ne_eqb}
use Rattle.table.specs.declared.Message.{Message}
use Rattle.table.specs.Parts.{OPEN}
use Rattle.table.specs.declared.Table.{Table}
use Rattle.table.specs.Views.{job_at}
use Rattle.handler_root.specs.Root.{on_result}

pub result_untouched : (t : Table) (m : Message) → (job_at t m.job).state ≢ OPEN → on_result t m ≡ t
unfolding on_result
result_untouched t m n = rw (ne_eqb (job_at t m.job).state OPEN n, on_result)
