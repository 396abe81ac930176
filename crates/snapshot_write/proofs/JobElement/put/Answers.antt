-- `Element::put` of a job meets its contract. Assumes nothing.
use Rattle.snapshot_write.proofs.Lengths.{written_job}
use Rattle.snapshot_write.proofs.JobElement.put.Goals as goal

pub returns : goal.returns
returns c = search written_job
