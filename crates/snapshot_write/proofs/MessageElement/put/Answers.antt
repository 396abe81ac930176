-- `Element::put` of a message meets its contract. Assumes nothing.
use Rattle.snapshot_write.proofs.Lengths.{written_message}
use Rattle.snapshot_write.proofs.MessageElement.put.Goals as goal

pub returns : goal.returns
returns c = search written_message
