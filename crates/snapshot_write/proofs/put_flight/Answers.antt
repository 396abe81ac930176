-- `snapshot_write::put_flight` meets its contract. The first n slots are those of a slice. Assumes nothing.
use native.Mathlib.Omega.{arith}
use lib.ListN.{length, take}
use lib.Seq.{length-take-le}
use Rattle.snapshot_write.proofs.Lengths.{length_messages_to, written_flight}
use Rattle.snapshot_write.proofs.put_flight.Goals as goal

pub put_all-requires : goal.put_all-requires
put_all-requires c =
    let l = c.args.t.now.messages in
    let s = take c.args.n l in
    omega (arith, length_messages_to s (length s), length-take-le c.args.n l (omega arith))

pub returns : goal.returns
returns c = written_flight c.args.t.now c.args.n c.put.ensures c.put_all.ensures (omega arith) (omega arith)
