-- `snapshot_read::decode` meets its contract: by the equations of its arrays. Assumes nothing.
use Rattle.snapshot_read.specs.Layout.{bonds_from, jobs_from, machines_from, told_from, pools_from, messages_from, decode}
use Rattle.snapshot_read.proofs.decode.Goals as goal

pub returns : goal.returns
unfolding decode bonds_from jobs_from machines_from told_from pools_from messages_from
returns c =
    let s = c.args.s.now in
    rw (
      c.array.ensures,
      c.array-2.ensures,
      c.array-3.ensures,
      c.bytes.ensures,
      c.bytes-2.ensures,
      c.array-4.ensures,
    )
