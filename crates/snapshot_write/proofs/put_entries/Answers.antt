-- `snapshot_write::put_entries` meets its contract. The lengths of the lists are those of the arrays. Assumes nothing.
use native.Mathlib.Omega.{arith}
use borrow.Author.Rules.{rules}
use lib.ListN.{length}
use Rattle.snapshot_write.proofs.Lengths.{length_bonds_to, length_jobs_to, written_entries}
use Rattle.snapshot_write.proofs.put_entries.Goals as goal

pub put_all-requires : goal.put_all-requires
put_all-requires c = let t = c.args.t.now in omega (arith, length_bonds_to t.bonds (length t.bonds))

pub put_all-requires-2 : goal.put_all-requires-2
put_all-requires-2 c =
    let t = c.args.t.now in
    omega (arith, c.put_all.ensures.written.end, length_bonds_to t.bonds (length t.bonds), length_jobs_to t.jobs (length t.jobs))

pub returns : goal.returns
returns c = search (rules, written_entries)
