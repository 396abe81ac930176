-- `snapshot_write::put_machine_state` meets its contract. The lengths of the lists are those of the arrays. Assumes nothing.
use native.Mathlib.Omega.{arith}
use borrow.Author.Rules.{rules}
use lib.ListN.{length}
use Rattle.snapshot_write.proofs.Lengths.{length_machines_to, written_machine_state}
use Rattle.snapshot_write.proofs.put_machine_state.Goals as goal

pub put_all-requires : goal.put_all-requires
put_all-requires c = let t = c.args.t.now in omega (arith, length_machines_to t.machines (length t.machines))

pub put-requires : goal.put-requires
put-requires c = let t = c.args.t.now in omega (arith, c.put_all.ensures.written.end, length_machines_to t.machines (length t.machines))

pub put-requires-2 : goal.put-requires-2
put-requires-2 c = let t = c.args.t.now in omega (arith, c.put_all.ensures.written.end, length_machines_to t.machines (length t.machines))

pub returns : goal.returns
returns c = let t = c.args.t.now in record {
  written = search (rules, written_machine_state);
  value = omega (arith, c.put_all.ensures.written.end, length_machines_to t.machines (length t.machines));
}
