-- `snapshot_write::encode` meets its contract. The three parts fill the buffer. Assumes nothing.
use mathlib.Core.Path.{ap, ◌∙◌}
use native.Mathlib.Omega.{arith}
use Rattle.snapshot_write.proofs.Lengths.{end_entries, written_all}
use lib.ListN.{length}
use Rattle.snapshot_write.proofs.encode.Goals as goal

pub put_machine_state-requires : goal.put_machine_state-requires
put_machine_state-requires c = omega (arith, ap length c.new-c.ensures.text, end_entries)

pub put_flight-requires : goal.put_flight-requires
put_flight-requires c = (omega arith, omega (arith, ap length c.new-c.ensures.text, end_entries))

pub returns : goal.returns
returns c =
    let n = c.new-c.ensures in
    let w = written_all c.args.t.now c.put_entries.ensures c.put_machine_state.ensures.written c.put_flight.ensures
    c.put_machine_state.ensures.value n.at (ap length n.text ∙ c.requires) in
    grind (arith, w, c.put_flight.ensures.same, c.put_machine_state.ensures.written.same, c.put_entries.ensures.same, n.same_reference)
