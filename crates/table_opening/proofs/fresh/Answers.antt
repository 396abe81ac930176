-- `table_opening::fresh` meets its contract. By the equations of the functions it calls; the machine count is within the array for every book.
-- Assumes nothing.
use native.Mathlib.Omega.{arith}
use Rattle.table_opening.specs.Opening.{fresh_of}
use Rattle.table_opening.proofs.Alive.{alive_first}
use Rattle.table_opening.proofs.Counts.{machine_count_most}
use Rattle.table_opening.proofs.fresh.Goals as goal

pub with_machines-requires : goal.with_machines-requires
with_machines-requires c =
    omega (
      arith,
      c.machine_count-m.ensures,
      machine_count_most c.args.s.now,
    )

pub returns : goal.returns
unfolding fresh_of
returns c =
    let m = c.machine_count-m in
    rw (
      c.with_machines.ensures,
      c.blank-none.ensures,
      c.bonds.ensures,
      c.entry_count-n.ensures,
      m.ensures,
    )
    (alive_first _ _ _ _ (machine_count_most c.args.s.now))
