-- `table_opening::with_machines` meets its contract. The loop keeps: the machines passed so far are alive.
-- Assumes nothing.
use mathlib.Core.Path.{◌≡◌}
use Rattle.lists.specs.Scan.{up_to}
use Rattle.table_opening.proofs.Alive.{revive}
use Rattle.table_opening.proofs.with_machines.Given as goal

abbrev pub invariant-loop-i : goal.invariant-loop-i
invariant-loop-i l = l.u ≡ up_to revive l.i l.initial.u
