-- `validity::alive_of` meets its contract. The loop fills the array with what the machines passed so far say.
-- Assumes nothing.
use Prim.Native.Nat.{ℕ}
use mathlib.Core.Path.{◌≡◌}
use lib.ListN.{get_or}
use Rattle.lists.specs.Scan.{pad_to, tabulate}
use Rattle.table.specs.Views.{no_machine}
use Rattle.table.specs.declared.Machine.{Machine}
use Rattle.validity.proofs.alive_of.Given as goal

abbrev pub living : Machine → ℕ
living n = n.alive

abbrev pub invariant-loop-i : goal.invariant-loop-i
invariant-loop-i l = l.alive ≡ pad_to 256 0 (tabulate (λ k. living (get_or l.machines k no_machine)) l.i)
