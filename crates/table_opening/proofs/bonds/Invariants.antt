-- `table_opening::bonds` meets its contract. The loop keeps: the bonds of the entries passed so far, and no bond past them.
-- Assumes nothing.
use Prim.Native.Nat.{◌≤◌}
use mathlib.Core.Path.{◌≡◌}
use Rattle.lists.specs.Scan.{pad_to, tabulate}
use Rattle.pricer.specs.Bonds.{no_bond}
use Rattle.book.specs.Parts.{entry_count_of, bond_of}
use Rattle.table_opening.proofs.bonds.Given as goal

abbrev pub invariant-loop-i : goal.invariant-loop-i
invariant-loop-i l = (l.n ≡ entry_count_of l.s) × (l.i ≤ l.n) × (l.out ≡ pad_to 64 no_bond (tabulate (bond_of l.s) l.i))
