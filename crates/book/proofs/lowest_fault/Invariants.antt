-- `book::lowest_fault` meets its contract. The invariant: no entry before i is faulty. Assumes nothing.
use mathlib.Core.Path.{◌≡◌}
use Rattle.lists.specs.Scan.{least}
use Rattle.book.proofs.Faults.{is_faulty}
use Rattle.book.proofs.lowest_fault.Given as goal

abbrev pub invariant-loop-i : goal.invariant-loop-i
invariant-loop-i l = least (is_faulty l.s l.n) l.i ≡ l.i
