-- `book::holds` meets its contract. The invariant: each entry before k has another identifier. Assumes nothing.
use mathlib.Core.Path.{◌≡◌}
use mathlib.Core.Bool.{true}
use Rattle.lists.specs.Scan.{all}
use Rattle.book.proofs.Faults.{other}
use Rattle.book.proofs.holds.Given as goal

abbrev pub invariant-loop-k : goal.invariant-loop-k
invariant-loop-k l = all (other l.s l.id) l.k ≡ true
