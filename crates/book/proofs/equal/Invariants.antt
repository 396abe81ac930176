-- `book::equal` meets its contract. The invariant: what holds of the two is what holds of their first i bytes. Assumes nothing.
use mathlib.Core.Path.{◌≡◌}
use lib.ListN.{take}
use Rattle.book.specs.Book.{same_bytes}
use Rattle.book.proofs.equal.Given as goal

abbrev pub invariant-loop-i : goal.invariant-loop-i
invariant-loop-i l = same_bytes l.a l.b ≡ same_bytes (take l.i l.a) (take l.i l.b)
