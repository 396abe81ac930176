-- `snapshot_write::put_all` meets its contract. The invariant of its loop: the first elements are written. Assumes nothing.
use lib.ListN.{get_or}
use Rattle.text.specs.Text.{joined}
use Rattle.text.specs.Cursor.{Writes}
use Rattle.snapshot_write.proofs.put_all.Given as goal

abbrev pub invariant-loop-x : goal.invariant-loop-x
invariant-loop-x g l =
    Writes l.initial.c (joined (λ k. g.T.Element.bytes (get_or l.elements k g.T.Element.none)) l.x-index) l.c
