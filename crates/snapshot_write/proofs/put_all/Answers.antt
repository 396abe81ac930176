-- `snapshot_write::put_all` meets its contract. The invariant of its loop: the first elements are written. Assumes nothing.
use Prim.Native.Nat.{◌+◌, ◌≤◌}
use mathlib.Core.Path.{sym, ◌∙◌, subst}
use native.Mathlib.Omega.{arith}
use lib.ListN.{length, get_or}
use Rattle.std.proofs.lemmas.List.{get_or_default}
use Rattle.text.specs.Cursor.{Writes}
use Rattle.text.proofs.Writes.{joined_none, joined_more}
use Rattle.snapshot_write.proofs.Lengths.{room, room_to}
use Rattle.snapshot_write.proofs.put_all.Goals as goal

pub loop-x-init : goal.loop-x-init
loop-x-init g c = joined_none _ _ (omega arith)

pub put-requires : goal.put-requires
put-requires g c =
    let l = c.loop-x in
    let s = c.args.elements.now in
    let d = g.T.Element.none in
    let same = c.x-item.is ∙ get_or_default s l.x-index c.x-item.result d c.loop-x-test.true in
    let i = l.invariant in
    subst (λ x. l.c.at + length (g.T.Element.bytes x) ≤ length l.c.out.now) (sym same)
    (room (λ k. g.T.Element.bytes (get_or s k d)) (length s) l.x-index c.args.c.now.at l.c.at (length l.c.out.now) i.written.end c.loop-x-test.true
    (omega (arith, i.long, c.requires)))

pub loop-x-preserved : goal.loop-x-preserved
loop-x-preserved g c =
    let l = c.loop-x in
    let s = c.args.elements.now in
    let d = g.T.Element.none in
    let same = c.x-item.is ∙ get_or_default s l.x-index c.x-item.result d c.loop-x-test.true in
    joined_more (λ k. g.T.Element.bytes (get_or s k d)) l.invariant
    (subst (λ x. Writes l.c (g.T.Element.bytes x) c.put.new.c) same c.put.ensures)
    (room_to (λ k. g.T.Element.bytes (get_or s k d)) (length s) l.x-index c.args.c.now.at (length c.args.c.now.out.now) c.loop-x-test.true (omega (arith, c.requires)))
