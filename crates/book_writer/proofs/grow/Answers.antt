-- `book_writer::grow` meets its contract: three writes over the buffer are one. Assumes nothing.
use mathlib.Core.Path.{◌∙◌}
use Prim.Native.Nat.{◌+◌, ◌*◌}
use lib.ListN.{length, length-set}
use native.Mathlib.Omega.{arith}
use Rattle.book_writer.proofs.Moves.{moved, three}
use borrow.Author.Rules.{rules}
use Rattle.book_writer.proofs.grow.Goals as goal

pub shape_of-out : goal.shape_of-out
shape_of-out c = rw length-set (search rules)

pub returns : goal.returns
returns c =
    let a = c.args in
    let at = 4 + 12 * a.n in
    let s = c.new-c.ensures in
    let p = c.put.ensures in
    let q = c.put-2.ensures in
    let m = c.copy_within.ensures.after ∙ moved a.out.now at a.count (length a.id.now) (omega arith) (omega arith) in
    let t = three a.out.now at a.count a.id.now a.term.now _ _ _ (omega arith) (omega arith) m (rw (s.text, s.at) at p.written.text) q.written.text in
    grind (arith, t, q.same, p.same, s.same_reference)
