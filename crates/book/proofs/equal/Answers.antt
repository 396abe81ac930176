-- `book::equal` meets its contract. The invariant: what holds of the two is what holds of their first i bytes. Assumes nothing.
use native.Mathlib.Omega.{arith}
use mathlib.Core.Path.{sym, ◌∙◌}
use Rattle.book.proofs.SameBytes.{differ_in_length, all_bytes, no_bytes, agree, differ}
use Rattle.book.proofs.equal.Goals as goal

pub returns-then-a-b : goal.returns-then-a-b
returns-then-a-b c = sym (differ_in_length _ _ c.if-a-b.true)

pub loop-i-init : goal.loop-i-init
loop-i-init c = all_bytes _ _ c.if-a-b.false

pub returns-then-a-i : goal.returns-then-a-i
returns-then-a-i c =
    let l = c.loop-i in
    sym (l.invariant ∙ differ _ _ l.i _ (omega arith) l.auto.i c.if-a-b.false c.if-a-i.true)

pub loop-i-preserved : goal.loop-i-preserved
loop-i-preserved c =
    let l = c.loop-i in
    l.invariant ∙ agree _ _ l.i _ (omega arith) l.auto.i c.if-a-b.false c.if-a-i.false

pub returns : goal.returns
returns c = sym (c.loop-i.invariant ∙ no_bytes _ _ _ c.loop-i-test.false)
