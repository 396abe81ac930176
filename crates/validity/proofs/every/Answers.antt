-- `validity::every` meets its contract. The loop keeps: all the items passed so far pass.
-- Assumes nothing.
use Rattle.std.proofs.Common.{sym, ◌∙◌, arith}
use Rattle.std.proofs.lemmas.List.{get_or_default}
use Rattle.lists.proofs.Scans.{all_none, all_more, all_fail, all_end}
use Rattle.validity.proofs.every.Goals as goal

pub loop-i-init : goal.loop-i-init
loop-i-init g c = λ d p h. all_none p

pub returns-then-not-test : goal.returns-then-not-test
returns-then-not-test g c = λ n d p e h.
    let i = c.loop-i.i in
    let x = c.index-items-i in
    let w = x.is ∙ get_or_default c.args.items.now i x.result d c.loop-i-test.true in
    let q = h i c.test.result c.loop-i-test.true (rw (sym w) c.test.ensures) in
    sym (all_fail p n i (omega arith) (sym q ∙ c.if-not-test.true))

pub loop-i-preserved : goal.loop-i-preserved
loop-i-preserved g c = λ d p h.
    let i = c.loop-i.i in
    let x = c.index-items-i in
    let w = x.is ∙ get_or_default c.args.items.now i x.result d c.loop-i-test.true in
    let q = h i c.test.result c.loop-i-test.true (rw (sym w) c.test.ensures) in
    all_more p i (c.loop-i.invariant d p h) (sym q ∙ c.if-not-test.false)

pub returns : goal.returns
returns g c = λ n d p e h. all_end p n c.loop-i.i (omega arith) (omega arith) (c.loop-i.invariant d p h)
