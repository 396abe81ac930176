-- `validity::each` meets its contract. The loop keeps: the test of all the items passed so far.
-- Assumes nothing.
use Rattle.std.proofs.Common.{sym, ◌∙◌, arith}
use Rattle.std.proofs.lemmas.List.{get_or_default}
use Rattle.lists.proofs.Scans.{all_none, all_next, all_kept}
use Rattle.validity.proofs.each.Goals as goal

pub loop-i-init : goal.loop-i-init
loop-i-init g c = λ d p h. sym (all_none p)

pub loop-i-preserved : goal.loop-i-preserved
loop-i-preserved g c = λ d p h.
    let i = c.loop-i.i in
    let x = c.index-items-i in
    let e = x.is ∙ get_or_default c.args.items.now i x.result d c.loop-i-test.true in
    all_next p i _ _ (c.loop-i.invariant d p h) (h i c.test-ok.result c.loop-i-test.true (rw (sym e) c.test-ok.ensures))

pub returns : goal.returns
returns g c = λ n d p e h. all_kept p n c.loop-i.i _ (omega arith) (omega arith) (c.loop-i.invariant d p h)
