-- `isin::all_allowed` meets its contract. The invariant: what holds of all is what is known of those before the next, and holds of those from it on.
-- Assumes nothing.
use mathlib.Core.Path.{sym, ◌∙◌}
use Rattle.isin.proofs.Form.{next, ends}
use Rattle.isin.proofs.all_allowed.Goals as goal

pub loop-b-preserved : goal.loop-b-preserved
loop-b-preserved c = c.loop-b.invariant ∙ next c.args.s.now _ c.loop-b.allowed _ c.loop-b-test.true c.is_allowed-allowed.ensures

pub returns : goal.returns
returns c = sym (c.loop-b.invariant ∙ ends _ _ _ c.loop-b-test.false)
