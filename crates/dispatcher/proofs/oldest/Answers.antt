-- `dispatcher::oldest` meets its contract: the laws of the least index. Assumes nothing.
use mathlib.Core.Path.{◌≡◌, ◌∙◌, sym}
use native.Mathlib.Omega.{arith}
use Rattle.lists.proofs.Scans.{least_none, least_more, least_found, least_end}
use Rattle.table.specs.Views.{message_at}
use Rattle.table.specs.Messages.{oldest}
use Rattle.dispatcher.proofs.oldest.Goals as goal

pub loop-i-init : goal.loop-i-init
loop-i-init c = least_none _

pub loop-i-preserved : goal.loop-i-preserved
unfolding message_at
loop-i-preserved c = least_more _ _ c.loop-i.invariant (sym c.in_channel.ensures ∙ c.if-in_channel.false)

pub returns-then-in_channel : goal.returns-then-in_channel
unfolding message_at oldest
returns-then-in_channel c = sym (least_found _ _ _ (omega arith) c.loop-i.invariant (sym c.in_channel.ensures ∙ c.if-in_channel.true))

pub returns : goal.returns
unfolding oldest
returns c = let e : c.loop-i.i ≡ c.args.t.now.in_flight = omega arith in sym e ∙ least_end _ _ c.loop-i.i (omega arith) (omega arith) c.loop-i.invariant
