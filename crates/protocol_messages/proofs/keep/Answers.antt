-- `protocol_messages::keep` meets its contract. The loop keeps: `out` holds, from its first slot, the messages passed so far that stay.
-- Assumes nothing.
use lib.ListN.{take}
use mathlib.Core.List.{List}
use mathlib.Core.Path.{◌∙◌, ◌≡◌, sym}
use native.Mathlib.Omega.{arith}
use Rattle.lists.proofs.Scans.{kept_no, kept_none, kept_yes}
use Rattle.std.proofs.lemmas.List.{length-take, take_all}
use Rattle.table.specs.declared.Message.{Message}
use Rattle.table.specs.Messages.{keep_messages}
use Rattle.table.specs.Views.{parts}
use Rattle.protocol_messages.proofs.keep.Goals as goal
use Rattle.protocol_messages.proofs.keep.Goals.{then-stays, else-stays}

pub loop-m-init : goal.loop-m-init
loop-m-init g c = (omega arith, λ p h. kept_none _ _ _ _)

pub loop-m-preserved : goal.loop-m-preserved
loop-m-preserved g c =
    let n = length-take c.args.t.in_flight c.args.t.messages in
    elim c.if-stays.branch [
      | then-stays w ↦ (
        omega arith,
        λ p h.
            rw (w.w-is, w.out-is)
            (kept_yes p _ _ _ _ _ _ (c.loop-m.invariant.1 p h) c.loop-m-test.true (omega arith) (sym (h _ _ c.stays.ensures) ∙ w.if-stays.true)),
      )
      | else-stays w ↦ (
        omega arith,
        λ p h.
            rw (w.w-is, w.out-is)
            (kept_no p _ _ _ _ _ _ (c.loop-m.invariant.1 p h) c.loop-m-test.true (sym (h _ _ c.stays.ensures) ∙ w.if-stays.false)),
      )
    ]

pub offset_bounds-out-w : goal.offset_bounds-out-w
offset_bounds-out-w g c = omega (arith, length-take c.args.t.in_flight c.args.t.messages)

pub bounds-out-w : goal.bounds-out-w
bounds-out-w g c = omega (arith, length-take c.args.t.in_flight c.args.t.messages)

pub overflow_cast-result : goal.overflow_cast-result
overflow_cast-result g c = omega (arith, length-take c.args.t.in_flight c.args.t.messages)

pub returns : goal.returns
unfolding keep_messages parts
returns g c p h =
    let k = c.loop-m.invariant.1 p h in
    let l : List Message = take c.args.t.in_flight c.args.t.messages in
    let e : take c.loop-m.m-index l ≡ l = take_all _ _ (omega arith) in
    rw (rw e at k.count, rw e at k.slots)
