-- `dispatcher::apply` meets its contract: what the bytes ask for is refused, or it is the event of its code, whose number is judged of what was read.
-- Assumes nothing.
use mathlib.Core.Path.{◌≡◌, refl, sym, ap, ◌∙◌}
use mathlib.Core.Logic.{◌≢◌, ◌⊎◌, inl, inr}
use Prim.Native.Nat.{◌≤◌, ◌<◌}
use native.Mathlib.Omega.{arith}
use Rattle.std.proofs.lemmas.Result.{err_from_is_err_and}
use Rattle.refusal.proofs.Numbers.{number_positive}
use Rattle.table.specs.declared.Answer.{Answer}
use Rattle.dispatcher.specs.Codes.{DIE}
use Rattle.dispatcher.specs.declared.Code.{Code}
use Rattle.dispatcher.specs.declared.Code.TheVariants.{Admit, Steal, Deliver, Start, Done, Die, Notice, Join}
use Rattle.dispatcher.specs.declared.Look.{Look}
use Rattle.dispatcher.specs.EventParts.{code_number, asked_event, Asked, number_of}
use Rattle.dispatcher.specs.Step.{step_of}
use Rattle.dispatcher.proofs.Events.{step_refused}
use Rattle.dispatcher.proofs.Made.{look_number}
use Rattle.dispatcher.proofs.One.{not_asked, is_asked}
use Rattle.dispatcher.proofs.apply.Goals as goal
use Rattle.dispatcher.proofs.apply.Goals.{In_ok-ask, After-look_of-at, In_ok-number_of}

pub returns-in_err-ask-clause-number : goal.returns-in_err-ask-clause-number
returns-in_err-ask-clause-number c =
    let p = err_from_is_err_and c.from_residual.result c.from_residual.ensures.1 in
    rw (p.1, p.2) (sym (ap (λ (o : Answer). o.number) (not_asked _ c.requires _ _ (sym c.in_err-ask.ensures))))

pub returns-in_err-ask-clause-table_after : goal.returns-in_err-ask-clause-table_after
returns-in_err-ask-clause-table_after c = sym (ap (λ (o : Answer). o.table) (not_asked _ c.requires _ _ (sym c.in_err-ask.ensures)))

-- past the first `?` the event is that of its code
asked : (c : In_ok-ask) → let t = c.args.t.now in
    let q = c.in_ok-ask.ask in
    Asked t q × (step_of t c.args.event.now ≡ asked_event t q)
asked c = is_asked _ c.requires _ _ (sym c.in_ok-ask.ensures)

pub look_of-at-requires : goal.look_of-at-requires
look_of-at-requires c = record { passed = c.requires; asked = (asked (goal.at.look_of-at-requires c).In_ok-ask).0 }

-- what is judged of what was read is the number of the step
judged : (c : After-look_of-at) → let t = c.args.t.now in
    let v = c.look_of-at.result in
    number_of c.in_ok-ask.ask v.parts v.peer v.told t.in_flight v.slot t.machine_count ≡ (step_of t c.args.event.now).number
judged c =
    let t = c.args.t.now in
    let k = asked (goal.at.After-look_of-at c).In_ok-ask in
    ap (λ (v : Look). number_of c.in_ok-ask.ask v.parts v.peer v.told t.in_flight v.slot t.machine_count) c.look_of-at.ensures
    ∙ look_number t c.requires c.in_ok-ask.ask k.0
    ∙ sym (ap (λ (o : Answer). o.number) k.1)

pub returns-in_err-number_of-clause-number : goal.returns-in_err-number_of-clause-number
returns-in_err-number_of-clause-number c =
    let p = err_from_is_err_and c.from_residual-in_err-number_of.result c.from_residual-in_err-number_of.ensures.1 in
    rw (p.1, p.2) (c.in_err-number_of.ensures ∙ judged (goal.at.returns-in_err-number_of-clause-number c).After-look_of-at)

pub returns-in_err-number_of-clause-table_after : goal.returns-in_err-number_of-clause-table_after
returns-in_err-number_of-clause-table_after c =
    let n = c.in_err-number_of.ensures ∙ judged (goal.at.returns-in_err-number_of-clause-table_after c).After-look_of-at in
    sym (step_refused _ _ (λ z. omega (arith, number_positive c.in_err-number_of.field-0.0, n)))

-- past the second `?` the event is accepted
zero : (c : In_ok-number_of) → (step_of c.args.t.now c.args.event.now).number ≡ 0
zero c = sym (c.in_ok-number_of.ensures ∙ judged (goal.at.In_ok-number_of c).After-look_of-at)

-- and so is that of its code
accepted : (c : In_ok-number_of) → let q = c.in_ok-ask.ask in (asked_event c.args.t.now q).number ≡ 0
accepted c = ap (λ (o : Answer). o.number) (sym (asked (goal.at.In_ok-number_of c).In_ok-ask).1) ∙ zero c

early : (d : Code) → d ≢ Die → d ≢ Notice → d ≢ Join → code_number d < DIE
early Admit x y z = omega arith
early Steal x y z = omega arith
early Deliver x y z = omega arith
early Start x y z = omega arith
early Done x y z = omega arith
early Die x y z = absurd (x refl)
early Notice x y z = absurd (y refl)
early Join x y z = absurd (z refl)

late : (d : Code) → (d ≡ Die) ⊎ ((d ≡ Notice) ⊎ (d ≡ Join)) → DIE ≤ code_number d
late d (inl e) = rw e (omega arith)
late d (inr (inl e)) = rw e (omega arith)
late d (inr (inr e)) = rw e (omega arith)

pub make-requires : goal.make-requires
make-requires c =
    record {
      passed = c.requires;
      asked = (asked (goal.at.make-requires c).In_ok-ask).0;
      looked = c.look_of-at.ensures;
      accepted = (
        early _ c.in_default.not-Die c.in_default.not-Notice c.in_default.not-Join,
        accepted (goal.at.make-requires c).In_ok-number_of,
      );
    }

pub make_whole-requires : goal.make_whole-requires
make_whole-requires c =
    record {
      passed = c.requires;
      asked = (asked (goal.at.make_whole-requires c).In_ok-ask).0;
      accepted = (late _ c.in-Die.is, accepted (goal.at.make_whole-requires c).In_ok-number_of);
    }

pub returns-in-Die : goal.returns-in-Die
returns-in-Die c = record {
  number = sym (zero (goal.at.returns-in-Die c).In_ok-number_of);
  table_after = c.make_whole.ensures ∙ sym (ap (λ (o : Answer). o.table) (asked (goal.at.returns-in-Die c).In_ok-ask).1);
}

pub returns-in_default : goal.returns-in_default
returns-in_default c = record {
  number = sym (zero (goal.at.returns-in_default c).In_ok-number_of);
  table_after = c.make.ensures ∙ sym (ap (λ (o : Answer). o.table) (asked (goal.at.returns-in_default c).In_ok-ask).1);
}
