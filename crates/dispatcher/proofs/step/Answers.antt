-- `dispatcher::step` meets its contract: past the first test the table passes check 9, and the event is applied to it. Assumes nothing.
use mathlib.Core.Path.{sym, ap, ◌∙◌}
use native.Mathlib.Omega.{arith}
use Rattle.std.proofs.lemmas.Result.{err_from_is_err_and}
use Rattle.refusal.proofs.Numbers.{number_positive}
use Rattle.table.specs.declared.Table.{Table}
use Rattle.table.specs.Views.{refuse}
use Rattle.table.proofs.Long.{long}
use Rattle.dispatcher.specs.Step.{step_of}
use Rattle.dispatcher.proofs.Events.{step_refused}
use Rattle.dispatcher.proofs.Ready.{passed_sized, passed}
use Rattle.dispatcher.proofs.One.{step_nine}
use Rattle.dispatcher.proofs.step.Goals as goal

pub returns-then-not-table_ok : goal.returns-then-not-table_ok
returns-then-not-table_ok c = step_nine _ _ (sym c.table_ok.ensures ∙ c.if-not-table_ok.true)

pub apply-requires : goal.apply-requires
apply-requires c =
    let t = c.args.t in
    let h = sym c.table_ok.ensures ∙ c.if-not-table_ok.false in
    passed t (passed_sized t (long t _ c.well_formed.0) h) h

pub returns-in_err-apply : goal.returns-in_err-apply
returns-in_err-apply c =
    let p = err_from_is_err_and c.from_residual.result c.from_residual.ensures.1 in
    let n = c.in_err-apply.ensures.number in
    let s = step_refused c.args.t c.args.bytes.now (λ z. omega (arith, number_positive c.in_err-apply.field-0.0, n)) in
    rw (p.1, p.2, n) (ap (λ (u : Table). refuse (step_of c.args.t c.args.bytes.now).number u) (sym s))

pub returns : goal.returns
returns c =
    let e = c.in_ok-apply.ensures in
    rw (e.table_after, e.number)
