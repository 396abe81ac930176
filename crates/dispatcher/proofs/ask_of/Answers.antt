-- `dispatcher::ask_of` meets its contract. A code that is none, and a b that has no use, are those of an event that is not well formed. Assumes nothing.
use mathlib.Core.Bool.{Bool, true, ◌||◌}
use lib.Dec.{eqb}
use mathlib.Core.Path.{◌≡◌, sym, ap, ◌∙◌}
use Rattle.std.proofs.lemmas.Result.{err_from_is_err_and}
use Rattle.dispatcher.proofs.Form.{well_formed_short, well_formed_none, well_formed_named}
use Rattle.dispatcher.proofs.OnTable.{named_some, named_none}
use Rattle.dispatcher.specs.EventParts.{code_number, ask_of}
use Rattle.dispatcher.specs.Step.{code_of, second_of, uses_second, well_formed}
use Rattle.dispatcher.proofs.ask_of.Goals as goal
use Rattle.dispatcher.proofs.ask_of.Goals.{In_ok-code, Else-not-uses_second-b}

pub returns-then-bytes-lt3 : goal.returns-then-bytes-lt3
unfolding ask_of
returns-then-bytes-lt3 c = rw (well_formed_short _ c.if-bytes-lt3.true)

pub returns-in_err-code : goal.returns-in_err-code
unfolding ask_of
returns-in_err-code c =
    let p = err_from_is_err_and c.from_residual.result c.from_residual.ensures.1 in
    let n = named_none _ _ (sym c.in_err-code.ensures) in
    rw (p.1, p.2, n.0, well_formed_none c.args.bytes.now n.1)

-- the event that the first byte names
code : (c : In_ok-code) → code_of c.args.bytes.now ≡ code_number c.in_ok-code.code
code c = named_some _ _ (sym c.in_ok-code.ensures)

-- so the event is well formed where b has a use or is 0
formed : (c : In_ok-code) → well_formed c.args.bytes.now ≡ (uses_second (code_number c.in_ok-code.code) || eqb (second_of c.args.bytes.now) 0)
formed c = well_formed_named _ _ c.if-bytes-lt3.false (code c)

-- past that test it is
fits : (c : Else-not-uses_second-b) → well_formed c.args.bytes.now ≡ true
fits c =
    formed (goal.at.Else-not-uses_second-b c).In_ok-code
    ∙ ap (λ (u : Bool). u || eqb (second_of c.args.bytes.now) 0) (sym c.uses_second.ensures)
    ∙ c.if-not-uses_second-b.false

pub returns-then-not-uses_second-b : goal.returns-then-not-uses_second-b
unfolding ask_of
returns-then-not-uses_second-b c =
    let f = formed (goal.at.returns-then-not-uses_second-b c).In_ok-code
    ∙ ap (λ (u : Bool). u || eqb (second_of c.args.bytes.now) 0) (sym c.uses_second.ensures)
    ∙ c.if-not-uses_second-b.true in
    rw f

pub returns-then-not-in_range : goal.returns-then-not-in_range
unfolding ask_of
returns-then-not-in_range c =
    rw (
      fits (goal.at.returns-then-not-in_range c).Else-not-uses_second-b,
      code (goal.at.returns-then-not-in_range c).In_ok-code,
      sym c.in_range.ensures ∙ c.if-not-in_range.true,
    )

pub returns : goal.returns
unfolding ask_of
returns c =
    rw (
      fits (goal.at.returns c).Else-not-uses_second-b,
      sym c.in_ok-code.ensures,
      code (goal.at.returns c).In_ok-code,
      sym c.in_range.ensures ∙ c.if-not-in_range.false,
    )
