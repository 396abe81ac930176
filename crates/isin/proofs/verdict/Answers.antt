-- `isin::verdict` meets its contract: what has the form has twelve allowed characters, of which the first eleven are summed. Assumes nothing.
use borrow.Author.Rules.{rules}
use native.Mathlib.Omega.{arith}
use borrow.Author.Tests.{eq-eqb, ne_eqb}
use mathlib.Core.Path.{◌≡◌, sym, ◌∙◌}
use mathlib.Core.Bool.{true}
use lib.ListN.{length, take}
use lib.Seq.{length-take-le, get_or-take}
use Rattle.isin.specs.Isin.{has_form, total, verdict_of}
use Rattle.isin.proofs.Form.{Formed, formed}
use Rattle.isin.proofs.verdict.Goals as goal
use Rattle.isin.proofs.verdict.Goals.{Else-not-has_form}

-- past the first test the identifier has the form
past : (c : Else-not-has_form) → has_form c.args.id.now ≡ true
past c = sym c.has_form.ensures ∙ c.if-not-has_form.false

form : (c : Else-not-has_form) → Formed c.args.id.now
form c = formed _ (past c)

pub returns-then-not-has_form : goal.returns-then-not-has_form
unfolding verdict_of
returns-then-not-has_form c = rw (sym c.has_form.ensures ∙ c.if-not-has_form.true)

pub slice_bounds-sum-end : goal.slice_bounds-sum-end
slice_bounds-sum-end c = let n = (form (goal.at.slice_bounds-sum-end c).Else-not-has_form).twelve in search rules

pub sum-requires : goal.sum-requires
sum-requires c =
    let f = form (goal.at.sum-requires c).Else-not-has_form in
    let n = f.twelve in
    let s = c.args.id.now in
    let m : length (take 11 s) ≡ 11 = length-take-le 11 s (omega arith) in
    record {
      s_len_bound = omega arith;
      by_index = λ i h. rw (get_or-take 11 s i 0 (omega arith)) (f.allowed i (omega arith));
    }

pub bounds-id-11 : goal.bounds-id-11
bounds-id-11 c = let n = (form (goal.at.bounds-id-11 c).Else-not-has_form).twelve in search rules

pub value-requires : goal.value-requires
value-requires c = (form (goal.at.value-requires c).Else-not-has_form).allowed 11 (omega arith)

pub returns-then-t-eq0 : goal.returns-then-t-eq0
unfolding verdict_of total
returns-then-t-eq0 c =
    rw (
      past (goal.at.returns-then-t-eq0 c).Else-not-has_form,
      sym c.sum.ensures.value,
      sym c.value.ensures.value,
      eq-eqb _ _ c.if-t-eq0.true,
    )

pub returns-else-t-eq0 : goal.returns-else-t-eq0
unfolding verdict_of total
returns-else-t-eq0 c =
    rw (
      past (goal.at.returns-else-t-eq0 c).Else-not-has_form,
      sym c.sum.ensures.value,
      sym c.value.ensures.value,
      ne_eqb _ _ c.if-t-eq0.false,
    )
