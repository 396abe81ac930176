-- `book::entry_fault` meets its contract: each return is a case of the definition. Assumes nothing.
use mathlib.Core.Path.{◌≡◌, sym, ap, ◌∙◌}
use Rattle.refusal.specs.Numbers.{answer_of}
use Rattle.refusal.proofs.Passed.{passed_on, not_zero}
use Rattle.book_term.specs.Term.{term_number}
use Rattle.book.specs.Entry.{entry_fault}
use Rattle.book.proofs.Faults.{by_identifier, by_earlier, by_term}
use Rattle.book.proofs.entry_fault.Goals as goal
use Rattle.book.proofs.entry_fault.Goals.{After-read}

pub returns-in_err-verdict : goal.returns-in_err-verdict
returns-in_err-verdict c =
    let e = c.in_err-verdict.ensures in
    passed_on _ _ c.from_residual.ensures ∙ e ∙ sym (by_identifier _ _ _ _ (not_zero c.in_err-verdict.field-0.0 _ e))

pub returns-then-holds : goal.returns-then-holds
returns-then-holds c = sym (by_earlier _ _ _ _ (sym c.in_ok-verdict.ensures) (sym c.holds.ensures ∙ c.if-holds.true))

-- past both tests the fault is that of the terms
term_is : (c : After-read) → let a = c.args in
    entry_fault a.s.now a.n a.id.now a.term.now ≡ term_number c.read.result
term_is c = by_term _ _ _ _ (sym c.in_ok-verdict.ensures) (sym c.holds.ensures ∙ c.if-holds.false) ∙ ap term_number (sym c.read.ensures)

pub returns-in_err-ok_or : goal.returns-in_err-ok_or
returns-in_err-ok_or c =
    let none = c.in_err-ok_or.ensures.ok_part in
    passed_on _ _ c.from_residual-in_err-ok_or.ensures
    ∙ ap answer_of (rw none at c.in_err-ok_or.ensures.value)
    ∙ sym (term_is (goal.at.returns-in_err-ok_or c).After-read ∙ ap term_number none)

pub returns : goal.returns
returns c = sym (term_is (goal.at.returns c).After-read ∙ ap term_number c.in_ok-ok_or.ensures.ok_part)
