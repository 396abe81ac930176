-- `book_writer::add` meets its contract: a refusal leaves the buffer, and what is written is the grown book. Assumes nothing.
use native.Mathlib.Omega.{arith}
use borrow.Author.Rules.{rules}
use mathlib.Core.Path.{◌≡◌, sym, ◌∙◌}
use Rattle.refusal.proofs.Passed.{passed_on, not_zero}
use Rattle.book_writer.specs.Writer.{add_number}
use Rattle.book_writer.proofs.Answers.{number_adds, added_refused}
use Rattle.book_writer.proofs.Growing.{grow_asks, grew}
use Rattle.book_writer.proofs.add.Goals as goal

pub returns-in_err-number : goal.returns-in_err-number
returns-in_err-number c =
    let e = c.in_err-number.ensures in
    record {
      value = passed_on _ _ c.from_residual.ensures ∙ e;
      buffer_after = sym (added_refused _ _ _ _ (not_zero c.in_err-number.field-0.0 _ e));
    }

pub bounds-buffer-2 : goal.bounds-buffer-2
bounds-buffer-2 c =
    let e : 0 ≡ add_number c.args.buffer.now c.args.count c.args.id.now c.args.term.now = search rules in
    omega (arith, (number_adds _ _ _ _ (sym e)).space)

pub grow-requires : goal.grow-requires
grow-requires c = grow_asks _ _ _ _ (number_adds _ _ _ _ (sym c.in_ok-number.ensures))

pub returns : goal.returns
returns c = record { value = c.in_ok-number.ensures; buffer_after = grew _ _ _ _ c.in_ok-number.ensures _ c.grow.ensures }
