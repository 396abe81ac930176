-- `snapshot::open` meets its contract. By the three ways in which it ends. Assumes nothing.
use mathlib.Core.Path.{◌≡◌, refl, ◌∙◌}
use native.Mathlib.Omega.{arith}
use borrow.Author.Rules.{rules}
use Rattle.refusal.specs.Numbers.{number_of, answer_of}
use Rattle.refusal.proofs.Numbers.{number_positive}
use Rattle.table.specs.Views.{refuse}
use Rattle.table_opening.specs.Opening.{no_table, open_of}
use Rattle.snapshot.proofs.Answers.{book_refused, buffer_refused, opened}
use Rattle.snapshot.proofs.open.Goals as goal

pub returns-in_err-t : goal.returns-in_err-t
returns-in_err-t c =
    let book = c.args.book.now in
    let r = c.in_err-t.field-0.0 in
    let q : refuse (number_of r) no_table ≡ open_of book = search rules in
    let v : answer_of c.from_residual.result ≡ number_of r = search rules in
    let z = number_positive r in
    let p = book_refused book c.args.table.now _ q (λ e. omega (arith, z, e)) in
    record { value = v ∙ p.0; table_after = p.1 }

pub returns-then-table-ne-TABLE_SIZE : goal.returns-then-table-ne-TABLE_SIZE
returns-then-table-ne-TABLE_SIZE c =
    let book = c.args.book.now in
    let q : refuse 0 c.in_ok-t.t ≡ open_of book = search rules in
    let p = buffer_refused book c.args.table.now _ q refl c.if-table-ne-TABLE_SIZE.true in
    record { value = p.0; table_after = p.1 }

pub returns : goal.returns
returns c =
    let book = c.args.book.now in
    let q : refuse 0 c.in_ok-t.t ≡ open_of book = search rules in
    let p = opened book c.args.table.now _ q _ refl c.if-table-ne-TABLE_SIZE.false c.encode.ensures in
    record { value = p.0; table_after = p.1 }
