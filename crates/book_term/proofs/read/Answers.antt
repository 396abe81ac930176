-- `book_term::read` meets its contract: 19 bytes, and then what the fields say. Assumes nothing.
use lib.Ieee.{of_bits}
use Rattle.book_term.specs.Term.{term_of}
use borrow.Author.Tests.{eq-eqb, ne_eqb}
use Rattle.book_term.proofs.read.Goals as goal

pub returns-then-s-ne19 : goal.returns-then-s-ne19
unfolding term_of
returns-then-s-ne19 c = rw (ne_eqb _ _ c.if-s-ne19.true)

pub returns : goal.returns
unfolding term_of of_bits
returns c =
    let bare = c.before.before.before.before in
    rw (
      c.from_fields.ensures,
      c.u64_at-2.ensures,
      c.u64_at.ensures,
      bare.payments.ensures,
      eq-eqb _ _ bare.if-s-ne19.false,
    )
