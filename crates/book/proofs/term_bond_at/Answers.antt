-- `book::term_bond_at` meets its contract: the part that is read is the term of entry i. Assumes nothing.
use mathlib.Core.Path.{ap, ◌∙◌}
use lib.Ieee.{of_bits}
use Rattle.book_term.specs.Term.{term_of}
use Rattle.book.specs.Parts.{bond_in, term_bond_at}
use Rattle.book.proofs.Faults.{is_term}
use Rattle.book.proofs.term_bond_at.Goals as goal

pub returns : goal.returns
unfolding term_bond_at of_bits
returns c = c.unwrap_or.ensures ∙ ap bond_in (c.read.ensures ∙ ap term_of (is_term _ _ _))
