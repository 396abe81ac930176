-- `validity_element::empty_bond` meets its contract. The definition joins what the functions it calls equal, in the same order.
-- Assumes nothing.
use Rattle.validity_element.proofs.empty_bond.Goals as goal

pub returns : goal.returns
returns c = rw c.no_terms.ensures
