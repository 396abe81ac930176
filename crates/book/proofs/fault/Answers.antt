-- `book::fault` meets its contract: the fault of an entry is that of its parts. Assumes nothing.
use mathlib.Core.Path.{sym, ◌∙◌}
use Rattle.book.proofs.Faults.{is_term, fault_is}
use Rattle.book.proofs.fault.Goals as goal

pub returns : goal.returns
returns c = c.entry_fault.ensures ∙ rw (is_term _ _ _, c.identifier_at.ensures) (sym (fault_is _ _ _))
