-- `table_opening::open` meets its contract. A refused book, by its number. Assumes nothing.
use Rattle.table_opening.proofs.Opened.{book_refused}
use Rattle.table_opening.proofs.open.Goals as goal

pub returns-in_err-verdict : goal.returns-in_err-verdict
returns-in_err-verdict c = book_refused _ _ _ c.from_residual.ensures c.in_err-verdict.ensures
