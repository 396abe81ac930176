-- `dispatcher::message_in` meets its contract. Assumes nothing.
use borrow.Author.Rules.{rules}
use Rattle.table.specs.Views.{message_at}
use Rattle.dispatcher.proofs.message_in.Goals as goal

pub returns-then-slot-t : goal.returns-then-slot-t
unfolding message_at
returns-then-slot-t c = search rules
