-- `validity::root_ok` meets its contract. One test of one field.
-- Assumes nothing.
use Rattle.lists.proofs.Rules.{flags}
use Rattle.table.specs.Views.{parts}
use Rattle.validity.proofs.root_ok.Goals as goal

pub returns : goal.returns
unfolding parts
returns c = search flags
