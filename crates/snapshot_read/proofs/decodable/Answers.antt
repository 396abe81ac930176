-- `snapshot_read::decodable` meets its contract: a test of each entry, where the length is that of a table. Assumes nothing.
use Rattle.std.proofs.Common.{rules}
use Rattle.lists.proofs.Rules.{flags}
use borrow.Author.Tests.{eq-eqb}
use Rattle.snapshot_read.specs.Layout.{bond_start, terms_decodable, decodable}
use Rattle.snapshot_read.proofs.Elements.{all_below}
use Rattle.snapshot_read.proofs.decodable.Goals as goal

pub returns-then-s-eq-TABLE_SIZE : goal.returns-then-s-eq-TABLE_SIZE
unfolding decodable
returns-then-s-eq-TABLE_SIZE c =
    rw (eq-eqb _ _ c.if-s-eq-TABLE_SIZE.true)
    (all_below (λ i. terms_decodable c.args.s.now (bond_start i)) 64 _ _ _ _ c.all.ensures.ran (search rules) (λ x b q k. search rules))

pub returns-else-s-eq-TABLE_SIZE : goal.returns-else-s-eq-TABLE_SIZE
unfolding decodable
returns-else-s-eq-TABLE_SIZE c = search flags
