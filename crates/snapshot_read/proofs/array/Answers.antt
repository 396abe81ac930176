-- `snapshot_read::array` meets its contract: each element is what the closure reads. Assumes nothing.
use Rattle.std.proofs.Common.{rules}
use Rattle.snapshot_read.proofs.Elements.{made}
use Rattle.snapshot_read.proofs.array.Goals as goal

pub returns : goal.returns
returns g c = made _ _ _ (λ i y q k. search rules) _ _ c.from_fn.ensures.items
