-- The lowest job read from the pools is that of the table. Assumes nothing.
use mathlib.Core.Path.{◌≡◌, refl}
use Prim.Native.Nat.{ℕ, ◌<◌}
use borrow.Author.Tests.{leb-false}
use lib.Dec.{leb}
use native.Mathlib.Omega.{arith}
use Rattle.std.proofs.Common.{unwrap_or}
use Rattle.lists.proofs.Cases.{by_bool}
use Rattle.table.specs.declared.Table.{Table}
use Rattle.table.specs.Pools.{lowest}
use Rattle.table.specs.Views.{parts}
use Rattle.protocol_pools.specs.Lowest.{job_of, lowest_in}

pub lowest_in_lem : (t : Table) (m : ℕ) → lowest_in t.pools m ≡ job_of (lowest t m)
unfolding lowest_in lowest parts
lowest_in_lem t m = refl

-- it is one of the 64
pub job_below : (n : ℕ) → unwrap_or (job_of n) 0 < 64
unfolding job_of
job_below n = by_bool (leb 64 n) (λ a. rw a (omega arith)) (λ a. rw a (leb-false 64 n a))
