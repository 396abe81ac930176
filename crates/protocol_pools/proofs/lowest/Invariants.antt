-- `protocol_pools::lowest` meets its contract. The loop keeps: no job passed so far is in the pool.
-- Assumes nothing.
use Prim.Native.Nat.{◌+◌, ◌*◌}
use lib.Dec.{eqb}
use lib.ListN.{get_or}
use mathlib.Core.Bool.{not}
use mathlib.Core.Path.{◌≡◌}
use Rattle.lists.specs.Scan.{least}
use Rattle.protocol_pools.proofs.lowest.Given as goal

abbrev pub invariant-loop-j : goal.invariant-loop-j
invariant-loop-j l = least (λ k. not (eqb (get_or l.pools (l.m * 64 + k) 0) 0)) l.j ≡ l.j
