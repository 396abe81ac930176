-- `protocol_pools::clear_pool` meets its contract. The loop keeps: the pool is cleared up to job j.
-- Assumes nothing.
use mathlib.Core.Path.{◌≡◌}
use Rattle.lists.specs.Scan.{up_to}
use Rattle.table.specs.Views.{with_pool}
use Rattle.protocol_pools.proofs.clear_pool.Given as goal

abbrev pub invariant-loop-j : goal.invariant-loop-j
invariant-loop-j l = l.u ≡ up_to (λ k v. with_pool v l.m k 0) l.j l.initial.u
