-- `protocol_pools::clear_pool` meets its contract. The loop keeps: the pool is cleared up to job j.
-- Assumes nothing.
use native.Mathlib.Omega.{arith}
use Rattle.lists.proofs.Scans.{up_end, up_more, up_none}
use Rattle.table.specs.Pools.{clear_pool}
use Rattle.table.specs.Views.{parts, with_pool}
use Rattle.protocol_pools.proofs.clear_pool.Goals as goal

pub loop-j-init : goal.loop-j-init
loop-j-init c = up_none _ _

pub loop-j-preserved : goal.loop-j-preserved
unfolding parts
loop-j-preserved c = up_more (λ k v. with_pool v c.args.m k 0) _ _ _ c.loop-j.invariant

pub returns : goal.returns
unfolding clear_pool
returns c = up_end _ _ 64 _ _ (omega arith) (omega arith) c.loop-j.invariant
