-- `protocol_pools::lowest` meets its contract. The loop keeps: no job passed so far is in the pool.
-- Assumes nothing.
use Prim.Native.Nat.{ℕ, ◌<◌}
use borrow.Author.Tests.{eq-eqb, ne_eqb, lt-leb}
use mathlib.Core.Bool.{not}
use mathlib.Core.Path.{◌≡◌, ap}
use native.Mathlib.Omega.{arith}
use Rattle.std.proofs.Common.{None, Some}
use Rattle.lists.proofs.Scans.{least_found, least_more, least_none}
use Rattle.protocol_pools.specs.Lowest.{job_of, lowest_in}
use Rattle.protocol_pools.proofs.lowest.Goals as goal

job_some : (n j : ℕ) → n ≡ j → j < 64 → Some j ≡ job_of n
unfolding job_of
job_some n j e h = rw (e, lt-leb 64 j h)

job_none : (n : ℕ) → n ≡ 64 → None ≡ job_of n
unfolding job_of
job_none n e = rw e

pub loop-j-init : goal.loop-j-init
loop-j-init c = least_none _

pub returns-then-pools-base-ne0 : goal.returns-then-pools-base-ne0
unfolding lowest_in
returns-then-pools-base-ne0 c =
    job_some _ _ (least_found _ _ _ (omega arith) c.loop-j.invariant (ap not (ne_eqb _ _ c.if-pools-base-ne0.true))) (omega arith)

pub loop-j-preserved : goal.loop-j-preserved
loop-j-preserved c = least_more _ _ c.loop-j.invariant (ap not (eq-eqb _ _ c.if-pools-base-ne0.false))

pub returns : goal.returns
unfolding lowest_in
returns c = let e : c.loop-j.j ≡ 64 = omega arith in job_none _ (rw e at c.loop-j.invariant)
