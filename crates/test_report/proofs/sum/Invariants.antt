-- `test_report::sum` meets its contract. The loop keeps: the sum is no more than the bytes passed.
-- The measure is the number of bytes left. Assumes nothing.
use Rattle.std.proofs.Common.{◌+◌, ◌≤◌, length}
use Rattle.test_report.proofs.sum.Given as goal

abbrev pub invariant-loop-record : goal.invariant-loop-record
invariant-loop-record g l = l.total + length l.rest ≤ length l.data

abbrev pub decreases-loop-record : goal.decreases-loop-record
decreases-loop-record g l = length l.rest
