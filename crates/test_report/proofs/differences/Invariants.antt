-- `test_report::differences` is safe. The loop keeps: no more records differ than are passed. Assumes nothing.
use Rattle.std.proofs.Common.{◌≤◌}
use Rattle.test_report.proofs.differences.Given as goal

abbrev pub invariant-loop-i : goal.invariant-loop-i
invariant-loop-i g l = l.differing ≤ l.i
