-- `isin::sum` meets its contract. The invariant: t and twice say what the digits of the characters from i on do,
-- and t is at most 18 for each of these.
-- Assumes nothing.
use Prim.Native.Nat.{◌+◌, ◌*◌, ◌≤◌}
use lib.ListN.{length, drop}
use Rattle.isin.specs.Isin.{expanded}
use Rattle.isin.proofs.Digits.{Says}
use Rattle.isin.proofs.sum.Given as goal

abbrev pub invariant-loop-i : goal.invariant-loop-i
invariant-loop-i l = (l.t + 18 * l.i ≤ 18 * length l.s) × Says l.t l.twice (expanded (drop l.i l.s))
