-- `isin::all_allowed` meets its contract. The invariant: what holds of all is what is known of those before the next, and holds of those from it on.
-- Assumes nothing.
use mathlib.Core.Path.{◌≡◌}
use mathlib.Core.Bool.{◌&&◌}
use lib.ListN.{drop}
use Rattle.isin.specs.Isin.{all_in}
use Rattle.isin.proofs.all_allowed.Given as goal

abbrev pub invariant-loop-b : goal.invariant-loop-b
invariant-loop-b l = all_in 0 35 l.s ≡ l.allowed && all_in 0 35 (drop l.b-index l.s)
