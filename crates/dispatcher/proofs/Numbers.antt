-- What refusal 11 has tested, by the code of the event.
-- Assumes nothing.
use Prim.Native.Nat.{ℕ, ◌<◌}
use mathlib.Core.Path.{◌≡◌}
use mathlib.Core.Bool.{true, ◌&&◌}
use native.Mathlib.Omega.{arith}
use borrow.Author.Tests.{ltb-true}
use lib.Dec.{ltb}
use Rattle.lists.proofs.Cases.{and_left, and_right}
use Rattle.table.specs.declared.Table.{Table}
use Rattle.table.specs.Needs.{Ready}
use Rattle.dispatcher.specs.Codes.{ADMIT, START}
use Rattle.dispatcher.specs.Step.{two_machines, indices_in_range}

both : (a b m n : ℕ) → ltb a m && ltb b n ≡ true → (a < m) × (b < n)
both a b m n h = (ltb-true a m (and_left (ltb a m) (ltb b n) h), ltb-true b n (and_right (ltb a m) (ltb b n) h))

module _ (t : Table) (code a b : ℕ) (g : indices_in_range t code a b ≡ true) where
  pub machines_in : two_machines code ≡ true → (a < t.machine_count) × (b < t.machine_count)
  unfolding indices_in_range
  machines_in e = both a b t.machine_count t.machine_count (rw e at g)

  pub entry_in : code ≡ ADMIT → a < t.entry_count
  unfolding indices_in_range
  entry_in e = ltb-true a t.entry_count (rw e at g)

  pub start_in : code ≡ START → (a < t.machine_count) × (b < t.entry_count)
  unfolding indices_in_range
  start_in e = both a b t.machine_count t.entry_count (rw e at g)

-- so the numbers of machines are within the arrays
pub machines_below : (t : Table) → Ready t → (code a b : ℕ) → indices_in_range t code a b ≡ true → two_machines code ≡ true → (a < 16) × (b < 16)
machines_below t r code a b g e =
    let h = machines_in t code a b g e in (omega (arith, h.0, r.machine_count), omega (arith, h.1, r.machine_count))
