-- The first machines of a table are set alive, one after another, in a table without machines: they are those of a fresh table.
-- Assumes nothing.
use Prim.Native.Nat.{ℕ, zero, suc, ◌≤◌}
use mathlib.Core.Path.{◌≡◌, refl, ap, ◌∙◌}
use mathlib.Core.List.{List}
use native.Mathlib.Numerals.{add-one}
use native.Mathlib.Omega.{arith}
use lib.ListN.{replicate, set}
use Rattle.lists.specs.Scan.{up_to}
use Rattle.lists.proofs.Scans.{tabulate_none, tabulate_more}
use Rattle.pricer.specs.declared.Bond.{Bond}
use Rattle.table.specs.declared.Machine.{Machine}
use Rattle.table.specs.declared.Table.{Table}
use Rattle.table.specs.Views.{idle_machine, no_machine, with_machine}
use Rattle.table_opening.specs.Opening.{blank, machines_of}

-- machine k comes alive
abbrev pub revive : ℕ → Table → Table
revive k u = with_machine u k (idle_machine 1)

module _ (m n : ℕ) (bs : List Bond) where
  revive_blank : (k : ℕ) (ns : List Machine) → revive k (blank m n bs ns) ≡ blank m n bs (set ns k (idle_machine 1))
  unfolding blank with_machine
  revive_blank k ns = refl

  pub alive_first : (k : ℕ) → k ≤ 16 → up_to revive k (blank m n bs (replicate 16 no_machine)) ≡ blank m n bs (machines_of k)
  unfolding up_to machines_of
  alive_first zero h = ap (blank m n bs) (tabulate_none (λ i. idle_machine 1) 16 no_machine)
  alive_first (suc k) h =
      let more = tabulate_more (λ i. idle_machine 1) 16 no_machine k (machines_of k) (omega arith) refl in
      ap (revive k) (alive_first k (omega arith)) ∙ revive_blank k (machines_of k) ∙ ap (blank m n bs) (rw add-one at more)
