-- The list of a table's bonds: one for each entry of the book, and no bond past them.
-- Assumes nothing.
use Prim.Native.Nat.{ℕ, ◌<◌}
use mathlib.Core.Path.{◌≡◌, ◌∙◌}
use mathlib.Core.List.{List}
use native.Mathlib.Omega.{arith}
use borrow.Author.Tests.{ltb-true, ltb-false}
use lib.Dec.{ltb}
use lib.ListN.{length, get_or}
use Rattle.lists.specs.Scan.{tabulate}
use Rattle.lists.proofs.Scans.{length_pad, length_tabulate, pad_at, pad_past}
use Rattle.lists.proofs.Cases.{by_bool}
use Rattle.pricer.specs.declared.Bond.{Bond}
use Rattle.pricer.specs.Bonds.{no_bond}
use Rattle.book.specs.Parts.{entry_count_of, bond_of}
use Rattle.book.proofs.Accepted.{bond_past}
use Rattle.table_opening.specs.Opening.{bonds_of}
use Rattle.table_opening.proofs.Counts.{entry_count_most}

module _ (s : List ℕ) where
  pub length_bonds : length (bonds_of s) ≡ 64
  unfolding bonds_of
  length_bonds = length_pad 64 no_bond (tabulate (bond_of s) (entry_count_of s))
      (omega (arith, length_tabulate (bond_of s) 64 no_bond (entry_count_of s), entry_count_most s))

  pub bonds_at : (j : ℕ) (d : Bond) → j < 64 → get_or (bonds_of s) j d ≡ bond_of s j
  unfolding bonds_of
  bonds_at j d h =
      let n = entry_count_of s in
      by_bool (ltb j n)
      (λ e. pad_at (bond_of s) 64 no_bond n j d (ltb-true j n e))
      (λ e. let l = ltb-false j n e in pad_past (bond_of s) 64 no_bond n j d l h ∙ bond_past s j l)
