-- `table_opening::bonds` meets its contract. The loop keeps: the bonds of the entries passed so far, and no bond past them.
-- Assumes nothing.
use Rattle.lists.proofs.Rules.{tests}
use Prim.Native.Nat.{◌<◌}
use Rattle.pricer.specs.declared.Bond.{Bond}
use lib.ListN.{set}
use native.Mathlib.Omega.{arith}
use mathlib.Core.Path.{ap, ◌∙◌}
use Rattle.lists.proofs.Scans.{tabulate_none, tabulate_more, tabulate_end}
use Rattle.table_opening.proofs.Counts.{entry_count_most}
use Rattle.pricer.specs.Bonds.{no_bond}
use Rattle.book.specs.Parts.{entry_count_of, bond_of}
use Rattle.book.proofs.Accepted.{counted, bond_counted}
use Rattle.table_opening.specs.Opening.{bonds_of}
use Rattle.table_opening.proofs.bonds.Goals as goal
use Rattle.table_opening.proofs.bonds.Goals.{In-loop-i}

-- in a turn the entry is one of the book's
below : (c : In-loop-i) → c.loop-i.i < entry_count_of c.args.s.now
below c = omega (arith, c.loop-i.invariant.0)

pub loop-i-init : goal.loop-i-init
loop-i-init c = (c.entry_count-n.ensures, search tests, c.no_bonds-out.ensures ∙ tabulate_none _ 64 no_bond)

pub term_bond_at-requires : goal.term_bond_at-requires
term_bond_at-requires c =
    let b = below (goal.at.term_bond_at-requires c).In-loop-i in
    let k = counted _ _ b in
    let e = c.loop-i.invariant.0 in
    record {
      s_len = omega arith;
      i_lt_n = (omega arith, omega arith);
    }

pub bounds-out-i : goal.bounds-out-i
bounds-out-i c = omega (arith, below (goal.at.bounds-out-i c).In-loop-i, entry_count_most c.args.s.now)

pub loop-i-preserved : goal.loop-i-preserved
loop-i-preserved c =
    let s = c.args.s.now in (
      c.loop-i.invariant.0,
      search tests,
      ap (λ (b : Bond). set c.loop-i.out c.loop-i.i b)
          (c.term_bond_at.ensures ∙ bond_counted s c.loop-i.i _ c.loop-i.invariant.0 (below (goal.at.loop-i-preserved c).In-loop-i))
          ∙ tabulate_more (bond_of s) 64 no_bond c.loop-i.i c.loop-i.out (omega (arith, below (goal.at.loop-i-preserved c).In-loop-i, entry_count_most s)) c.loop-i.invariant.2,
    )

pub returns : goal.returns
unfolding bonds_of
returns c = tabulate_end _ 64 no_bond _ c.loop-i.i c.loop-i.out (omega (arith, c.loop-i.invariant.0))
    (omega (arith, c.loop-i.invariant.0)) c.loop-i.invariant.2
