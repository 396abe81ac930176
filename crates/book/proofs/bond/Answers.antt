-- `book::bond` meets its contract: a book with an entry is accepted, and so its terms are whole. Assumes nothing.
use Prim.Native.Nat.{◌<◌}
use mathlib.Core.Path.{◌∙◌}
use native.Mathlib.Omega.{arith}
use lib.Ieee.{of_bits}
use Rattle.book.specs.Parts.{entry_count_of}
use Rattle.book.proofs.Accepted.{counted, bond_counted, bond_past}
use Rattle.book.proofs.bond.Goals as goal
use Rattle.book.proofs.bond.Goals.{Then-i-n}

below : (c : Then-i-n) → c.args.i < entry_count_of c.args.s.now
below c = rw c.entry_count-n.ensures at c.if-i-n.true

pub term_bond_at-requires : goal.term_bond_at-requires
term_bond_at-requires c = let b = below (goal.at.term_bond_at-requires c).Then-i-n in let k = counted _ _ b in let e = c.entry_count-n.ensures in
    record {
      s_len = omega arith;
      i_lt_n = (omega arith, omega arith);
    }

pub returns-then-i-n : goal.returns-then-i-n
returns-then-i-n c = c.term_bond_at.ensures ∙ bond_counted _ _ _ c.entry_count-n.ensures (below (goal.at.returns-then-i-n c).Then-i-n)

pub returns-else-i-n : goal.returns-else-i-n
unfolding of_bits
returns-else-i-n c = bond_past _ _ (rw c.entry_count-n.ensures at c.if-i-n.false)
