-- `Element::put` of a bond meets its contract. One part after another. Assumes nothing.
use native.Mathlib.Omega.{arith}
use Rattle.snapshot_write.proofs.Lengths.{length_bond, end_64, written_bond}
use Rattle.snapshot_write.proofs.BondElement.put.Goals as goal

pub put_u64-requires-2 : goal.put_u64-requires-2
put_u64-requires-2 c = omega (arith, length_bond c.args.self.now, end_64)

pub returns : goal.returns
returns c =
    written_bond _ _ _ _ c.put.ensures c.put_u64.ensures c.put_u64-2.ensures c.case_of.ensures
    c.coupon_bits.ensures c.yield_bits.ensures (omega (arith, length_bond c.args.self.now))
