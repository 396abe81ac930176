-- `text::Cursor::put` meets its contract. The invariant of its loop: the first i bytes of s stand in the buffer from the position on.
-- Assumes nothing.
use mathlib.Core.Path.{refl, ap, ◌∙◌}
use Prim.Native.Nat.{◌+◌}
use native.Mathlib.Nat.{le_antisymm}
use native.Mathlib.Omega.{arith}
use lib.ListN.{length-set}
use lib.Seq.{paste, paste-zero}
use Rattle.text.proofs.Over.{over_paste, paste_more}
use Rattle.text.proofs.Cursor.put.Goals as goal

pub loop-i-init : goal.loop-i-init
loop-i-init c =
    let s = c.args.self.now in record { same = refl; long = refl; at = refl; text = paste-zero s.out.now s.at c.args.s.now }

pub loop-i-preserved : goal.loop-i-preserved
loop-i-preserved c =
    let s = c.args.self.now in
    let l = c.loop-i in
    let i = l.invariant in
    let o = l.self.at + l.i in
    record {
      same = i.same;
      long = rw length-set i.long;
      at = i.at;
      text = paste_more s.out.now s.at c.args.s.now l.i o l.self.out.now c.requires c.loop-i-test.true (omega (arith, i.at)) i.text;
    }

pub returns : goal.returns
returns c =
    let s = c.args.self.now in
    let l = c.loop-i in
    let i = l.invariant in
    let e = le_antisymm l.auto.i-end c.loop-i-test.false in
    record {
      same = i.same;
      long = i.long;
      written = record {
        text = i.text ∙ ap (paste s.out.now s.at c.args.s.now) e ∙ over_paste s.out.now s.at c.args.s.now;
        end = omega (arith, i.at);
      };
    }
