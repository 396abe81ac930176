-- `text::Cursor::put_digits` meets its contract. The invariant of its loop:
-- the digits still to be written, written now, give what is to be left in the buffer. Assumes nothing.
use native.Mathlib.Omega.{arith}
use lib.ListN.{length-set}
use Rattle.text.proofs.Digits.{length_digits, digits_more, digits_end}
use Rattle.text.proofs.Cursor.put_digits.Goals as goal

pub loop-i-preserved : goal.loop-i-preserved
loop-i-preserved c =
    let s = c.args.self.now in
    let l = c.loop-i in
    let i = l.invariant in
    let t = digits_more s.out.now l.self.out.now l.self.at c.args.base c.args.width c.args.x l.i l.rest c.digit.result (omega arith) (omega arith) c.digit.ensures in
    record {
      same = i.same;
      long = rw length-set i.long;
      at = i.at;
      text = t i.text;
    }

pub returns : goal.returns
returns c =
    let s = c.args.self.now in
    let l = c.loop-i in
    let i = l.invariant in
    record {
      same = i.same;
      long = i.long;
      written = record {
        text = rw i.at at (digits_end s.out.now l.self.out.now l.self.at c.args.base c.args.width c.args.x l.i l.rest (omega arith) i.text);
        end = omega (arith, length_digits c.args.base c.args.width c.args.x);
      };
    }
