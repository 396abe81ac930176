-- `text::Cursor::put_digits` meets its contract. The invariant of its loop:
-- the digits still to be written, written now, give what is to be left in the buffer. Assumes nothing.
use mathlib.Core.Path.{◌≡◌}
use lib.ListN.{length}
use Rattle.text.specs.Text.{over, low_digits}
use Rattle.text.proofs.Cursor.put_digits.Given as goal

abbrev pub invariant-loop-i : goal.invariant-loop-i
invariant-loop-i l =
    record {
      same : l.self.out.ghost_name ≡ l.initial.self.out.ghost_name;
      long : length l.self.out.now ≡ length l.initial.self.out.now;
      at : l.self.at ≡ l.initial.self.at;
      text : over l.self.out.now l.self.at (low_digits l.base l.i l.rest) ≡ over l.initial.self.out.now l.self.at (low_digits l.base l.width l.x);
    }
