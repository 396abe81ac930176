-- `text::Cursor::put` meets its contract. The invariant of its loop: the first i bytes of s stand in the buffer from the position on.
-- Assumes nothing.
use mathlib.Core.Path.{◌≡◌}
use lib.ListN.{length}
use lib.Seq.{paste}
use Rattle.text.proofs.Cursor.put.Given as goal

abbrev pub invariant-loop-i : goal.invariant-loop-i
invariant-loop-i l =
    record {
      same : l.self.out.ghost_name ≡ l.initial.self.out.ghost_name;
      long : length l.self.out.now ≡ length l.initial.self.out.now;
      at : l.self.at ≡ l.initial.self.at;
      text : l.self.out.now ≡ paste l.initial.self.out.now l.initial.self.at l.s l.i;
    }
