-- `worst_run::write` meets its contract. The invariant of its loop: the first event and the first i deaths are written. Assumes nothing.
use mathlib.Core.Path.{◌≡◌}
use lib.ListN.{length}
use Rattle.text.specs.Text.{Written}
use Rattle.worst_run.specs.Worst.{worst_bytes}
use Rattle.worst_run.proofs.write.Given as goal

abbrev pub invariant-loop-i : goal.invariant-loop-i
invariant-loop-i l =
    record {
      same : l.c.out.ghost_name ≡ l.initial.c.out.ghost_name;
      long : length l.c.out.now ≡ length l.initial.c.out.now;
      written : Written l.fn.buffer 0 (worst_bytes l.i) l.c.out.now l.c.at;
    }
