-- `page::put_entries` meets its contract. The invariant of its loop: the lines of the first i entries are written. Assumes nothing.
use Rattle.text.specs.Text.{joined}
use Rattle.text.specs.Cursor.{Writes}
use Rattle.page.proofs.Longest.{line_of}
use Rattle.page.proofs.put_entries.Given as goal

abbrev pub invariant-loop-i : goal.invariant-loop-i
invariant-loop-i l = Writes l.initial.c (joined (line_of l.book l.t) l.i) l.c
