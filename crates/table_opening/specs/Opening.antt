-- Document 01, "The table": the table opened from a book. Definitions only.
use Rattle.std.specs.Prelude.{ℕ, cond, List, eqb, replicate, Result, Ok, Err}
use Rattle.lists.specs.Scan.{pad_to, tabulate}
use Rattle.pricer.specs.declared.Bond.{Bond}
use Rattle.refusal.specs.declared.Refusal.{Refusal}
use Rattle.refusal.specs.Numbers.{number_of}
use Rattle.book.specs.Book.{book_verdict}
use Rattle.pricer.specs.Bonds.{no_bond}
use Rattle.book.specs.Parts.{machine_count_of, entry_count_of, bond_of}
use Rattle.table.specs.declared.Machine.{Machine}
use Rattle.table.specs.declared.Table.{Table}
use Rattle.table.specs.declared.Answer.{Answer}
use Rattle.table.specs.Views.{no_job, idle_machine, no_machine, no_message, refuse}

-- "told of nothing, no job admitted, no copy, wait or message": with these counts, bonds and machines, and all else 0
unfoldable pub blank : ℕ → ℕ → List Bond → List Machine → Table
blank m n bs ns =
    record {
      machine_count = m;
      entry_count = n;
      bonds = bs;
      jobs = replicate 64 no_job;
      machines = ns;
      told = replicate 256 0;
      pools = replicate 1024 0;
      in_flight = 0;
      messages = replicate 128 no_message;
      open_jobs = 0;
    }

-- "the terms of each entry"; past the last one there is no bond
unfoldable pub bonds_of : List ℕ → List Bond
bonds_of s = pad_to 64 no_bond (tabulate (bond_of s) (entry_count_of s))

-- "every machine alive"; past the last one there is no machine
unfoldable pub machines_of : ℕ → List Machine
machines_of m = pad_to 16 no_machine (tabulate (λ k. idle_machine 1) m)

-- "A table as opened is fresh: every machine alive and told of nothing, no job admitted, no copy, wait or message."
unfoldable pub fresh_of : List ℕ → Table
fresh_of s = blank (machine_count_of s) (entry_count_of s) (bonds_of s) (machines_of (machine_count_of s))

-- "a refused book opens no table": what stands in its place is all 0, and its machine count is outside its range
unfoldable pub no_table : Table
no_table = blank 0 0 (replicate 64 no_bond) (replicate 16 no_machine)

-- 0 and the fresh table, or "its own number" and no table
unfoldable pub open_of : List ℕ → Answer
open_of s = cond (eqb (book_verdict s) 0) (refuse 0 (fresh_of s)) (refuse (book_verdict s) no_table)

-- the number and the table of what opening answers
abbrev pub opened : Result Table Refusal → Answer
opened (Ok t) = refuse 0 t
opened (Err r) = refuse (number_of r) no_table
