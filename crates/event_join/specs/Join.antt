-- Document 02, 2.6: event 8, Join, with its own refusals in their order. What the dispatcher has tested before (9, 10) is not tested again, and 11 does
-- not judge Join's a. A proof that opens the event opens its number too (`unfolding`). Definitions only.
use Rattle.std.specs.Prelude.{not, cond, ℕ, ◌+◌, eqb, leb}
use Rattle.table.specs.declared.Table.{Table}
use Rattle.table.specs.declared.Answer.{Answer}
use Rattle.table.specs.Views.{idle_machine, with_machine, with_machine_count}
use Rattle.table.specs.Parts.{judged}

-- "Event 8, Join a, adds machine a, alive, with empty pool and told of no death." Its pool and its told flags are not written: check 9 has them 0 as
-- long as there is no machine a (claims/specs/Joins.antt says it of the table after)
unfoldable pub joined : Table → ℕ → Table
joined t a = with_machine_count (with_machine t a (idle_machine 1)) (t.machine_count + 1)

-- "26, there are 16 already; 27, a is not the next number; in that order": the machines are counted from 0, so the next number is their count
unfoldable pub join_number : ℕ → ℕ → ℕ
join_number count a =
    cond (leb 16 count) 26
    (cond (not (eqb a count)) 27 0)

-- event 8, by its number
unfoldable pub join_of : Table → ℕ → Answer
unfolding join_number
join_of t a = judged t (join_number t.machine_count a) (joined t a)
