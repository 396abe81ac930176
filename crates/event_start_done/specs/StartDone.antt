-- Document 01, "The table", events 4 and 5, each with its own refusals in the order of "Where each refusal is checked". What the dispatcher has
-- tested before (9, 10, 11) is not tested again. A proof that opens an event opens its number too (`unfolding`). Definitions only.
use Rattle.std.specs.Prelude.{not, cond, ℕ, eqb, leb}
use Rattle.pricer.specs.Price.{price_bits}
use Rattle.table.specs.declared.Machine.{Machine}
use Rattle.table.specs.declared.Table.{Table}
use Rattle.table.specs.declared.Answer.{Answer}
use Rattle.table.specs.Views.{bond_at, machine_at, pool_at, with_machine, with_pool}
use Rattle.table.specs.Messages.{send}
use Rattle.table.specs.Parts.{running, result, judged}

-- "4. Start a b: machine a moves job b from its pool to running."
unfoldable pub started : Table → ℕ → ℕ → Table
started t a b = with_machine (with_pool t a b 0) a (running (machine_at t a) b (pool_at t a b))

-- 12 a dead; 17 a running; 18 job not in pool. Machine a is n, cell the replica number of job b in its pool
unfoldable pub start_number : Machine → ℕ → ℕ
start_number n cell =
    cond (not (eqb n.alive 1)) 12
    (cond (not (eqb n.running_replica 0)) 17
    (cond (eqb cell 0) 18 0))

-- event 4, by its number
unfoldable pub start_of : Table → ℕ → ℕ → Answer
unfolding start_number
start_of t a b = judged t (start_number (machine_at t a) (pool_at t a b)) (started t a b)

-- "5. Done a: the running copy goes and RESULT with its price is sent to the root."
unfoldable pub finished : Table → ℕ → Table
finished t a =
    send (with_machine t a (running (machine_at t a) 0 0))
    (result a (machine_at t a).running_job (machine_at t a).running_replica (price_bits (bond_at t (machine_at t a).running_job)))

-- 12 a dead; 19 nothing running; 16 128 in flight. Machine a is n, used the number of messages in flight
unfoldable pub done_number : Machine → ℕ → ℕ
done_number n used =
    cond (not (eqb n.alive 1)) 12
    (cond (eqb n.running_replica 0) 19
    (cond (leb 128 used) 16 0))

-- event 5, by its number
unfoldable pub done_of : Table → ℕ → Answer
unfolding done_number
done_of t a = judged t (done_number (machine_at t a) t.in_flight) (finished t a)
