-- Document 01, "The table", events 1, 3 and 6, each with its own refusals in the order of "Where each refusal is checked". What the dispatcher has
-- tested before (9, 10, 11) is not tested again. A proof that opens an event opens its number too (`unfolding`). Definitions only.
use Rattle.std.specs.Prelude.{not, cond, ℕ, eqb, leb}
use Rattle.table.specs.declared.Job.{Job}
use Rattle.table.specs.declared.Machine.{Machine}
use Rattle.table.specs.declared.Table.{Table}
use Rattle.table.specs.declared.Answer.{Answer}
use Rattle.table.specs.Views.{no_machine, job_at, machine_at, message_at, with_job, with_machine}
use Rattle.table.specs.Pools.{enter, clear_pool}
use Rattle.table.specs.Messages.{oldest, remove_at, keep_messages, not_to}
use Rattle.table.specs.Parts.{opened, judged, NOT_ADMITTED}
use Rattle.handler.specs.Handler.{handle}

-- "1. Admit a: job a becomes open, replica 1, on 0, and enters the root's pool."
unfoldable pub admitted : Table → ℕ → Table
admitted t a = enter (with_job t a (opened 1)) 0 a 1

-- 13 already admitted. Job a is v
unfoldable pub admit_number : Job → ℕ
admit_number v = cond (not (eqb v.state NOT_ADMITTED)) 13 0

-- event 1, by its number
unfoldable pub admit_of : Table → ℕ → Answer
unfolding admit_number
admit_of t a = judged t (admit_number (job_at t a)) (admitted t a)

-- "3. Deliver a b: the oldest message from a to b is taken off and handled by b."
unfoldable pub delivered : Table → ℕ → Table
delivered t k = handle (remove_at t k) (message_at t k)

-- 15 none in flight from a to b: used is the number of messages in flight, slot that of the oldest from a to b, or used where there is none
unfoldable pub deliver_number : ℕ → ℕ → ℕ
deliver_number used slot = cond (leb used slot) 15 0

-- event 3, by its number
unfoldable pub deliver_of : Table → ℕ → ℕ → Answer
unfolding deliver_number
deliver_of t a b = judged t (deliver_number t.in_flight (oldest t a b)) (delivered t (oldest t a b))

-- "6. Die a: its pool, reserved, running and waiting are cleared; messages to it are dropped; those it sent stay in flight."
unfoldable pub died : Table → ℕ → Table
died t a = keep_messages (with_machine (clear_pool t a) a no_machine) (not_to a)

-- 20 a is the root; 12 a already dead. Machine a is n
unfoldable pub die_number : ℕ → Machine → ℕ
die_number a n =
    cond (eqb a 0) 20
    (cond (not (eqb n.alive 1)) 12 0)

-- event 6, by its number
unfoldable pub die_of : Table → ℕ → Answer
unfolding die_number
die_of t a = judged t (die_number a (machine_at t a)) (died t a)
