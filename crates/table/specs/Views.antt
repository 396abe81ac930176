-- The table as it is read and changed: views of its parts, and one update for each part. Both are opaque: a proof of code unfolds them by the one
-- name `parts`, any other proof goes by their laws (proofs/Views.antt). Only the updates name every field of a table.
--
-- What document 01 lists under "The table", with the counts of "The book", and the field that holds it
-- (j < 64 a job, m < 16 a machine, i < 128 a slot):
--
--   "Bytes 0 and 1: machine count, 2 to 16"                          machine_count; it grows where a machine joins (document 02, 2.6)
--   "entry count n, 0 to 64"                                         entry_count
--   "the terms of each entry"                                        bonds[j]; unused: 0 periods, Zero of +0
--   "not admitted, open or priced"                                   jobs[j].state      0, 1, 2
--   "its current replica number"                                     jobs[j].replica
--   "its place (on p, or moving from v to t)"                        jobs[j].moving     0 on, 1 moving
--                                                                    jobs[j].holder     p, or v
--                                                                    jobs[j].thief      t; 0 where it is not moving
--   "its price bits"                                                 jobs[j].price
--   "alive or dead"                                                  machines[m].alive  1, 0
--   "which dead machines it has been told of"                        told[16 m + d]     1 where m was told of d
--   "a pool (per job a replica number, 0 for none)"                  pools[64 m + j]
--   "at most one reserved copy (job, replica, thief)"                machines[m].reserved_job, .reserved_replica, .reserved_thief; replica 0 for none
--   "at most one running copy"                                       machines[m].running_job, .running_replica; replica 0 for none
--   "the victim it waits on, if any"                                 machines[m].waits  the victim + 1, 0 for none
--   "up to 128 messages in flight, in order of sending"              messages[i] for i < in_flight
--   the message kinds                                                messages[i].kind   1 FISH, 2 REQ, 3 AUTH, 4 DENIED, 5 OBSOLETE, 6 SCHEDULE,
--                                                                    7 ACK, 8 NOWORK, 9 RESULT
--   what a message carries                                           messages[i].from, .to, .job, .replica, .thief, .price;
--                                                                    0 where its kind has no use for it
--
-- and what document 02 lists:
--
--   2.4, "The table keeps the number of open jobs."                  open_jobs
use Rattle.std.specs.Prelude.{List, ℕ, ◌+◌, ◌*◌, get_or, set, take}
use Rattle.std.specs.Float.{nan}
use Rattle.pricer.specs.declared.Bond.{Bond}
use Rattle.pricer.specs.Bonds.{empty_with}
use Rattle.table.specs.declared.Job.{Job}
use Rattle.table.specs.declared.Machine.{Machine}
use Rattle.table.specs.declared.Message.{Message}
use Rattle.table.specs.declared.Table.{Table}
use Rattle.table.specs.declared.Answer.{Answer}
use Rattle.table.specs.States.{open_after}

-- "What a state, slot or message kind has no use for is 0": a job not admitted, a machine past the count, an unused slot
abbrev pub no_job : Job
no_job = record { state = 0; replica = 0; moving = 0; holder = 0; thief = 0; price = 0 }

-- a machine with no copy and no wait, alive (1) or not (0)
abbrev pub idle_machine : ℕ → Machine
idle_machine a =
    record { alive = a; reserved_job = 0; reserved_replica = 0; reserved_thief = 0; running_job = 0; running_replica = 0; waits = 0 }

abbrev pub no_machine : Machine
no_machine = idle_machine 0

abbrev pub no_message : Message
no_message = record { kind = 0; from = 0; to = 0; job = 0; replica = 0; thief = 0; price = 0 }

-- what a read past the end of an array of bonds stands for in a proof of code; no read of the table's 64 is past it
abbrev pub past_bond : Bond
past_bond = empty_with nan

-- ---- the views

-- "the terms of each entry"
unfoldable pub bond_at : Table → ℕ → Bond
bond_at t j = get_or t.bonds j past_bond

-- "for each job: not admitted, open or priced, its current replica number, its place (on p, or moving from v to t), its price bits"
unfoldable pub job_at : Table → ℕ → Job
job_at t j = get_or t.jobs j no_job

-- the state of job j in a list of jobs; past its end, not admitted
abbrev pub state_in : List Job → ℕ → ℕ
state_in l j = (get_or l j no_job).state

-- "for each machine: alive or dead, .. at most one reserved copy (job, replica, thief), at most one running copy, and the victim it waits on, if any"
unfoldable pub machine_at : Table → ℕ → Machine
machine_at t m = get_or t.machines m no_machine

-- "a pool (per job a replica number, 0 for none)": that of job j in the pool of machine m
unfoldable pub pool_at : Table → ℕ → ℕ → ℕ
pool_at t m j = get_or t.pools (m * 64 + j) 0

-- "which dead machines it has been told of": 1 where machine m has been told that d is dead
unfoldable pub told_at : Table → ℕ → ℕ → ℕ
told_at t m d = get_or t.told (m * 16 + d) 0

-- the message in slot i
unfoldable pub message_at : Table → ℕ → Message
message_at t i = get_or t.messages i no_message

-- "up to 128 messages in flight, in order of sending"
unfoldable pub flight : Table → List Message
flight t = take t.in_flight t.messages

-- ---- the updates: t with another job j, machine m, cell of a pool, told flag, messages, or machine count, and all else as it was; but with another
-- job goes the number of open jobs, by its state before and after

unfoldable pub with_job : Table → ℕ → Job → Table
with_job t j v =
    record {
      machine_count = t.machine_count;
      entry_count = t.entry_count;
      bonds = t.bonds;
      jobs = set t.jobs j v;
      machines = t.machines;
      told = t.told;
      pools = t.pools;
      in_flight = t.in_flight;
      messages = t.messages;
      open_jobs = open_after t.open_jobs (state_in t.jobs j) (state_in (set t.jobs j v) j);
    }

unfoldable pub with_machine : Table → ℕ → Machine → Table
with_machine t m v =
    record {
      machine_count = t.machine_count;
      entry_count = t.entry_count;
      bonds = t.bonds;
      jobs = t.jobs;
      machines = set t.machines m v;
      told = t.told;
      pools = t.pools;
      in_flight = t.in_flight;
      messages = t.messages;
      open_jobs = t.open_jobs;
    }

unfoldable pub with_pool : Table → ℕ → ℕ → ℕ → Table
with_pool t m j r =
    record {
      machine_count = t.machine_count;
      entry_count = t.entry_count;
      bonds = t.bonds;
      jobs = t.jobs;
      machines = t.machines;
      told = t.told;
      pools = set t.pools (m * 64 + j) r;
      in_flight = t.in_flight;
      messages = t.messages;
      open_jobs = t.open_jobs;
    }

unfoldable pub with_told : Table → ℕ → ℕ → ℕ → Table
with_told t m d r =
    record {
      machine_count = t.machine_count;
      entry_count = t.entry_count;
      bonds = t.bonds;
      jobs = t.jobs;
      machines = t.machines;
      told = set t.told (m * 16 + d) r;
      pools = t.pools;
      in_flight = t.in_flight;
      messages = t.messages;
      open_jobs = t.open_jobs;
    }

unfoldable pub with_messages : Table → ℕ → List Message → Table
with_messages t n l =
    record {
      machine_count = t.machine_count;
      entry_count = t.entry_count;
      bonds = t.bonds;
      jobs = t.jobs;
      machines = t.machines;
      told = t.told;
      pools = t.pools;
      in_flight = n;
      messages = l;
      open_jobs = t.open_jobs;
    }

-- document 02, 2.6, "The table's machine count may grow to 16."
unfoldable pub with_machine_count : Table → ℕ → Table
with_machine_count t n =
    record {
      machine_count = n;
      entry_count = t.entry_count;
      bonds = t.bonds;
      jobs = t.jobs;
      machines = t.machines;
      told = t.told;
      pools = t.pools;
      in_flight = t.in_flight;
      messages = t.messages;
      open_jobs = t.open_jobs;
    }

-- all of these at once, for a proof of code: `unfolding parts`
unfoldable pub parts : ℕ
unfolding bond_at job_at machine_at pool_at told_at message_at flight with_job with_machine with_pool with_told with_messages with_machine_count
parts = 0

-- ---- the answer

-- "A refusal returns its number; table and buffers are unchanged"
abbrev pub refuse : ℕ → Table → Answer
refuse n t = record { number = n; table = t }
