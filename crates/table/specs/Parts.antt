-- One-part updates of a job and of a machine, the copies and messages that they speak of, and what an event answers. The updates are opaque: a proof
-- of code unfolds them by the one name `pieces`.
use Rattle.std.specs.Prelude.{Bool, not, cond, ◌&&◌, ℕ, eqb}
use Rattle.lists.specs.Scan.{count_to}
use Rattle.table.specs.declared.Job.{Job}
use Rattle.table.specs.declared.Machine.{Machine}
use Rattle.table.specs.declared.Message.{Message}
use Rattle.table.specs.declared.Table.{Table}
use Rattle.table.specs.declared.Answer.{Answer}
use Rattle.table.specs.Views.{job_at, machine_at, refuse}
pub use Rattle.table.specs.States.{NOT_ADMITTED, OPEN, PRICED}

-- ---- a job

-- open, with this replica number, on the root
unfoldable pub opened : ℕ → Job
opened r = record { state = OPEN; replica = r; moving = 0; holder = 0; thief = 0; price = 0 }

-- moving from one machine to another
unfoldable pub moved : Job → ℕ → ℕ → Job
moved v from to = record { state = v.state; replica = v.replica; moving = 1; holder = from; thief = to; price = v.price }

-- on machine p
unfoldable pub placed : Job → ℕ → Job
placed v p = record { state = v.state; replica = v.replica; moving = 0; holder = p; thief = 0; price = v.price }

-- priced; "a priced job keeps the replica number and place it had when priced"
unfoldable pub priced : Job → ℕ → Job
priced v bits = record { state = PRICED; replica = v.replica; moving = v.moving; holder = v.holder; thief = v.thief; price = bits }

-- document 02, 2.4, "a full recount": how many jobs are open
unfoldable pub recount : Table → ℕ
recount t = count_to (λ j. eqb (job_at t j).state OPEN) 64

-- ---- a machine

-- its reserved copy is (job j, replica r, thief th)
unfoldable pub reserve : Machine → ℕ → ℕ → ℕ → Machine
reserve n j r th =
    record {
      alive = n.alive;
      reserved_job = j;
      reserved_replica = r;
      reserved_thief = th;
      running_job = n.running_job;
      running_replica = n.running_replica;
      waits = n.waits;
    }

-- its reserved copy is gone
unfoldable pub release : Machine → Machine
release n =
    record {
      alive = n.alive;
      reserved_job = 0;
      reserved_replica = 0;
      reserved_thief = 0;
      running_job = n.running_job;
      running_replica = n.running_replica;
      waits = n.waits;
    }

-- its running copy is (job j, replica r); (0, 0) for none
unfoldable pub running : Machine → ℕ → ℕ → Machine
running n j r =
    record {
      alive = n.alive;
      reserved_job = n.reserved_job;
      reserved_replica = n.reserved_replica;
      reserved_thief = n.reserved_thief;
      running_job = j;
      running_replica = r;
      waits = n.waits;
    }

-- its wait is w: the victim + 1, or 0 for none
unfoldable pub waiting : Machine → ℕ → Machine
waiting n w =
    record {
      alive = n.alive;
      reserved_job = n.reserved_job;
      reserved_replica = n.reserved_replica;
      reserved_thief = n.reserved_thief;
      running_job = n.running_job;
      running_replica = n.running_replica;
      waits = w;
    }

-- all of these at once, for a proof of code: `unfolding pieces`
unfoldable pub pieces : ℕ
unfolding opened moved placed priced reserve release running waiting
pieces = 0

-- whether machine m is alive
abbrev pub lives : Table → ℕ → Bool
lives t m = eqb (machine_at t m).alive 1

-- ---- copies

-- (job, replica, thief) of two copies are the same
unfoldable pub copy_is : ℕ → ℕ → ℕ → ℕ → ℕ → ℕ → Bool
copy_is j r th k q u = eqb j k && (eqb r q && eqb th u)

-- the reserved copy is (job j, replica r, thief th)
unfoldable pub reserves : Machine → ℕ → ℕ → ℕ → Bool
reserves n j r th = not (eqb n.reserved_replica 0) && copy_is n.reserved_job n.reserved_replica n.reserved_thief j r th

-- ---- messages

-- their kinds
abbrev pub FISH : ℕ
FISH = 1

abbrev pub REQ : ℕ
REQ = 2

abbrev pub AUTH : ℕ
AUTH = 3

abbrev pub DENIED : ℕ
DENIED = 4

abbrev pub OBSOLETE : ℕ
OBSOLETE = 5

abbrev pub SCHEDULE : ℕ
SCHEDULE = 6

abbrev pub ACK : ℕ
ACK = 7

abbrev pub NOWORK : ℕ
NOWORK = 8

abbrev pub RESULT : ℕ
RESULT = 9

-- a message of this kind, from f to o, about job j, replica r and thief th
unfoldable pub message : ℕ → ℕ → ℕ → ℕ → ℕ → ℕ → Message
message k f o j r th = record { kind = k; from = f; to = o; job = j; replica = r; thief = th; price = 0 }

-- "RESULT carries job, replica and price", and goes to the root
unfoldable pub result : ℕ → ℕ → ℕ → ℕ → Message
result f j r bits = record { kind = RESULT; from = f; to = 0; job = j; replica = r; thief = 0; price = bits }

-- ---- the answer

-- "An accepted event returns 0."
abbrev pub accept : Table → Answer
accept u = refuse 0 u

-- the answer of an event that has the number n on t, and makes u of t where it is accepted
abbrev pub judged : Table → ℕ → Table → Answer
judged t n u = cond (eqb n 0) (accept u) (refuse n t)
