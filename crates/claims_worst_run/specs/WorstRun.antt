-- Document 02, 2.7, "The run that copies most": what is claimed of the events that a call writes, run from the fresh table of an accepted book, and of
-- every run from it. Together: k + 1 is the highest replica number that k deaths can cause, and it is reached. It is stated over definitions alone; its
-- proof is `worst_run_lem` in proofs/WorstRun.antt.
--
--   worst_number, worst_buffer  the number of a call, and the buffer after it                   (worst_run)
--   events_in                   the events of a list of bytes                                   (dispatcher)
--   (open_of book).table        the fresh table of the book                                     (table_opening)
--   answers_of, run_of          the numbers that events are answered, and the table after them  (dispatcher)
--   count_of kills              how many of them are accepted deaths                            (claims, History)
use Rattle.std.specs.Prelude.{ℕ, ◌+◌, ◌*◌, ◌≤◌, ◌<◌, ◌≡◌, List, length, take, replicate}
use Rattle.book.specs.Parts.{machine_count_of, entry_count_of}
use Rattle.table.specs.declared.Table.{Table}
use Rattle.table.specs.Views.{job_at, machine_at, pool_at, message_at}
use Rattle.table.specs.Parts.{OPEN}
use Rattle.table_opening.specs.Opening.{open_of}
use Rattle.dispatcher.specs.Step.{run_of, answers_of}
use Rattle.dispatcher.specs.Events.{events_in}
use Rattle.claims.specs.History.{count_of, kills}
use Rattle.worst_run.specs.Worst.{worst_number, worst_buffer}

-- what the events of k deaths do, run from the fresh table of the book
pub record Reaches (book : List ℕ) (k : ℕ) (events : List (List ℕ)) : Type 0 where
  -- "So 1 + 7k events"
  pub count : length events ≡ 1 + 7 * k
  -- "all are accepted"
  pub accepted : answers_of (open_of book).table events ≡ replicate (1 + 7 * k) 0
  -- k of them are deaths
  pub deaths : count_of kills (open_of book).table events ≡ k
  -- they "admit job 0 and drive its replica number to k + 1": it is open
  pub state : (job_at (run_of (open_of book).table events) 0).state ≡ OPEN
  pub replica : (job_at (run_of (open_of book).table events) 0).replica ≡ k + 1

-- no replica number of the table t is above n: of a job, in a pool, of a reserved or a running copy, in a message
pub record NoneAbove (n : ℕ) (t : Table) : Type 0 where
  pub job : (j : ℕ) → j < 64 → (job_at t j).replica ≤ n
  pub pool : (m j : ℕ) → m < 16 → j < 64 → pool_at t m j ≤ n
  pub reserved : (m : ℕ) → m < 16 → (machine_at t m).reserved_replica ≤ n
  pub running : (m : ℕ) → m < 16 → (machine_at t m).running_replica ≤ n
  pub message : (i : ℕ) → i < t.in_flight → (message_at t i).replica ≤ n

pub record WorstRun (book : List ℕ) : Type 0 where
  -- "Over every book of at least one entry and m machines all are accepted": what a call with the book's machine count wrote to the front of the buffer
  pub reached : (k : ℕ) (buffer : List ℕ) → 1 ≤ entry_count_of book → worst_number (machine_count_of book) k (length buffer) ≡ 0
      → Reaches book k (events_in (take (3 * (1 + 7 * k)) (worst_buffer (machine_count_of book) k buffer)))
  -- "no run from a fresh table with k deaths, joins included, passes k + 1": any list of events, of any bytes, with machines that join anywhere in it,
  -- and at most k accepted deaths; k may then be more than the book's machines less one
  pub most : (k : ℕ) (events : List (List ℕ)) → count_of kills (open_of book).table events ≤ k → NoneAbove (k + 1) (run_of (open_of book).table events)
