-- Document 02, 2.4, "How many are still open": what is claimed of the number of open jobs that the table keeps, in a run from the fresh table of an
-- accepted book. It is stated over definitions alone; its proof is `open_jobs` in proofs/Open.antt. That a table of which it is not so is refused 9, and
-- that the question reads this number only, are promises of the crates `validity` and `dispatcher`.
--
--   t.open_jobs                       the number that the table t keeps  (table)
--   recount t                         how many of its jobs are open      (table)
--   step_of, run_of                   one event, and a list of them      (dispatcher)
--   count_of, is_accepted, taken_off  what a list of events did          (History)
use Rattle.std.specs.Prelude.{ℕ, ◌+◌, ◌≡◌, Bool, true, false, ◌&&◌, List, eqb}
use Rattle.table.specs.declared.Table.{Table}
use Rattle.table.specs.Views.{job_at}
use Rattle.table.specs.Parts.{RESULT, OPEN, recount}
use Rattle.table_opening.specs.Opening.{open_of}
use Rattle.dispatcher.specs.Codes.{ADMIT, DELIVER}
use Rattle.dispatcher.specs.Step.{code_of, step_of, run_of}
use Rattle.claims.specs.History.{is_accepted, count_of, taken_off}

-- an admission: an accepted event 1
abbrev pub is_admission : Table → List ℕ → Bool
is_admission t e = is_accepted t e && eqb (code_of e) ADMIT

-- a RESULT is delivered, and finds its job open
abbrev pub finds_open : Table → List ℕ → Bool
finds_open t e = is_accepted t e && (eqb (code_of e) DELIVER && (eqb (taken_off t e).kind RESULT && eqb (job_at t (taken_off t e).job).state OPEN))

-- what the event e, any bytes, makes of the number that the table t keeps
pub record Counted (t : Table) (e : List ℕ) : Type 0 where
  -- one more at an admission
  pub raised : is_admission t e ≡ true → (step_of t e).table.open_jobs ≡ t.open_jobs + 1
  -- one fewer where a RESULT finds its job open
  pub lowered : finds_open t e ≡ true → (step_of t e).table.open_jobs + 1 ≡ t.open_jobs
  -- else as many
  pub unchanged : is_admission t e ≡ false → finds_open t e ≡ false → (step_of t e).table.open_jobs ≡ t.open_jobs

pub record OpenJobs (book : List ℕ) (events : List (List ℕ)) : Type 0 where
  -- "For every table reached from a fresh one it equals a full recount"
  pub recounted : (run_of (open_of book).table events).open_jobs ≡ recount (run_of (open_of book).table events)
  -- whatever event comes next
  pub next : (e : List ℕ) → Counted (run_of (open_of book).table events) e
  -- so over the whole list it is the admissions less the RESULTs that found their job open
  pub history : (run_of (open_of book).table events).open_jobs + count_of finds_open (open_of book).table events
      ≡ count_of is_admission (open_of book).table events
