-- Demand 3: one claim about an accepted book, a whole list of events, each of them any list of bytes, and what comes back when they are run from the
-- fresh table of the book: the numbers that they are answered, and the table after them. Machines may join anywhere among the events (document 02, 2.6;
-- what is claimed of the joins themselves is in Joins.antt). Its sentences are quoted from the three demands (README.md, "What is proved"); what their
-- words mean is document 01's "A run, and the words of demand 3". It is stated over definitions alone; its proof is `demand_3` in
-- proofs/Demand3.antt, and that of the sentence on two runs `runs_agree` beside it.
--
--   (open_of book).table  the fresh table of the book                      (table_opening)
--   step_of t e           the answer to event e on table t, and its table  (dispatcher)
--   run_of t es           the table after the events es                    (dispatcher)
--   answers_of t es       the numbers that they are answered               (dispatcher)
--   count_of, admits, kills, finds, results_of, state_after, serial_of, all_further (History)
use Rattle.std.specs.Prelude.{ℕ, ◌+◌, ◌≤◌, ◌<◌, ◌≡◌, ◌≢◌, true, List, [], ◌∷◌, ◌++◌, length, get_or, replicate}
use Rattle.book.specs.Parts.{entry_count_of}
use Rattle.table.specs.declared.Job.{Job}
use Rattle.table.specs.Parts.{NOT_ADMITTED, PRICED}
use Rattle.table.specs.declared.Table.{Table}
use Rattle.table.specs.Views.{job_at}
use Rattle.table_opening.specs.Opening.{open_of}
use Rattle.dispatcher.specs.Step.{step_of, run_of, answers_of}
use Rattle.claims.specs.History.{count_of, admits, kills, finds, results_of, state_after, serial_of, all_further}

-- "each event is answered as document 01 says", wherever it stands in the list: event e, which the run answered n
pub record Answered (fresh : Table) (front : List (List ℕ)) (e : List ℕ) (back : List (List ℕ)) (n : ℕ) : Type 0 where
  -- n is the answer to one event on the table that the events before it left
  pub number : n ≡ (step_of (run_of fresh front) e).number
  -- the next event is given the table that it returned
  pub next : run_of fresh (front ++ e ∷ back) ≡ run_of (step_of (run_of fresh front) e).table back
  -- a refusal changes nothing
  pub refused : n ≢ 0 → (step_of (run_of fresh front) e).table ≡ run_of fresh front
  -- and no table of a run is refused 9
  pub valid : n ≢ 9

-- "The table returned after the list shows exactly this, job by job": v is job j in the table after the events
pub record Shown (book : List ℕ) (fresh : Table) (events : List (List ℕ)) (j : ℕ) (v : Job) : Type 0 where
  -- admitted exactly if an accepted event 1 named it, priced exactly if a RESULT for it was delivered
  pub state : v.state ≡ state_after (count_of (admits j) fresh events) (results_of j fresh events)
  -- no RESULT for a bond that is not admitted, and no bond admitted twice
  pub admitted : results_of j fresh events ≢ [] → count_of (admits j) fresh events ≡ 1
  pub once : count_of (admits j) fresh events ≤ 1
  -- "its price is that of the first one delivered"; a job not priced has price bits 0
  pub price : v.price ≡ get_or (results_of j fresh events) 0 0
  -- "every priced bond has the price that one machine gives it"
  pub serial : v.state ≡ PRICED → v.price ≡ get_or (serial_of book) j 0
  -- the replica number is "1 plus the root notices that found the job"
  pub replica : v.state ≢ NOT_ADMITTED → v.replica ≡ 1 + count_of (finds j) fresh events
  -- "a job not admitted has replica 0"
  pub unnumbered : v.state ≡ NOT_ADMITTED → v.replica ≡ 0
  -- "no replica number above 1 + accepted deaths"
  pub bounded : v.replica ≤ 1 + count_of kills fresh events

-- "at most 879 further accepted events (no admission, steal or death) price every admitted bond"
-- "a join is not one of those events" (document 02, 2.6)
-- "The further events go on in the same way from the table the run ended with; each of them returns 0, and there may be none."
pub record Further (t : Table) : Type 0 where
  pub events : List (List ℕ)
  pub few : length events ≤ 879
  -- each returns 0
  pub accepted : answers_of t events ≡ replicate (length events) 0
  -- each has three bytes, and is no admission, steal, death or join
  pub only : all_further events ≡ true
  -- every bond that is admitted in t is priced after them
  pub priced : (j : ℕ) → (job_at t j).state ≢ NOT_ADMITTED → (job_at (run_of t events) j).state ≡ PRICED

-- Demand 3 of a book, a list of events, the numbers that they were answered and the table after them, by its sentences
pub record Demand3 (book : List ℕ) (events : List (List ℕ)) (numbers : List ℕ) (table : Table) : Type 0 where
  -- "each event is answered as document 01 says": a number for each, and every event e of the list, with the events before and after it
  pub each : length numbers ≡ length events
  pub answers : (front : List (List ℕ)) (e : List ℕ) (back : List (List ℕ)) → events ≡ front ++ e ∷ back
      → Answered (open_of book).table front e back (get_or numbers (length front) 0)
  -- the table is the one that the last event returned
  pub returned : table ≡ run_of (open_of book).table events
  -- every bond of the book in it: its price, its replica number, and what they come from
  pub shown : (j : ℕ) → j < entry_count_of book → Shown book (open_of book).table events j (job_at table j)
  -- "a priced bond stays priced at that price", whatever events follow
  pub stays : (later : List (List ℕ)) (j : ℕ) → (job_at table j).state ≡ PRICED → job_at (run_of (open_of book).table (events ++ later)) j ≡ job_at table j
  -- the further events, from the table the run ended with
  pub further : Further table

-- "So a bond priced in two such runs over one book has one price in both." "Two runs may differ in who joins" (document 02, 2.6): the two lists of
-- events have nothing to do with each other, so machines may join in one and not in the other, earlier or later, more or fewer
pub record RunsAgree (book : List ℕ) : Type 0 where
  pub price : (events others : List (List ℕ)) (j : ℕ) → j < entry_count_of book
      → (job_at (run_of (open_of book).table events) j).state ≡ PRICED → (job_at (run_of (open_of book).table others) j).state ≡ PRICED
      → (job_at (run_of (open_of book).table events) j).price ≡ (job_at (run_of (open_of book).table others) j).price
