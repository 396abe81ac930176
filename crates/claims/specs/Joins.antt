-- Document 02, 2.6, "Machines that join": what is claimed of event 8 in a run from the fresh table of an accepted book, whatever events the run has.
-- It is stated over definitions alone; its proof is `machines_join` in proofs/Joins.antt. "Two runs may differ in who joins, and equal prices and the
-- limit of 879 further events stand": demand 3 and `RunsAgree` (Claims.antt) are over any lists of events, those with joins too. What is said of one
-- event holds of every table that passes check 9, of a run or not (`joinable` there).
--
--   t.machine_count            how many machines the table t has             (table)
--   machine_count_of book      how many the book has                         (book)
--   joined t a                 t with machine a                              (event_join)
--   step_of, run_of, event_of  one event, a list, an event's own refusals    (dispatcher)
--   is_further, well_formed    what may be a further event; what 10 lets in  (dispatcher)
--   count_of, is_accepted      what a list of events did                     (History)
use Rattle.std.specs.Prelude.{ℕ, ◌+◌, ◌≤◌, ◌<◌, ◌≡◌, ◌≢◌, Bool, true, false, cond, ◌&&◌, List, eqb, leb, ltb}
use Rattle.book.specs.Parts.{machine_count_of}
use Rattle.table.specs.declared.Table.{Table}
use Rattle.table.specs.declared.Answer.{Answer}
use Rattle.table.specs.Views.{idle_machine, machine_at, pool_at, told_at, refuse}
use Rattle.table.specs.Parts.{accept}
use Rattle.table_opening.specs.Opening.{open_of}
use Rattle.event_join.specs.Join.{joined}
use Rattle.dispatcher.specs.Codes.{START, JOIN}
use Rattle.dispatcher.specs.Step.{code_of, first_of, second_of, well_formed, two_machines, event_of, step_of, run_of, is_further}
use Rattle.claims.specs.History.{is_accepted, count_of}

-- an accepted join
abbrev pub is_join : Table → List ℕ → Bool
is_join t e = is_accepted t e && eqb (code_of e) JOIN

-- "adds machine a, alive, with empty pool and told of no death": the table u after it, t being the one before
pub record Added (t : Table) (a : ℕ) (u : Table) : Type 0 where
  -- one machine more, and a is the number of the last
  pub count : u.machine_count ≡ t.machine_count + 1
  pub last : u.machine_count ≡ a + 1
  -- nothing lived under that number,
  pub new : (machine_at t a).alive ≡ 0
  -- it is alive, with no copy reserved or running and no wait,
  pub machine : machine_at u a ≡ idle_machine 1
  -- "with empty pool and told of no death"; and nobody was told that it is dead
  pub pool : (j : ℕ) → j < 64 → pool_at u a j ≡ 0
  pub told : (d : ℕ) → d < 16 → told_at u a d ≡ 0
  pub untold : (m : ℕ) → m < 16 → told_at u m a ≡ 0

-- the event Join a on the table t, answered x
pub record Join (t : Table) (a : ℕ) (x : Answer) : Type 0 where
  -- "26, there are 16 already", the dead among them
  pub full : t.machine_count ≡ 16 → x ≡ refuse 26 t
  -- "27, a is not the next number; in that order"
  pub number : t.machine_count < 16 → a ≢ t.machine_count → x ≡ refuse 27 t
  -- else it is accepted: the table has machine a, and is as it was in all else (`joined`)
  pub next : t.machine_count < 16 → a ≡ t.machine_count → x ≡ accept (joined t a)
  pub added : t.machine_count < 16 → a ≡ t.machine_count → Added t a (joined t a)

-- the table t of a run, whatever event comes next
pub record Joinable (t : Table) : Type 0 where
  -- "Join's own a is judged only by the new numbers": any a
  pub join : (e : List ℕ) → well_formed e ≡ true → code_of e ≡ JOIN → Join t (first_of e) (step_of t e)
  -- "Number 10 now accepts codes 1 to 8": no other, nor a join whose unused b is not 0
  pub codes : (e : List ℕ) → leb 1 (code_of e) && leb (code_of e) 8 ≡ false → step_of t e ≡ refuse 10 t
  pub second : (e : List ℕ) → code_of e ≡ JOIN → second_of e ≢ 0 → step_of t e ≡ refuse 10 t
  -- "11 is judged against the current count": of events with two machine numbers, and of Start, whose b is an entry number
  pub current : (e : List ℕ) → well_formed e ≡ true → two_machines (code_of e) ≡ true
      → step_of t e ≡ cond (ltb (first_of e) t.machine_count && ltb (second_of e) t.machine_count)
      (event_of t (code_of e) (first_of e) (second_of e)) (refuse 11 t)
  pub start : (e : List ℕ) → well_formed e ≡ true → code_of e ≡ START
      → step_of t e ≡ cond (ltb (first_of e) t.machine_count && ltb (second_of e) t.entry_count)
      (event_of t (code_of e) (first_of e) (second_of e)) (refuse 11 t)

pub record Joins (book : List ℕ) (events : List (List ℕ)) : Type 0 where
  -- the table of a run, and what it answers next
  pub next : Joinable (run_of (open_of book).table events)
  -- its machines are those of the book and those that joined since
  pub count : (run_of (open_of book).table events).machine_count ≡ machine_count_of book + count_of is_join (open_of book).table events
  -- "The table's machine count may grow to 16", and no further
  pub most : (run_of (open_of book).table events).machine_count ≤ 16
  -- "a join is not one of those events"
  pub apart : (e : List ℕ) → code_of e ≡ JOIN → is_further e ≡ false
