-- Request 2.10: "A message to a dead machine takes no place, yet a steal is refused when 128 are in flight even where its victim is dead and the thief has
-- not been told. The first line now goes first: such a steal is accepted, nothing is stored, and the thief waits for its notice. For one event on one
-- table that is the only old answer that changes, from 16 to accepted. Done sends to the root, which lives, so its 16 remains." The claim is
-- `FullChannel`, over the answers as they were (Before.antt); its proof is in proofs/Full.antt. Definitions only.
use Rattle.std.specs.Prelude.{ℕ, ◌+◌, ◌<◌, ◌≡◌, ◌≢◌, true, List}
use Rattle.table.specs.declared.Table.{Table}
use Rattle.table.specs.declared.Answer.{Answer}
use Rattle.table.specs.Views.{machine_at, told_at, with_machine, refuse}
use Rattle.table.specs.Parts.{waiting, accept}
use Rattle.validity.specs.Validity.{table_ok}
use Rattle.dispatcher.specs.Codes.{STEAL, DONE, NOTICE}
use Rattle.dispatcher.specs.Step.{event, code_of, first_of, second_of, well_formed, step_of}
use Rattle.dispatcher_before.specs.Before.{steal_number_before, steal_number_since, step_by}
use Rattle.dispatcher_before.specs.Reasons.{Kept}

-- the event e on the table t is "such a steal"
pub record LetThrough (t : Table) (e : List ℕ) : Type 0 where
  -- a steal that is not refused 9, 10 or 11,
  pub passes : table_ok t ≡ true
  pub formed : well_formed e ≡ true
  pub code : code_of e ≡ STEAL
  pub thief : first_of e < t.machine_count
  pub victim : second_of e < t.machine_count
  -- nor by a number before 16: the thief lives and does not wait (that it is not the victim follows, since the victim is dead),
  pub alive : (machine_at t (first_of e)).alive ≡ 1
  pub idle : (machine_at t (first_of e)).waits ≡ 0
  -- "128 are in flight",
  pub full : t.in_flight ≡ 128
  -- "its victim is dead and the thief has not been told"
  pub dead : (machine_at t (second_of e)).alive ≢ 1
  pub untold : told_at t (first_of e) (second_of e) ≡ 0

-- t with another wait of machine a, on b, and all else as it was
abbrev pub waiting_on : Table → ℕ → ℕ → Table
waiting_on t a b = with_machine t a (waiting (machine_at t a) (b + 1))

-- an event that is accepted and ends the wait of machine a: its answer
pub record EndsWait (a : ℕ) (x : Answer) : Type 0 where
  pub number : x.number ≡ 0
  pub wait : (machine_at x.table a).waits ≡ 0

pub record FullChannel : Type 0 where
  -- "a steal is refused when 128 are in flight": so it was
  pub was : (t : Table) (e : List ℕ) → LetThrough t e → step_by steal_number_since t e ≡ refuse 16 t
  -- "such a steal is accepted, nothing is stored, and the thief waits": the table is as it was but for the thief's wait
  pub now : (t : Table) (e : List ℕ) → LetThrough t e → step_of t e ≡ accept (waiting_on t (first_of e) (second_of e))
  -- "for its notice": told of the victim by the next event, it waits no more. That the steal leaves a table which passes check 9 is `step_ok` of the
  -- dispatcher, for tables whose arrays have their lengths
  pub notice : (t : Table) (e : List ℕ) → LetThrough t e → let u = (step_of t e).table in
      table_ok u ≡ true → EndsWait (first_of e) (step_of u (event NOTICE (first_of e) (second_of e)))
  -- "For one event on one table that is the only old answer that changes": any other is as it was, number and table, whatever the table and the bytes
  pub other : (t : Table) (e : List ℕ) → (LetThrough t e → ⊥) → step_of t e ≡ step_by steal_number_since t e
  -- and is to the answer before request 2.5 what that request says
  pub reasons : (t : Table) (e : List ℕ) → (LetThrough t e → ⊥) → Kept (step_by steal_number_before t e) (step_of t e)
  -- "Done sends to the root, which lives,
  pub root : (t : Table) → table_ok t ≡ true → (machine_at t 0).alive ≡ 1
  -- so its 16 remains."
  pub done : (t : Table) (a : ℕ) → table_ok t ≡ true → a < t.machine_count → (machine_at t a).alive ≡ 1 → (machine_at t a).running_replica ≢ 0
      → t.in_flight ≡ 128 → step_of t (event DONE a 0) ≡ refuse 16 t
