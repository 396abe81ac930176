-- Request 2.5: "14 now means only that thief and victim are the same. The steals that got 14 are the ones that get one of the three. New numbers: 24,
-- thief already waits, after 14; 25, thief was told the victim is dead, after 24." The claim is `ThreeReasons`, over the answers as they were before
-- the request and since (Before.antt); what of it holds of today's answers is `reasons` in Full.antt. Its proof is in proofs/Reasons.antt.
-- Definitions only.
use Rattle.std.specs.Prelude.{ℕ, ◌≡◌, ◌≢◌, Bool, true, cond, ◌||◌, List, map, eqb}
use Rattle.table.specs.declared.Table.{Table}
use Rattle.table.specs.declared.Answer.{Answer}
use Rattle.table.specs.Views.{machine_at, told_at}
use Rattle.dispatcher.specs.Codes.{STEAL}
use Rattle.dispatcher.specs.Step.{code_of, first_of, second_of, step_of}
use Rattle.dispatcher_before.specs.Before.{steal_number_before, steal_number_since, steal_by, step_by, run_by, answers_by}

-- "one of the three"
abbrev pub is_reason : ℕ → Bool
is_reason n = eqb n 14 || (eqb n 24 || eqb n 25)

-- the number of before, where the one since is n
abbrev pub number_before : ℕ → ℕ
number_before n = cond (is_reason n) 14 n

-- an answer as it was before the request, and since
pub record Kept (before now : Answer) : Type 0 where
  -- the number was the same, but that 14 was that of each of the three
  pub number : before.number ≡ number_before now.number
  -- so it was 14 exactly if it is one of the three,
  pub got : before.number ≡ 14 → is_reason now.number ≡ true
  pub gets : is_reason now.number ≡ true → before.number ≡ 14
  -- and every other answer is as it was, number and table
  pub other : before.number ≢ 14 → now ≡ before
  -- the table is as it was whatever the number
  pub table : now.table ≡ before.table

-- what one of the three, n, says of thief a and victim b
pub record Means (t : Table) (a b n : ℕ) : Type 0 where
  -- the thief lives: 12 comes first
  pub alive : (machine_at t a).alive ≡ 1
  -- "14 now means only that thief and victim are the same"
  pub same : n ≡ 14 → a ≡ b
  -- "24, thief already waits, after 14"
  pub waits : n ≡ 24 → (a ≢ b) × ((machine_at t a).waits ≢ 0)
  -- "25, thief was told the victim is dead, after 24"
  pub told : n ≡ 25 → (a ≢ b) × ((machine_at t a).waits ≡ 0) × (told_at t a b ≢ 0)
  -- and it is dead, so that support can "tell a script that picks itself from one that picks a dead victim"
  pub dead : n ≡ 25 → (machine_at t b).alive ≢ 1

pub record ThreeReasons : Type 0 where
  -- "The steals that got 14 are the ones that get one of the three", whatever the table and the two numbers
  pub steal : (t : Table) (a b : ℕ) → Kept (steal_by steal_number_before t a b) (steal_by steal_number_since t a b)
  -- the same of any event, on any table and any bytes
  pub event : (t : Table) (e : List ℕ) → Kept (step_by steal_number_before t e) (step_by steal_number_since t e)
  -- it is a steal that gets one of the three today, which then says why
  pub means : (t : Table) (e : List ℕ) → is_reason (step_of t e).number ≡ true
      → (code_of e ≡ STEAL) × Means t (first_of e) (second_of e) (step_of t e).number
  -- a list of events left the table that it had left before,
  pub run : (t : Table) (es : List (List ℕ)) → run_by steal_number_since t es ≡ run_by steal_number_before t es
  -- and each of its events had got the number that it got since, or 14 where that is one of the three
  pub answers : (t : Table) (es : List (List ℕ)) → answers_by steal_number_before t es ≡ map number_before (answers_by steal_number_since t es)
