-- The answers to events as they were before request 2.5, "Three reasons for a turned-back steal", and before 2.10, "Full channel, dead victim": old
-- behaviour, which no code has, for the comparisons in Reasons.antt and Full.antt. What the requests changed is the chain of a steal's refusals:
-- `steal_number_before` until 2.5, `steal_number_since` from then until 2.10. The other definitions repeat, over any chain, event_steal's `steal_of` and
-- those of dispatcher's Step. What the requests left alone is cited as it is today: what an accepted steal does, the other events, and 9, 10 and 11.
-- Event 8 came later; these answers have it as it is today, so that they differ from today's by a steal's refusals alone. How a code 8 was answered
-- before it came is in SevenEvents.antt. Definitions only.
use Rattle.std.specs.Prelude.{ℕ, not, cond, List, [], ◌∷◌, eqb, leb}
use Rattle.table.specs.declared.Machine.{Machine}
use Rattle.table.specs.declared.Table.{Table}
use Rattle.table.specs.declared.Answer.{Answer}
use Rattle.table.specs.Views.{machine_at, told_at, refuse}
use Rattle.table.specs.Parts.{judged}
use Rattle.validity.specs.Validity.{table_ok}
use Rattle.event_steal.specs.Steal.{stolen}
use Rattle.dispatcher.specs.Codes.{STEAL}
use Rattle.dispatcher.specs.Step.{code_of, first_of, second_of, well_formed, indices_in_range, event_of}

-- the number of a steal: of the thief, of the victim, of what the thief was told, of the number in flight, and of a and b. Today's is `steal_number`
abbrev pub Chain : Type 0
Chain = Machine → Machine → ℕ → ℕ → ℕ → ℕ → ℕ

-- document 01: 12 thief dead; 14 thief is victim, or waits already, or was told the victim is dead; 16 128 messages in flight, whoever the victim v is
unfoldable pub steal_number_before : Chain
steal_number_before n v told used a b =
    cond (not (eqb n.alive 1)) 12
    (cond (eqb a b) 14
    (cond (not (eqb n.waits 0)) 14
    (cond (not (eqb told 0)) 14
    (cond (leb 128 used) 16 0))))

-- since request 2.5: 12 thief dead; 14 thief is victim; 24 it waits already; 25 it was told the victim is dead; 16 128 messages in flight, whoever the
-- victim v is
unfoldable pub steal_number_since : Chain
steal_number_since n v told used a b =
    cond (not (eqb n.alive 1)) 12
    (cond (eqb a b) 14
    (cond (not (eqb n.waits 0)) 24
    (cond (not (eqb told 0)) 25
    (cond (leb 128 used) 16 0))))

-- as `steal_of`
unfoldable pub steal_by : Chain → Table → ℕ → ℕ → Answer
steal_by f t a b = judged t (f (machine_at t a) (machine_at t b) (told_at t a b) t.in_flight a b) (stolen t a b)

-- as `event_of`
unfoldable pub event_by : Chain → Table → ℕ → ℕ → ℕ → Answer
event_by f t code a b = cond (eqb code STEAL) (steal_by f t a b) (event_of t code a b)

-- as `answer_of`
unfoldable pub answer_by : Chain → Table → List ℕ → Answer
answer_by f t e =
    cond (not (well_formed e)) (refuse 10 t)
    (cond (not (indices_in_range t (code_of e) (first_of e) (second_of e))) (refuse 11 t)
    (event_by f t (code_of e) (first_of e) (second_of e)))

-- as `step_of`: the answer that an event got on a table
unfoldable pub step_by : Chain → Table → List ℕ → Answer
step_by f t e = cond (not (table_ok t)) (refuse 9 t) (answer_by f t e)

-- as `run_of`
unfoldable pub run_by : Chain → Table → List (List ℕ) → Table
run_by f t [] = t
run_by f t (e ∷ es) = run_by f (step_by f t e).table es

-- as `answers_of`
unfoldable pub answers_by : Chain → Table → List (List ℕ) → List ℕ
answers_by f t [] = []
answers_by f t (e ∷ es) = (step_by f t e).number ∷ answers_by f (step_by f t e).table es
