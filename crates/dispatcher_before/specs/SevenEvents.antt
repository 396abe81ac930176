-- The answers to events as they were before request 2.6, "Machines that join": old behaviour, which no code has. There were seven events, and a code 8
-- got 10. The claim is `EighthEvent`: "Number 10 now accepts codes 1 to 8", and no other answer changes. Its proof is in proofs/SevenEvents.antt. What the
-- request left alone is cited as it is today: 9, 11 and the seven events. Definitions only.
use Rattle.std.specs.Prelude.{ℕ, ◌≡◌, ◌≢◌, Bool, true, not, cond, ◌&&◌, ◌||◌, List, [], ◌∷◌, eqb, leb, length}
use Rattle.table.specs.declared.Table.{Table}
use Rattle.table.specs.declared.Answer.{Answer}
use Rattle.table.specs.Views.{refuse}
use Rattle.validity.specs.Validity.{table_ok}
use Rattle.dispatcher.specs.Codes.{ADMIT, DONE, DIE, NOTICE, JOIN}
use Rattle.dispatcher.specs.Step.{code_of, first_of, second_of, indices_in_range, event_of, step_of, run_of, answers_of}

-- document 01: "code not 1 to 7, unused b not 0, or fewer than three bytes": the contrary. Admit, Done and Die have no use for b
unfoldable pub well_formed_of_seven : List ℕ → Bool
well_formed_of_seven e =
    leb 3 (length e) && leb 1 (code_of e) && leb (code_of e) NOTICE
    && (not (eqb (code_of e) ADMIT || eqb (code_of e) DONE || eqb (code_of e) DIE) || eqb (second_of e) 0)

-- as `step_of`: the answer that an event got on a table
unfoldable pub step_of_seven : Table → List ℕ → Answer
step_of_seven t e =
    cond (not (table_ok t)) (refuse 9 t)
    (cond (not (well_formed_of_seven e)) (refuse 10 t)
    (cond (not (indices_in_range t (code_of e) (first_of e) (second_of e))) (refuse 11 t)
    (event_of t (code_of e) (first_of e) (second_of e))))

-- as `run_of`
unfoldable pub run_of_seven : Table → List (List ℕ) → Table
run_of_seven t [] = t
run_of_seven t (e ∷ es) = run_of_seven (step_of_seven t e).table es

-- as `answers_of`
unfoldable pub answers_of_seven : Table → List (List ℕ) → List ℕ
answers_of_seven t [] = []
answers_of_seven t (e ∷ es) = (step_of_seven t e).number ∷ answers_of_seven (step_of_seven t e).table es

-- no event of the list has code 8
unfoldable pub without_join : List (List ℕ) → Bool
without_join [] = true
without_join (e ∷ es) = not (eqb (code_of e) JOIN) && without_join es

pub record EighthEvent : Type 0 where
  -- code 8 got 10, on a table that was not refused 9
  pub was : (t : Table) (e : List ℕ) → table_ok t ≡ true → code_of e ≡ JOIN → step_of_seven t e ≡ refuse 10 t
  -- every other answer is as it was, number and table, whatever the table and the bytes
  pub other : (t : Table) (e : List ℕ) → code_of e ≢ JOIN → step_of t e ≡ step_of_seven t e
  -- so a list without that code leaves the table that it left, and gets the numbers that it got
  pub run : (t : Table) (es : List (List ℕ)) → without_join es ≡ true → run_of t es ≡ run_of_seven t es
  pub answers : (t : Table) (es : List (List ℕ)) → without_join es ≡ true → answers_of t es ≡ answers_of_seven t es
