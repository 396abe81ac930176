-- The answers before event 8 and today's; the claim is in specs/SevenEvents.antt. Assumes nothing.
use Prim.Native.Nat.{ℕ}
use mathlib.Core.Path.{◌≡◌, refl, ap, ◌∙◌}
use mathlib.Core.Logic.{◌≢◌}
use mathlib.Core.Bool.{true, not, ◌&&◌, ◌||◌, or-false}
use mathlib.Core.List.{List, [], ◌∷◌}
use native.Mathlib.Omega.{arith}
use borrow.Author.Tests.{eqb-false, not-true, ne_eqb, leb-true, leb-false, le-leb, lt-leb}
use lib.Dec.{eqb, leb}
use lib.ListN.{length}
use Rattle.lists.proofs.Cases.{by_bool, and_left, and_right, and_false}
use Rattle.table.specs.declared.Table.{Table}
use Rattle.table.specs.declared.Answer.{Answer}
use Rattle.table.specs.Views.{refuse}
use Rattle.validity.specs.Validity.{table_ok}
use Rattle.dispatcher.specs.Codes.{ADMIT, DONE, DIE, NOTICE, JOIN, last_code}
use Rattle.dispatcher.specs.Step.{code_of, well_formed, answer_of, step_of, run_of, answers_of}
use Rattle.dispatcher_before.specs.SevenEvents.{well_formed_of_seven, step_of_seven, run_of_seven, answers_of_seven, without_join, EighthEvent}

was : (t : Table) (e : List ℕ) → table_ok t ≡ true → code_of e ≡ JOIN → step_of_seven t e ≡ refuse 10 t
unfolding step_of_seven well_formed_of_seven
was t e ok c = rw (ok, c, and_false (leb 3 (length e) && true))

-- a code that is not 8 is at most 7 where it is at most 8
same_codes : (code : ℕ) → code ≢ JOIN → leb code last_code ≡ leb code NOTICE
same_codes code n =
    by_bool (leb code NOTICE)
    (λ e. let l = leb-true code NOTICE e in rw e (le-leb code last_code (omega arith)))
    (λ e. let l = leb-false code NOTICE e in rw e (lt-leb code last_code (omega arith)))

same_form : (e : List ℕ) → code_of e ≢ JOIN → well_formed e ≡ well_formed_of_seven e
unfolding well_formed well_formed_of_seven
same_form e n = rw (same_codes (code_of e) n, ne_eqb (code_of e) JOIN n, or-false (eqb (code_of e) ADMIT || eqb (code_of e) DONE || eqb (code_of e) DIE))

other : (t : Table) (e : List ℕ) → code_of e ≢ JOIN → step_of t e ≡ step_of_seven t e
unfolding step_of answer_of step_of_seven
other t e n = rw (same_form e n)

-- ---- lists

module _ (e : List ℕ) (es : List (List ℕ)) (h : without_join (e ∷ es) ≡ true) where
  first : code_of e ≢ JOIN
  unfolding without_join
  first = eqb-false (code_of e) JOIN (not-true _ (and_left (not (eqb (code_of e) JOIN)) (without_join es) h))

  rest : without_join es ≡ true
  unfolding without_join
  rest = and_right (not (eqb (code_of e) JOIN)) (without_join es) h

run : (t : Table) (es : List (List ℕ)) → without_join es ≡ true → run_of t es ≡ run_of_seven t es
unfolding run_of run_of_seven
run t [] h = refl
run t (e ∷ es) h = ap (λ (x : Answer). run_of x.table es) (other t e (first e es h)) ∙ run (step_of_seven t e).table es (rest e es h)

answers : (t : Table) (es : List (List ℕ)) → without_join es ≡ true → answers_of t es ≡ answers_of_seven t es
unfolding answers_of answers_of_seven
answers t [] h = refl
answers t (e ∷ es) h =
    ap (λ (x : Answer). x.number ∷ answers_of x.table es) (other t e (first e es h))
    ∙ ap (λ (l : List ℕ). (step_of_seven t e).number ∷ l) (answers (step_of_seven t e).table es (rest e es h))

pub eighth_event : EighthEvent
eighth_event = record { was = was; other = other; run = run; answers = answers }
