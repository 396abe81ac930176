-- One event on a table that passes check 9, by what its bytes ask for; and as a list of events: three bytes, of however many. Assumes nothing.
use Prim.Native.Nat.{ℕ, ◌≤◌, ◌<◌}
use mathlib.Core.Path.{◌≡◌, ap, ◌∙◌}
use mathlib.Core.Bool.{true, false}
use mathlib.Core.List.{List, [], ◌∷◌, ◌++◌}
use native.Mathlib.Omega.{arith}
use lib.ListN.{length, get_or, take}
use Rattle.std.proofs.Common.{Ok, Err}
use Rattle.refusal.specs.declared.Refusal.{Refusal}
use Rattle.refusal.specs.Numbers.{number_of as refusal_number}
use lib.Seq.{take_all, length-take-le}
use Rattle.lists.specs.Scan.{tabulate}
use Rattle.table.specs.declared.Table.{Table}
use Rattle.table.specs.Views.{refuse}
use Rattle.validity.specs.Validity.{table_ok}
use Rattle.dispatcher.specs.Events.{bytes_most, event_at, event_count, events_in}
use Rattle.dispatcher.specs.declared.Ask.{Ask}
use Rattle.dispatcher.specs.Apply.{Passed}
use Rattle.dispatcher.specs.EventParts.{Asked, asked_event, ask_of}
use Rattle.dispatcher.specs.Step.{answer_of, step_of, run_of, answers_of}
use Rattle.dispatcher.proofs.Form.{well_formed_is, well_formed_short}
use Rattle.dispatcher.proofs.Preserved.{step_answer}
use Rattle.dispatcher.proofs.OnTable.{ask_refused, ask_accepted}

module _ (t : Table) (p : Passed t) (e : List ℕ) where
  pub not_asked : (r : Refusal) → ask_of t.machine_count t.entry_count e ≡ Err r → step_of t e ≡ refuse (refusal_number r) t
  not_asked r h = step_answer t e p.ok ∙ ask_refused t e r h

  pub is_asked : (q : Ask) → ask_of t.machine_count t.entry_count e ≡ Ok q → Asked t q × (step_of t e ≡ asked_event t q)
  is_asked q h = let k = ask_accepted t e q h in (k.0, step_answer t e p.ok ∙ k.1)

-- an event is its first three bytes
first_three : (t : Table) (e : List ℕ) → 3 ≤ length e → step_of t (take 3 e) ≡ step_of t e
unfolding step_of answer_of
first_three t [] h = absurd (omega arith)
first_three t (a ∷ []) h = absurd (omega arith)
first_three t (a ∷ b ∷ []) h = absurd (omega arith)
first_three t (a ∷ b ∷ c ∷ r) h = rw (well_formed_is (a ∷ b ∷ c ∷ []) (omega arith), well_formed_is (a ∷ b ∷ c ∷ r) h)

module _ (e : List ℕ) (h : length e ≡ 3) where
  one_count : event_count e ≡ 1
  one_count = rw h

  one_event : events_in e ≡ e ∷ []
  unfolding events_in tabulate event_at
  one_event = rw h (ap (λ (x : List ℕ). x ∷ []) (take_all 3 e (omega arith)))

three : (e : List ℕ) → 3 ≤ length e → length (take 3 e) ≡ 3
three e h = length-take-le 3 e h

pub three_bytes : (e : List ℕ) → 3 ≤ length e → (length (take 3 e) ≤ bytes_most) × (event_count (take 3 e) ≤ 1)
three_bytes e h = (omega (arith, three e h), rw (one_count (take 3 e) (three e h)) (omega arith))

-- ---- a step, by the ways in which it is answered

module _ (t : Table) (e : List ℕ) where
  pub step_nine : table_ok t ≡ false → refuse 9 t ≡ step_of t e
  unfolding step_of
  step_nine f = rw f

  pub step_short : table_ok t ≡ true → length e < 3 → refuse 10 t ≡ step_of t e
  unfolding step_of answer_of
  step_short f h = rw (f, well_formed_short e h)

  -- a run of the first three bytes
  pub step_run : 3 ≤ length e → (u : Table) (l d : List ℕ) → u ≡ run_of t (events_in (take 3 e)) → l ≡ answers_of t (events_in (take 3 e)) ++ d
      → record { number = get_or l 0 0; table = u } ≡ step_of t e
  unfolding run_of answers_of
  step_run h u l d p q = rw (p, q, one_event (take 3 e) (three e h)) (first_three t e h)
