-- A table that passes check 9 passes it after any event, accepted or refused, and so along every run; a step of it is what 10, 11 and the event's own
-- refusals make of it.
-- Assumes nothing.
use Prim.Native.Nat.{ℕ}
use mathlib.Core.Path.{◌≡◌, refl}
use mathlib.Core.Bool.{true}
use mathlib.Core.List.{List, [], ◌∷◌}
use Rattle.lists.proofs.Cases.{by_bool}
use Rattle.table.specs.declared.Table.{Table}
use Rattle.table.proofs.Views.{Sized}
use Rattle.validity.specs.Validity.{table_ok}
use Rattle.protocol_preservation.proofs.Ok.{Valid, ok, counts, passes}
use Rattle.protocol_preservation.proofs.Accepted.{valid_admitted, valid_stolen, valid_delivered, valid_started, valid_finished}
use Rattle.protocol_preservation.proofs.Died.{valid_died}
use Rattle.protocol_preservation.proofs.Noticed.{valid_noticed}
use Rattle.protocol_preservation.proofs.Joined.{valid_joined}
use Rattle.dispatcher.specs.Step.{answer_of, step_of, run_of}
use Rattle.dispatcher.proofs.ByEvent.{Preserved, by_step, by_run}

pub valid : (t : Table) → Sized t → table_ok t ≡ true → Valid t
valid t s e = record { sized = s; ok = ok t s e; counts = counts t e }

pub valid_passes : (t : Table) → Valid t → table_ok t ≡ true
valid_passes t v = passes t v.sized v.ok v.counts

-- ---- one event

valid_preserved : Preserved Valid
valid_preserved t e v = record {
  admit = λ c d. valid_admitted t v _ d;
  steal = λ c d. valid_stolen t v _ _ d;
  deliver = λ c d. valid_delivered t v _ d.slot;
  start = λ c d. valid_started t v _ _ d;
  done = λ c d. valid_finished t v _ d;
  die = λ c d. valid_died t v _ d;
  notice = λ c d. valid_noticed t v _ _ d;
  join = λ c d. valid_joined t v _ d;
}

-- a table that passes is not refused for 9
pub step_answer : (t : Table) (e : List ℕ) → table_ok t ≡ true → step_of t e ≡ answer_of t e
unfolding step_of
step_answer t e h = rw (h, step_of) refl

pub valid_step : (t : Table) (e : List ℕ) → Valid t → Valid (step_of t e).table
valid_step t e v = by_step Valid valid_preserved t v e

-- lengths are kept also where the table does not pass, since it is then handed back
pub step_sized : (t : Table) (e : List ℕ) → Sized t → Sized (step_of t e).table
unfolding step_of
step_sized t e s =
    by_bool (table_ok t)
    (λ h. (valid_step t e (valid t s h)).sized)
    (λ h. rw (h, step_of) s)

pub step_ok : (t : Table) (e : List ℕ) → Sized t → table_ok t ≡ true → table_ok (step_of t e).table ≡ true
step_ok t e s h = valid_passes _ (valid_step t e (valid t s h))

-- ---- a list of events, the refused ones too

pub valid_run : (t : Table) (es : List (List ℕ)) → Valid t → Valid (run_of t es)
valid_run t es v = by_run Valid valid_preserved t es v

pub run_sized : (t : Table) (es : List (List ℕ)) → Sized t → Sized (run_of t es)
unfolding run_of
run_sized t [] s = s
run_sized t (e ∷ es) s = run_sized (step_of t e).table es (step_sized t e s)

pub run_ok : (t : Table) (es : List (List ℕ)) → Sized t → table_ok t ≡ true → table_ok (run_of t es) ≡ true
run_ok t es s h = valid_passes _ (valid_run t es (valid t s h))

-- in a run from a table that passes, every event is answered by 10, 11 and its own refusals alone
pub run_answer : (t : Table) (es : List (List ℕ)) (e : List ℕ) → Sized t → table_ok t ≡ true → step_of (run_of t es) e ≡ answer_of (run_of t es) e
run_answer t es e s h = step_answer (run_of t es) e (run_ok t es s h)
