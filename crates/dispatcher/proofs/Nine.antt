-- Refusal 9 is answered to a table that does not pass check 9 and to no other: so never in a run from a table that passes.
-- Assumes nothing.
use Prim.Native.Nat.{ℕ}
use mathlib.Core.Path.{◌≡◌, refl}
use mathlib.Core.Logic.{◌≢◌}
use mathlib.Core.Bool.{true, false}
use mathlib.Core.List.{List}
use Rattle.table.specs.declared.Table.{Table}
use Rattle.table.specs.Views.{refuse}
use Rattle.table.proofs.Views.{Sized}
use Rattle.validity.specs.Validity.{table_ok}
use Rattle.dispatcher.specs.Step.{step_of, run_of}
use Rattle.dispatcher.proofs.Events.{answer_9}
use Rattle.dispatcher.proofs.Preserved.{run_answer}

pub step_9 : (t : Table) (e : List ℕ) → table_ok t ≡ false → step_of t e ≡ refuse 9 t
unfolding step_of
step_9 t e h = rw (h, step_of) refl

pub run_9 : (t : Table) (es : List (List ℕ)) (e : List ℕ) → Sized t → table_ok t ≡ true → (step_of (run_of t es) e).number ≢ 9
run_9 t es e s h = rw (run_answer t es e s h) (answer_9 (run_of t es) e)
