-- "Each event of the list is answered 0, and the list leads from t to a table of which P holds": no event, one event more at the front, and one list
-- after another.
-- Assumes nothing.
use Prim.Native.Nat.{ℕ}
use mathlib.Core.Path.{◌≡◌, refl, sym, ap, ◌∙◌}
use mathlib.Core.List.{List, [], ◌∷◌, ◌++◌}
use lib.ListN.{length, replicate, length-append, replicate-append-replicate}
use Rattle.table.specs.declared.Table.{Table}
use Rattle.table.specs.declared.Answer.{Answer}
use Rattle.table.specs.Parts.{accept}
use Rattle.dispatcher.specs.Step.{step_of, run_of, answers_of}
use Rattle.dispatcher.proofs.Runs.{run_append, answers_append}

pub record Leads (P : Table → Type 0) (t : Table) (es : List (List ℕ)) : Type 0 where
  pub accepted : answers_of t es ≡ replicate (length es) 0
  pub there : P (run_of t es)

module _ (P : Table → Type 0) where
  pub leads_here : (t : Table) → P t → Leads P t []
  unfolding answers_of run_of
  leads_here t p = record { accepted = refl; there = p }

  -- an accepted event first
  pub leads_step : (t u : Table) (e : List ℕ) (es : List (List ℕ)) → step_of t e ≡ accept u → Leads P u es → Leads P t (e ∷ es)
  unfolding answers_of run_of
  leads_step t u e es s l =
      let number : (step_of t e).number ≡ 0 = ap (λ (a : Answer). a.number) s in
      let next : (step_of t e).table ≡ u = ap (λ (a : Answer). a.table) s in
      record { accepted = rw (number, next, l.accepted) refl; there = rw next l.there }

  pub leads_one : (t u : Table) (e : List ℕ) → step_of t e ≡ accept u → P u → Leads P t (e ∷ [])
  leads_one t u e s p = leads_step t u e [] s (leads_here u p)

  -- a table of which Q holds is one of which P holds
  pub leads_map : {Q : Table → Type 0} {t : Table} {es : List (List ℕ)} → ((u : Table) → Q u → P u) → Leads Q t es → Leads P t es
  leads_map {Q} {t} {es} f a = record { accepted = a.accepted; there = f (run_of t es) a.there }

-- one list after another
pub leads_then : {P Q : Table → Type 0} {t : Table} {es fs : List (List ℕ)} → Leads Q t es → ((u : Table) → Q u → Leads P u fs) → Leads P t (es ++ fs)
leads_then {P} {Q} {t} {es} {fs} a f =
    let b : Leads P (run_of t es) fs = f (run_of t es) a.there in
    record {
      accepted = answers_append t es fs
          ∙ ap (λ (l : List ℕ). l ++ answers_of (run_of t es) fs) a.accepted
          ∙ ap (λ (l : List ℕ). replicate (length es) 0 ++ l) b.accepted
          ∙ replicate-append-replicate (length es) (length fs) 0
          ∙ ap (λ (n : ℕ). replicate n 0) (sym (length-append es fs));
      there = rw (run_append t es fs) b.there;
    }
