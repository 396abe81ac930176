-- The events of s, of which the first k have been run. Assumes nothing.
use Prim.Native.Nat.{ℕ, suc, ◌+◌, ◌<◌}
use mathlib.Core.Path.{◌≡◌, refl, sym, ap, ◌∙◌}
use mathlib.Core.List.{List, [], ◌∷◌, ◌++◌, append_assoc}
use native.Mathlib.Numerals.{add-one}
use lib.ListN.{length, drop, set}
use lib.Seq.{drop-cons, set_at}
use Rattle.lists.specs.Scan.{tabulate}
use Rattle.lists.proofs.Scans.{length_tabulate, tabulate_next}
use Rattle.table.specs.declared.Table.{Table}
use Rattle.dispatcher.specs.Step.{step_of, run_of, answers_of}
use Rattle.dispatcher.specs.Events.{event_at, event_count, events_in}
use Rattle.dispatcher.proofs.Runs.{run_append, answers_append, answers_length}

-- ---- a list with one event more at its end

pub run_last : (t : Table) (es : List (List ℕ)) (e : List ℕ) → run_of t (es ++ (e ∷ [])) ≡ (step_of (run_of t es) e).table
unfolding run_of
run_last t es e = run_append t es (e ∷ [])

pub answers_last : (t : Table) (es : List (List ℕ)) (e : List ℕ)
    → answers_of t (es ++ (e ∷ [])) ≡ answers_of t es ++ ((step_of (run_of t es) e).number ∷ [])
unfolding run_of answers_of
answers_last t es e = answers_append t es (e ∷ [])

-- ---- in a loop

-- the first k events of s have been run from t, and their numbers stand at the front of the buffer d, which is now e
pub record Turn (t : Table) (s d : List ℕ) (k : ℕ) (u : Table) (e : List ℕ) : Type 0 where
  pub table : u ≡ run_of t (tabulate (event_at s) k)
  pub numbers : e ≡ answers_of t (tabulate (event_at s) k) ++ drop k d

module _ (t : Table) (s d : List ℕ) where
  pub turn_none : Turn t s d 0 t d
  unfolding tabulate run_of answers_of
  turn_none = record { table = refl; numbers = refl }

  pub turn_more : (k : ℕ) (u : Table) (e : List ℕ) (v : Table) (n : ℕ) → Turn t s d k u e → k < length d
      → v ≡ (step_of u (event_at s k)).table → n ≡ (step_of u (event_at s k)).number → Turn t s d (k + 1) v (set e k n)
  turn_more k u e v n p h q r =
      let es = tabulate (event_at s) k in
      let b = event_at s k in
      let l : length (answers_of t es) ≡ k = answers_length t es ∙ length_tabulate (event_at s) 0 [] k in
      let w : n ≡ (step_of (run_of t es) b).number = r ∙ ap (λ (x : Table). (step_of x b).number) p.table in
      record {
        table = q ∙ ap (λ (x : Table). (step_of x b).table) p.table ∙ sym (run_last t es b) ∙ ap (run_of t) (sym (tabulate_next (event_at s) k));
        numbers =
            ap (λ (x : List ℕ). set x k n) (p.numbers ∙ ap (λ (x : List ℕ). answers_of t es ++ x) (drop-cons d k 0 h))
            ∙ set_at (answers_of t es) _ (drop (suc k) d) n k l
            ∙ ap (λ (x : ℕ). answers_of t es ++ x ∷ drop (suc k) d) w
            ∙ sym (append_assoc (answers_of t es) ((step_of (run_of t es) b).number ∷ []) (drop (suc k) d))
            ∙ ap (λ (x : List ℕ). x ++ drop (suc k) d) (sym (answers_last t es b) ∙ ap (answers_of t) (sym (tabulate_next (event_at s) k)))
            ∙ ap (λ (x : ℕ). answers_of t (tabulate (event_at s) (k + 1)) ++ drop x d) (sym (add-one k));
      }

  pub turn_end : (k : ℕ) (u : Table) (e : List ℕ) → k ≡ event_count s → Turn t s d k u e
      → (u ≡ run_of t (events_in s)) × (e ≡ answers_of t (events_in s) ++ drop (event_count s) d)
  unfolding events_in
  turn_end k u e h p = (rw h at p.table, rw h at p.numbers)
