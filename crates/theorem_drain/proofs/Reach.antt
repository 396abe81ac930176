-- "A list of at most n further events, each answered 0 and each a Deliver, Start, Done or Notice, leads from t to a table of which P holds": put
-- together from parts.
-- Assumes nothing.
use mathlib.Core.Path.{◌≡◌, ap}
use mathlib.Core.Bool.{true}
use mathlib.Core.List.{List, [], ◌∷◌, ◌++◌}
use Prim.Native.Nat.{ℕ, zero, suc, ◌+◌, ◌*◌, ◌≤◌, ◌<◌}
use native.Mathlib.Omega.{arith}
use native.Mathlib.Nat.{suc-mul}
use lib.ListN.{length, length-append}
use Rattle.table.specs.declared.Table.{Table}
use Rattle.table.specs.declared.Answer.{Answer}
use Rattle.table.specs.Parts.{accept}
use Rattle.dispatcher.specs.Step.{step_of, run_of, is_further}
use Rattle.dispatcher.proofs.Runs.{run_append}

-- each event is a further one and is answered 0
abbrev pub Accepted : Table → List (List ℕ) → Type 0
Accepted t [] = Unit {0}
Accepted t (e ∷ es) = (is_further e ≡ true) × ((step_of t e).number ≡ 0) × Accepted (step_of t e).table es

pub record Reach (P : Table → Type 0) (t : Table) (n : ℕ) : Type 0 where
  pub events : List (List ℕ)
  pub few : length events ≤ n
  pub accepted : Accepted t events
  pub there : P (run_of t events)

-- ---- one list after another

pub accepted_append : (t : Table) (es fs : List (List ℕ)) → Accepted t es → Accepted (run_of t es) fs → Accepted t (es ++ fs)
unfolding run_of
accepted_append t [] fs a b = b
accepted_append t (e ∷ es) fs a b = (a.0, a.1, accepted_append (step_of t e).table es fs a.2 b)

-- ---- the parts

module _ (P : Table → Type 0) where
  -- no event
  pub reach_here : (t : Table) (n : ℕ) → P t → Reach P t n
  unfolding run_of
  reach_here t n p = record { events = []; few = omega arith; accepted = tt; there = p }

  -- an accepted event first
  pub reach_step : (t u : Table) (e : List ℕ) (n : ℕ) → step_of t e ≡ accept u → is_further e ≡ true → Reach P u n → Reach P t (suc n)
  unfolding run_of
  reach_step t u e n s f r =
      let next : (step_of t e).table ≡ u = ap (λ (a : Answer). a.table) s in
      record {
        events = e ∷ r.events;
        few = omega (arith, r.few);
        accepted = (f, ap (λ (a : Answer). a.number) s, rw next r.accepted);
        there = rw next r.there;
      }

  -- a table of which Q holds is one of which P holds
  pub reach_map : (Q : Table → Type 0) (t : Table) (n : ℕ) → ((u : Table) → Q u → P u) → Reach Q t n → Reach P t n
  reach_map Q t n f r = record { events = r.events; few = r.few; accepted = r.accepted; there = f (run_of t r.events) r.there }

  -- first to a table of which Q holds
  pub reach_then : (Q : Table → Type 0) (t : Table) (n m : ℕ) → Reach Q t n → ((u : Table) → Q u → Reach P u m) → Reach P t (n + m)
  reach_then Q t n m a f =
      let b : Reach P (run_of t a.events) m = f (run_of t a.events) a.there in
      record {
        events = a.events ++ b.events;
        few = simp length-append (omega (arith, a.few, b.few));
        accepted = accepted_append t a.events b.events a.accepted b.accepted;
        there = rw (run_append t a.events b.events) b.there;
      }

-- n turns of at most c events each
pub reach_loop : (Q : ℕ → Table → Type 0) (c n : ℕ) → ((k : ℕ) (u : Table) → k < n → Q k u → Reach (Q (suc k)) u c) → (t : Table) → Q 0 t
    → Reach (Q n) t (n * c)
reach_loop Q c zero f t q = reach_here (Q 0) t (0 * c) q
reach_loop Q c (suc n) f t q =
    rw suc-mul (reach_then (Q (suc n)) (Q n) t (n * c) c (reach_loop Q c n (λ k u h. f k u (omega arith)) t q) (λ u p. f n u (omega arith) p))
