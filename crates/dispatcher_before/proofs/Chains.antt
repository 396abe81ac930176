-- A steal by cases: its number before request 2.5, since then, and today, with what the refusals before have tested. Assumes nothing.
use Prim.Native.Nat.{ℕ, ◌≤◌}
use mathlib.Core.Path.{◌≡◌}
use mathlib.Core.Logic.{◌≢◌}
use mathlib.Core.Bool.{not}
use borrow.Author.Tests.{eqb-true, eqb-false, leb-true, not-true, not-false}
use lib.Dec.{eqb, leb}
use Rattle.lists.proofs.Cases.{by_bool, and_false}
use Rattle.table.specs.declared.Machine.{Machine}
use Rattle.event_steal.specs.Steal.{steal_number}
use Rattle.dispatcher_before.specs.Before.{steal_number_before, steal_number_since}

-- P of the three numbers, where the thief a is n, the victim b is v, and flag what a was told of b
pub record Steals (n v : Machine) (flag used a b : ℕ) (P : ℕ → ℕ → ℕ → Type 0) : Type 0 where
  pub dead : P 12 12 12
  pub same : n.alive ≡ 1 → a ≡ b → P 14 14 14
  pub waits : n.alive ≡ 1 → a ≢ b → n.waits ≢ 0 → P 14 24 24
  pub told : n.alive ≡ 1 → a ≢ b → n.waits ≡ 0 → flag ≢ 0 → P 14 25 25
  pub full : P 16 16 16
  pub through : n.alive ≡ 1 → n.waits ≡ 0 → flag ≡ 0 → v.alive ≢ 1 → 128 ≤ used → P 16 16 0
  pub accepted : P 0 0 0

pub by_chains : (n v : Machine) (flag used a b : ℕ) (P : ℕ → ℕ → ℕ → Type 0) → Steals n v flag used a b P
    → P (steal_number_before n v flag used a b) (steal_number_since n v flag used a b) (steal_number n v flag used a b)
unfolding steal_number_before steal_number_since steal_number
by_chains n v flag used a b P r =
    by_bool (not (eqb n.alive 1)) (λ e. rw e r.dead)
    (λ e1. let l = eqb-true n.alive 1 (not-false _ e1) in
    by_bool (eqb a b) (λ e. rw (e1, e) (r.same l (eqb-true a b e)))
    (λ e2. let d = eqb-false a b e2 in
    by_bool (not (eqb n.waits 0)) (λ e. rw (e1, e2, e) (r.waits l d (eqb-false n.waits 0 (not-true _ e))))
    (λ e3. let w = eqb-true n.waits 0 (not-false _ e3) in
    by_bool (not (eqb flag 0)) (λ e. rw (e1, e2, e3, e) (r.told l d w (eqb-false flag 0 (not-true _ e))))
    (λ e4. let u = eqb-true flag 0 (not-false _ e4) in
    by_bool (leb 128 used)
    (λ e5. by_bool (eqb v.alive 1) (λ e. rw (e1, e2, e3, e4, e5, e) r.full)
    (λ e. rw (e1, e2, e3, e4, e5, e) (r.through l w u (eqb-false v.alive 1 e) (leb-true 128 used e5))))
    (λ e5. rw (e1, e2, e3, e4, e5, and_false (eqb v.alive 1)) r.accepted)))))
