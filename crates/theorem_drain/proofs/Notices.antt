-- At most 15 notices to the root: after them it was told of every dead machine of the table's machine count.
-- Assumes nothing.
use mathlib.Core.Path.{◌≡◌, refl, ap, ◌∙◌}
use mathlib.Core.Logic.{◌≢◌}
use Prim.Native.Nat.{ℕ, suc, ◌≤◌, ◌<◌}
use native.Mathlib.Omega.{arith}
use lib.Dec.{ltb}
use borrow.Author.Tests.{ltb-true, ltb-false}
use Rattle.table.specs.declared.Table.{Table}
use Rattle.table.specs.Views.{machine_at, told_at}
use Rattle.table.specs.Parts.{accept}
use Rattle.event_notice.specs.Notice.{notice_local, noticed}
use Rattle.lists.proofs.Cases.{by_bool, by_eq}
use Rattle.theorem_invariant.proofs.State.{Invariant}
use Rattle.dispatcher.proofs.Fixed.{fixed_machine_count, fixed_noticed}
use Rattle.theorem_invariant.proofs.NoticeLocal.{told_notice_local, told_notice_local_other}
use Rattle.theorem_invariant.proofs.Alive.{alive_noticed}
use Rattle.theorem_invariant.proofs.Reissued.{told_reissue}
use Rattle.dispatcher.specs.Codes.{NOTICE}
use Rattle.dispatcher.specs.Step.{event, step_of}
use Rattle.theorem_drain.proofs.Reach.{Reach, reach_here, reach_step, reach_loop}
use Rattle.theorem_drain.proofs.Steps.{accepts_notice}
use Rattle.theorem_drain.proofs.AcceptedInvariant.{accepted_invariant}

-- ---- the table after a notice to the root

module _ (t : Table) (b : ℕ) (w : Invariant t) where
  told_noticed : b < 16 → told_at (noticed t 0 b) 0 b ≡ 1
  unfolding noticed
  told_noticed bl = told_reissue (notice_local t 0 b) b 0 b ∙ told_notice_local t 0 b w.sized (omega arith) bl

  told_noticed_other : (d : ℕ) → b < 16 → d < 16 → d ≢ b → told_at (noticed t 0 b) 0 d ≡ told_at t 0 d
  unfolding noticed
  told_noticed_other d bl dl e = told_reissue (notice_local t 0 b) b 0 d ∙ told_notice_local_other t 0 b 0 d bl dl e

-- the root was told of every dead machine up to k
pub record Told (k : ℕ) (t : Table) : Type 0 where
  pub invariant : Invariant t
  pub told : (d : ℕ) → d ≤ k → d < t.machine_count → (machine_at t d).alive ≢ 1 → told_at t 0 d ≢ 0

told_start_lem : (t : Table) → Invariant t → Told 0 t
told_start_lem t w =
    record { invariant = w; told = λ d l m g. let z : d ≡ 0 = omega arith in absurd (g (ap (λ (i : ℕ). (machine_at t i).alive) z ∙ w.facts.root)) }

-- one machine more
one : (k : ℕ) (t : Table) → k < 15 → Told k t → Reach (Told (suc k)) t 1
one k t kl h =
    let w = h.invariant in
    let b = suc k in
    let here : ((d : ℕ) → d ≡ b → d < t.machine_count → (machine_at t d).alive ≢ 1 → told_at t 0 d ≢ 0) → Reach (Told (suc k)) t 1 = λ f.
    reach_here (Told (suc k)) t 1 (record { invariant = w; told = λ d l. by_eq d b (f d) (λ e. h.told d (omega arith)) }) in
    by_bool (ltb b t.machine_count)
    (λ c. let bl : b < t.machine_count = ltb-true b t.machine_count c in by_eq (machine_at t b).alive 1
    (λ e. here (λ d q l g. absurd (g (ap (λ (i : ℕ). (machine_at t i).alive) q ∙ e))))
    (λ gone. by_eq (told_at t 0 b) 0
    (λ e.
    let u = noticed t 0 b in
    let step : step_of t (event NOTICE 0 b) ≡ accept u = accepts_notice t w b bl gone e in
    let same : u.machine_count ≡ t.machine_count = fixed_noticed (λ v. v.machine_count) fixed_machine_count t 0 b in
    reach_step (Told (suc k)) t u (event NOTICE 0 b) 0 step refl
    (reach_here (Told (suc k)) u 0 (record {
      invariant = accepted_invariant t u (event NOTICE 0 b) w step;
      told = λ d l m g. by_eq d b
          (λ q. rw (q, told_noticed t b w (omega arith)) (λ z. omega arith))
          (λ q. rw (told_noticed_other t b w d (omega arith) (omega arith) q)
          (h.told d (omega arith) (omega arith) (λ a. g (alive_noticed t 0 b d ∙ a))));
    })))
    (λ e. here (λ d q l g. rw q e))))
    (λ c. let out : t.machine_count ≤ b = ltb-false b t.machine_count c in here (λ d q l. absurd (omega arith)))

pub notices : (t : Table) → Invariant t → Reach (Told 15) t 15
notices t w = reach_loop Told 1 15 (λ k u. one k u) t (told_start_lem t w)
