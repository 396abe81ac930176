-- At most 640 deliveries, as many as the messages in flight weigh: after them nothing is in flight.
-- Assumes nothing.
use mathlib.Core.Path.{◌≡◌, refl, ap, ◌∙◌}
use mathlib.Core.Logic.{◌≢◌}
use mathlib.Core.List.{List, [], ◌∷◌}
use Prim.Native.Nat.{ℕ, zero, suc, ◌+◌, ◌≤◌, ◌<◌}
use native.Mathlib.Omega.{arith}
use native.Mathlib.Nat.{not-suc-le-zero}
use lib.ListN.{length, get_or, take}
use Rattle.table.specs.declared.Message.{Message}
use Rattle.table.specs.declared.Table.{Table}
use Rattle.table.specs.Views.{no_message, machine_at, told_at, message_at, flight}
use Rattle.table.specs.Messages.{remove_at}
use Rattle.table.specs.Parts.{accept}
use Rattle.table.proofs.Views.{length_flight}
use Rattle.table.proofs.Messages.{flight_remove_at, message_flight}
use Rattle.event_admit_deliver_die.specs.AdmitDeliverDie.{delivered}
use Rattle.lists.specs.Scan.{without}
use Rattle.lists.proofs.Cases.{by_eq}
use Rattle.theorem_invariant.proofs.State.{Invariant}
use Rattle.theorem_invariant.proofs.Received.{received}
use Rattle.theorem_invariant.proofs.Alive.{alive_delivered, told_delivered}
use Rattle.dispatcher.proofs.Fixed.{fixed_machine_count, fixed_delivered}
use Rattle.dispatcher.specs.Codes.{DELIVER}
use Rattle.dispatcher.specs.Step.{event, step_of}
use Rattle.theorem_drain.proofs.Reach.{Reach, reach_here, reach_step}
use Rattle.theorem_drain.proofs.Steps.{accepts_deliver}
use Rattle.theorem_drain.proofs.AcceptedInvariant.{accepted_invariant}
use Rattle.theorem_drain.proofs.Weights.{weight, weight_of, weight_range, weight_most, lighter}

-- the root was told of every dead machine
abbrev pub Informed : Table → Type 0
Informed t = (d : ℕ) → d < t.machine_count → (machine_at t d).alive ≢ 1 → told_at t 0 d ≢ 0

pub informed_same : (t u : Table) → u.machine_count ≡ t.machine_count → ((m : ℕ) → (machine_at u m).alive ≡ (machine_at t m).alive)
    → ((m d : ℕ) → told_at u m d ≡ told_at t m d) → Informed t → Informed u
informed_same t u mc al tl i d l g = rw (tl 0 d) (i d (rw mc at l) (λ e. g (al d ∙ e)))

-- and nothing is in flight
pub record Drained (t : Table) : Type 0 where
  pub invariant : Invariant t
  pub informed : Informed t
  pub empty : t.in_flight ≡ 0

pub flight_empty : (t : Table) → t.in_flight ≡ 0 → flight t ≡ []
unfolding flight
flight_empty t e = ap (λ (n : ℕ). take n t.messages) e

-- ---- the first message is delivered

weight_first : (l : List Message) → 0 < length l → weight_of (get_or l 0 no_message).kind + weight (without 0 l) ≡ weight l
unfolding without
weight_first [] h = absurd (not-suc-le-zero h)
weight_first (x ∷ xs) h = refl

module _ (t : Table) (w : Invariant t) (h : 0 < t.in_flight) where
  first_weight : weight_of (message_at t 0).kind + weight (flight (remove_at t 0)) ≡ weight (flight t)
  first_weight =
      let n = length_flight t w.sized in
      rw (flight_remove_at t w.sized 0 h, ← message_flight t w.sized 0 h) (weight_first (flight t) (omega arith))

  next_lighter : weight (flight (delivered t 0)) < weight (flight t)
  unfolding delivered
  next_lighter = omega (arith, first_weight, lighter (remove_at t 0) (message_at t 0) (received t 0 w h))

  next_informed : Informed t → Informed (delivered t 0)
  next_informed =
      informed_same t (delivered t 0) (fixed_delivered (λ v. v.machine_count) fixed_machine_count t 0) (alive_delivered t 0) (told_delivered t 0)

deliveries : (n : ℕ) (t : Table) → Invariant t → Informed t → weight (flight t) ≤ n → Reach Drained t n
deliveries zero t w i h =
    by_eq t.in_flight 0
    (λ e. reach_here Drained t 0 (record { invariant = w; informed = i; empty = e }))
    (λ e. absurd (omega (arith, first_weight t w (omega arith), (weight_range (message_at t 0).kind).0)))
deliveries (suc n) t w i h =
    by_eq t.in_flight 0
    (λ e. reach_here Drained t (suc n) (record { invariant = w; informed = i; empty = e }))
    (λ e.
    let some : 0 < t.in_flight = omega arith in
    let x = message_at t 0 in
    let u = delivered t 0 in
    let step : step_of t (event DELIVER x.from x.to) ≡ accept u = accepts_deliver t w some in
    reach_step Drained t u (event DELIVER x.from x.to) n step refl
    (deliveries n u (accepted_invariant t u (event DELIVER x.from x.to) w step) (next_informed t w some i)
    (omega (arith, next_lighter t w some))))

pub deliveries_640 : (t : Table) → Invariant t → Informed t → Reach Drained t 640
deliveries_640 t w i = deliveries 640 t w i (omega (arith, weight_most (flight t), length_flight t w.sized, w.sized.used))
