-- Clause C through Deliver: the message is taken off, and its handler keeps the clause.
-- Assumes nothing.
use mathlib.Core.Path.{◌≡◌, refl}
use mathlib.Core.Bool.{true}
use mathlib.Core.List.{◌∷◌}
use Prim.Native.Nat.{ℕ, ◌<◌}
use Rattle.table.specs.declared.Message.{Message}
use Rattle.table.specs.declared.Table.{Table}
use Rattle.table.specs.Views.{message_at, flight}
use Rattle.table.specs.Messages.{remove_at}
use Rattle.table.specs.Parts.{AUTH, DENIED, OBSOLETE}
use Rattle.handler.specs.Handler.{handle}
use Rattle.event_admit_deliver_die.specs.AdmitDeliverDie.{delivered}
use Rattle.theorem_invariant.proofs.State.{ReservationMatched, Received, Invariant, is_answer}
use Rattle.theorem_invariant.proofs.Received.{received}
use Rattle.handler.proofs.Cases.{by_kind}
use Rattle.theorem_invariant.proofs.ReservationFrame.{reservation_takes}
use Rattle.theorem_invariant.proofs.ReservationFish.{reservation_fish}
use Rattle.theorem_invariant.proofs.ReservationAnswers.{reservation_auth, reservation_denied, reservation_obsolete}
use Rattle.theorem_invariant.proofs.ReservationOthers.{reservation_req, reservation_schedule, reservation_ack, reservation_nowork}
use Rattle.theorem_invariant.proofs.ReservationOthers.{reservation_result}

module _ (s : Table) (x : Message) (h : Received s x) (c : ReservationMatched s (x ∷ flight s)) where
  answer : (k : ℕ) → x.kind ≡ k → is_answer k ≡ true → is_answer x.kind ≡ true
  answer k e a = rw e a

  pub reservation_handle : ReservationMatched (handle s x) (flight (handle s x))
  reservation_handle =
      by_kind (λ t. ReservationMatched t (flight t)) s x (λ n. absurd (n h.message.kind_least h.message.kind_most))
      (λ e. reservation_fish s x h e c)
      (λ e. reservation_req s x h c e)
      (λ e. reservation_auth s x h (rw e) (answer AUTH e (unfold is_answer in refl)) c)
      (λ e. reservation_denied s x h (rw e) (answer DENIED e (unfold is_answer in refl)) c)
      (λ e. reservation_obsolete s x h (rw e) (answer OBSOLETE e (unfold is_answer in refl)) c)
      (λ e. reservation_schedule s x h c e)
      (λ e. reservation_ack s x h c e)
      (λ e. reservation_nowork s x h c e)
      (λ e. reservation_result s x h c e)

pub reservation_delivered : (t : Table) (k : ℕ) → Invariant t → k < t.in_flight → ReservationMatched (delivered t k) (flight (delivered t k))
unfolding delivered
reservation_delivered t k w l =
    reservation_handle (remove_at t k) (message_at t k) (received t k w l) (reservation_takes t k w.sized l w.reservation)
