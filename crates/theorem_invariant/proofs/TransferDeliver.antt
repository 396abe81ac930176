-- Clauses R, O, N, H and S through Deliver: the message is taken off, and its handler keeps the clauses.
-- Assumes nothing.
use mathlib.Core.List.{◌∷◌}
use Prim.Native.Nat.{ℕ, ◌≤◌, ◌<◌}
use Rattle.table.specs.declared.Message.{Message}
use Rattle.table.specs.declared.Table.{Table}
use Rattle.table.specs.Views.{job_at, machine_at, message_at, flight}
use Rattle.table.specs.Messages.{remove_at}
use Rattle.table.proofs.Views.{views}
use Rattle.handler.specs.Handler.{handle}
use Rattle.event_admit_deliver_die.specs.AdmitDeliverDie.{delivered}
use Rattle.theorem_invariant.proofs.State.{Transfer, ReservationMatched, Received, Invariant}
use Rattle.theorem_invariant.proofs.Received.{received}
use Rattle.handler.proofs.Cases.{by_kind}
use Rattle.theorem_invariant.proofs.ReservationFrame.{reservation_takes}
use Rattle.theorem_invariant.proofs.TransferSend.{transfer_takes}
use Rattle.theorem_invariant.proofs.TransferAnswers.{TransferNow, transfer_auth, transfer_denied, transfer_obsolete}
use Rattle.theorem_invariant.proofs.TransferPools.{transfer_fish, transfer_schedule, transfer_nowork}
use Rattle.theorem_invariant.proofs.TransferPlaces.{transfer_req, transfer_ack, transfer_result}

module _ (s : Table) (x : Message) (h : Received s x) (c : ReservationMatched s (x ∷ flight s))
    (cap : (m : ℕ) → m < 16 → (machine_at s m).reserved_replica ≤ (job_at s (machine_at s m).reserved_job).replica)
    (g : Transfer s (x ∷ flight s)) where
  transfer_handle : TransferNow (handle s x)
  transfer_handle =
      by_kind TransferNow s x (λ n. absurd (n h.message.kind_least h.message.kind_most))
      (transfer_fish s x h g) (transfer_req s x h g) (transfer_auth s x h c cap g) (transfer_denied s x h c cap g) (transfer_obsolete s x h c cap g)
      (transfer_schedule s x h g) (transfer_ack s x h g) (transfer_nowork s x h g) (transfer_result s x h g)

pub transfer_delivered : (t : Table) (k : ℕ) → Invariant t → k < t.in_flight → TransferNow (delivered t k)
unfolding delivered remove_at
transfer_delivered t k w l =
    transfer_handle (remove_at t k) (message_at t k) (received t k w l) (reservation_takes t k w.sized l w.reservation)
    (λ m ml. simp views (w.untold.copies m ml).reserved) (transfer_takes t k w.sized l w.transfer)
