-- Every accepted event keeps the whole invariant, so every step and every run does.
-- Assumes nothing.
use mathlib.Core.List.{List}
use Prim.Native.Nat.{ℕ}
use Rattle.table.specs.declared.Table.{Table}
use Rattle.table.specs.Messages.{oldest}
use Rattle.dispatcher.specs.Step.{first_of, second_of, step_of, run_of}
use Rattle.dispatcher.proofs.ByEvent.{Preserved, by_step, by_run}
use Rattle.protocol_preservation.proofs.Accepted.{valid_admitted, valid_stolen, valid_delivered, valid_started, valid_finished}
use Rattle.protocol_preservation.proofs.Died.{valid_died}
use Rattle.protocol_preservation.proofs.Noticed.{valid_noticed}
use Rattle.protocol_preservation.proofs.Joined.{valid_joined}
use Rattle.theorem_invariant.proofs.State.{Invariant, invariant, valid}
use Rattle.theorem_invariant.proofs.ReservationEvents.{reservation_admitted, reservation_stolen, reservation_started, reservation_finished}
use Rattle.theorem_invariant.proofs.ReservationDeliver.{reservation_delivered}
use Rattle.theorem_invariant.proofs.ReservationDie.{reservation_died}
use Rattle.theorem_invariant.proofs.ReservationNotice.{reservation_noticed}
use Rattle.theorem_invariant.proofs.TransferEvents.{transfer_admitted, transfer_stolen, transfer_started, transfer_finished}
use Rattle.theorem_invariant.proofs.TransferDeliver.{transfer_delivered}
use Rattle.theorem_invariant.proofs.TransferDie.{transfer_died}
use Rattle.theorem_invariant.proofs.TransferNotice.{transfer_noticed}
use Rattle.theorem_invariant.proofs.UntoldEvents.{untold_admitted, untold_stolen, untold_started, untold_finished, untold_died}
use Rattle.theorem_invariant.proofs.UntoldHandle.{untold_delivered}
use Rattle.theorem_invariant.proofs.UntoldNotice.{untold_noticed}
use Rattle.theorem_invariant.proofs.PricesEvents.{prices_admitted, prices_stolen, prices_started, prices_finished, prices_died, prices_noticed}
use Rattle.theorem_invariant.proofs.PricesHandle.{prices_delivered}
use Rattle.theorem_invariant.proofs.Joined.{reservation_joined, transfer_joined, untold_joined, prices_joined}

pub invariant_preserved : Preserved Invariant
invariant_preserved t e w =
    let a = first_of e in
    let b = second_of e in
    let v = valid t w in
    record {
      admit = λ c d.
          invariant _ (valid_admitted t v a d) (reservation_admitted t w a) (transfer_admitted t w a d) (untold_admitted t w a d)
          (prices_admitted t w a d);
      steal = λ c d.
          invariant _ (valid_stolen t v a b d) (reservation_stolen t w a b d) (transfer_stolen t w a b d) (untold_stolen t w a b d)
          (prices_stolen t w a b d);
      deliver = λ c d.
          let k = oldest t a b in
          let l = d.slot in
          invariant _ (valid_delivered t v k l) (reservation_delivered t k w l) (transfer_delivered t k w l)
          (untold_delivered t k w l) (prices_delivered t k w l);
      start = λ c d.
          invariant _ (valid_started t v a b d) (reservation_started t w a b) (transfer_started t w a b d)
          (untold_started t w a b d) (prices_started t w a b);
      done = λ c d.
          invariant _ (valid_finished t v a d) (reservation_finished t w a d) (transfer_finished t w a d) (untold_finished t w a d)
          (prices_finished t w a d);
      die = λ c d.
          invariant _ (valid_died t v a d) (reservation_died t w a d) (transfer_died t w a d) (untold_died t w a d) (prices_died t w a);
      notice = λ c d.
          invariant _ (valid_noticed t v a b d) (reservation_noticed t w a b d) (transfer_noticed t w a b d) (untold_noticed t w a b d)
          (prices_noticed t w a b);
      join = λ c d.
          invariant _ (valid_joined t v a d) (reservation_joined t w a d) (transfer_joined t w a d) (untold_joined t w a d) (prices_joined t w a d);
    }

-- any event, accepted or refused
pub invariant_step : (t : Table) (e : List ℕ) → Invariant t → Invariant (step_of t e).table
invariant_step t e w = by_step Invariant invariant_preserved t w e

-- any list of events
pub invariant_run : (t : Table) (es : List (List ℕ)) → Invariant t → Invariant (run_of t es)
invariant_run t es w = by_run Invariant invariant_preserved t es w
