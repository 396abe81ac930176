-- Deliver takes a message off: what its handler may rely on.
-- Assumes nothing.
use mathlib.Core.Path.{◌≡◌}
use mathlib.Core.Bool.{true}
use Prim.Native.Nat.{ℕ, ◌<◌}
use native.Mathlib.Omega.{arith}
use Rattle.table.specs.declared.Message.{Message}
use Rattle.table.specs.declared.Table.{Table}
use Rattle.table.specs.Views.{message_at}
use Rattle.table.specs.Messages.{remove_at}
use Rattle.table.proofs.Messages.{sized_remove_at}
use Rattle.protocol_preservation.proofs.Ok.{in_flight_ok}
use Rattle.protocol_preservation.proofs.Accepted.{in_flight}
use Rattle.protocol_preservation.proofs.Passed.{facts, message_facts}
use Rattle.protocol_preservation.proofs.Updates.{wide, ok_remove_at}
use Rattle.protocol_preservation.proofs.Sizes.{used_remove_at}
use Rattle.theorem_invariant.proofs.State.{Invariant, Received}

-- a message passes as before once another is taken off
still : (t : Table) (k : ℕ) (x : Message) → in_flight_ok t x ≡ true → in_flight_ok (remove_at t k) x ≡ true
unfolding remove_at
still t k x e = simp wide e

pub received : (t : Table) (k : ℕ) → Invariant t → k < t.in_flight → Received (remove_at t k) (message_at t k)
received t k w l =
    let s = w.sized in
    let z = sized_remove_at t s k l in
    let o = ok_remove_at t s w.ok k l in
    record {
      sized = z;
      room = omega (arith, used_remove_at t k, s.used);
      facts = facts (remove_at t k) z o;
      message = message_facts (remove_at t k) o (message_at t k) (still t k (message_at t k) (in_flight t s w.ok k l));
    }
