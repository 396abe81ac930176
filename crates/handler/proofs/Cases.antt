-- A message by its kind: what holds of each of the nine handlers, and of the table as it is where the kind is none of the nine, holds of `handle`.
-- Assumes nothing.
use mathlib.Core.Path.{◌≡◌}
use mathlib.Core.Bool.{false}
use Prim.Native.Nat.{ℕ, suc, ◌≤◌}
use native.Mathlib.Omega.{arith}
use lib.Dec.{eqb}
use borrow.Author.Tests.{eqb-true, eqb-false}
use Rattle.table.specs.declared.Message.{Message}
use Rattle.table.specs.declared.Table.{Table}
use Rattle.table.specs.Parts.{FISH, REQ, AUTH, DENIED, OBSOLETE, SCHEDULE, ACK, NOWORK, RESULT}
use Rattle.handler.specs.Handler.{handle}
use Rattle.handler_victim.specs.Victim.{on_fish, on_auth, on_denied, on_obsolete}
use Rattle.handler_thief.specs.Thief.{on_schedule, on_no_work}
use Rattle.handler_root.specs.Root.{on_req, on_ack, on_result}
use Rattle.lists.proofs.Cases.{by_bool}

module _ (P : Table → Type 0) (s : Table) (x : Message)
    (other : (FISH ≤ x.kind → x.kind ≤ RESULT → ⊥) → P s)
    (fish : x.kind ≡ FISH → P (on_fish s x))
    (req : x.kind ≡ REQ → P (on_req s x))
    (auth : x.kind ≡ AUTH → P (on_auth s x))
    (denied : x.kind ≡ DENIED → P (on_denied s x))
    (obsolete : x.kind ≡ OBSOLETE → P (on_obsolete s x))
    (schedule : x.kind ≡ SCHEDULE → P (on_schedule s x))
    (ack : x.kind ≡ ACK → P (on_ack s x))
    (nowork : x.kind ≡ NOWORK → P (on_no_work s x))
    (result : x.kind ≡ RESULT → P (on_result s x)) where
  up : (n : ℕ) → eqb x.kind n ≡ false → n ≤ x.kind → suc n ≤ x.kind
  up n e l = let d = eqb-false x.kind n e in omega arith

  pub by_kind : P (handle s x)
  unfolding handle
  by_kind =
      by_bool (eqb x.kind FISH) (λ a. rw (a, handle) (fish (eqb-true _ _ a)))
      (λ a1. by_bool (eqb x.kind REQ) (λ a. rw (a1, a, handle) (req (eqb-true _ _ a)))
      (λ a2. by_bool (eqb x.kind AUTH) (λ a. rw (a1, a2, a, handle) (auth (eqb-true _ _ a)))
      (λ a3. by_bool (eqb x.kind DENIED) (λ a. rw (a1, a2, a3, a, handle) (denied (eqb-true _ _ a)))
      (λ a4. by_bool (eqb x.kind OBSOLETE) (λ a. rw (a1, a2, a3, a4, a, handle) (obsolete (eqb-true _ _ a)))
      (λ a5. by_bool (eqb x.kind SCHEDULE) (λ a. rw (a1, a2, a3, a4, a5, a, handle) (schedule (eqb-true _ _ a)))
      (λ a6. by_bool (eqb x.kind ACK) (λ a. rw (a1, a2, a3, a4, a5, a6, a, handle) (ack (eqb-true _ _ a)))
      (λ a7. by_bool (eqb x.kind NOWORK) (λ a. rw (a1, a2, a3, a4, a5, a6, a7, a, handle) (nowork (eqb-true _ _ a)))
      (λ a8. by_bool (eqb x.kind RESULT) (λ a. rw (a1, a2, a3, a4, a5, a6, a7, a8, a, handle) (result (eqb-true _ _ a)))
      (λ a9. rw (a1, a2, a3, a4, a5, a6, a7, a8, a9, handle) (other (λ least most.
      omega (arith, up 9 a9 (up 8 a8 (up 7 a7 (up 6 a6 (up 5 a5 (up 4 a4 (up 3 a3 (up 2 a2 (up 1 a1 least))))))))))))))))))))
