-- Whatever a handler sends goes to a machine: to the sender or the thief of the message that it handles, or to the root. Assumes nothing.
use Prim.Native.Nat.{ℕ, ◌<◌}
use mathlib.Core.Path.{◌≡◌, subst}
use mathlib.Core.Bool.{not, ◌&&◌, ◌||◌}
use lib.Dec.{eqb, leb}
use Rattle.std.proofs.Common.{Option, None, Some}
use Rattle.lists.proofs.Cases.{by_bool}
use native.Mathlib.Omega.{arith}
use Rattle.table.specs.declared.Message.{Message}
use Rattle.table.specs.Needs.{Within}
use Rattle.table.specs.Parts.{message, OPEN, PRICED, FISH, REQ, AUTH, DENIED, OBSOLETE, SCHEDULE, ACK, NOWORK, RESULT}
use Rattle.protocol_change.specs.declared.Parts.{Parts}
use Rattle.protocol_change.specs.Change.{silent}
use Rattle.handler_victim.specs.VictimParts.{matched, fish_change, auth_change, denied_change, obsolete_change}
use Rattle.handler_thief.specs.ThiefParts.{schedule_change, no_work_change}
use Rattle.handler_root.specs.RootParts.{answer, req_change, ack_change, result_change}
use Rattle.handler.specs.HandlerParts.{handle_change}

-- what is sent, where a message is, goes to a machine
abbrev pub ToMachine : Option Message → Type 0
ToMachine sent = (x : Message) → sent ≡ Some x → x.to < 16

pub to_none : ToMachine None
to_none x z = absurd (cc)

pub to_some : (m : Message) → m.to < 16 → ToMachine (Some m)
to_some m h x z = let e : m ≡ x = cc in subst (λ (y : Message). y.to < 16) e h

module _ (p : Parts) (m : Message) (told : ℕ) (low : Option ℕ) (w : Within m) where
  root : 0 < 16
  root = omega arith

  fish_some : (j : ℕ) → ToMachine (fish_change p m (Some j)).sent
  unfolding fish_change message
  fish_some j =
      by_bool (not (eqb p.machine.reserved_replica 0) || leb 64 j)
      (λ e. rw (e, fish_change) (to_some _ w.from))
      (λ e. rw (e, fish_change) (to_some _ root))

  fish_to : (l : Option ℕ) → ToMachine (fish_change p m l).sent
  unfolding fish_change message
  fish_to None = to_some _ w.from
  fish_to (Some j) = fish_some j

  req_to : ToMachine (req_change p m told).sent
  unfolding req_change answer message
  req_to =
      by_bool (eqb p.job.state PRICED || not (eqb p.job.replica m.replica)) (λ e. rw (e, req_change) (to_some _ w.from))
      (λ e. by_bool (not (eqb told 0) || not (eqb p.job.moving 0))
      (λ f. rw (e, f, req_change) (to_some _ w.from))
      (λ f. rw (e, f, req_change) (to_some _ w.from)))

  auth_to : ToMachine (auth_change p m).sent
  unfolding auth_change message silent
  auth_to = by_bool (matched p m) (λ e. rw (e, auth_change) (to_some _ w.thief)) (λ e. rw (e, auth_change) to_none)

  denied_to : ToMachine (denied_change p m).sent
  unfolding denied_change message silent
  denied_to = by_bool (matched p m) (λ e. rw (e, denied_change) (to_some _ w.thief)) (λ e. rw (e, denied_change) to_none)

  obsolete_to : ToMachine (obsolete_change p m).sent
  unfolding obsolete_change message silent
  obsolete_to = by_bool (matched p m) (λ e. rw (e, obsolete_change) (to_some _ w.thief)) (λ e. rw (e, obsolete_change) to_none)

  ack_to : ToMachine (ack_change p m).sent
  unfolding ack_change silent
  ack_to = by_bool (eqb p.job.state OPEN && eqb p.job.replica m.replica) (λ e. rw (e, ack_change) to_none) (λ e. rw (e, ack_change) to_none)

  result_to : ToMachine (result_change p m).sent
  unfolding result_change silent
  result_to = by_bool (eqb p.job.state OPEN) (λ e. rw (e, result_change) to_none) (λ e. rw (e, result_change) to_none)

  schedule_to : ToMachine (schedule_change p m).sent
  unfolding schedule_change message
  schedule_to = to_some _ root

  pub handle_to : ToMachine (handle_change p m told low).sent
  unfolding handle_change no_work_change silent
  handle_to =
      by_bool (eqb m.kind FISH) (λ a. rw a (fish_to low))
      (λ a1. by_bool (eqb m.kind REQ) (λ a. rw (a1, a) req_to)
      (λ a2. by_bool (eqb m.kind AUTH) (λ a. rw (a1, a2, a) auth_to)
      (λ a3. by_bool (eqb m.kind DENIED) (λ a. rw (a1, a2, a3, a) denied_to)
      (λ a4. by_bool (eqb m.kind OBSOLETE) (λ a. rw (a1, a2, a3, a4, a) obsolete_to)
      (λ a5. by_bool (eqb m.kind SCHEDULE) (λ a. rw (a1, a2, a3, a4, a5, a) schedule_to)
      (λ a6. by_bool (eqb m.kind ACK) (λ a. rw (a1, a2, a3, a4, a5, a6, a) ack_to)
      (λ a7. by_bool (eqb m.kind NOWORK) (λ a. rw (a1, a2, a3, a4, a5, a6, a7, a) to_none)
      (λ a8. by_bool (eqb m.kind RESULT) (λ a. rw (a1, a2, a3, a4, a5, a6, a7, a8, a) result_to)
      (λ a9. rw (a1, a2, a3, a4, a5, a6, a7, a8, a9) to_none)))))))))
