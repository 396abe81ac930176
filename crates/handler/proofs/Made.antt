-- What a machine makes of the parts that a message is about, made on a table, is what specs/Handler.antt says: by the kind, which names the handler.
-- And which parts these are: the lowest job is the table's, and the job is one of the 64. Assumes nothing.
use mathlib.Core.Path.{◌≡◌}
use Prim.Native.Nat.{ℕ, ◌<◌}
use lib.Dec.{eqb}
use borrow.Author.Tests.{eqb-true, eq-eqb}
use Rattle.std.proofs.Common.{Option}
use Rattle.lists.proofs.Cases.{by_bool, cond_elim}
use Rattle.table.specs.declared.Message.{Message}
use Rattle.table.specs.declared.Table.{Table}
use Rattle.table.specs.Views.{told_at}
use Rattle.table.specs.Pools.{lowest}
use Rattle.table.specs.Parts.{FISH, REQ, AUTH, DENIED, OBSOLETE, SCHEDULE, ACK, NOWORK, RESULT}
use Rattle.protocol_pools.proofs.LowestIn.{lowest_in_lem}
use Rattle.protocol_pools.specs.Lowest.{job_of}
use Rattle.protocol_change.specs.Change.{parts_at, made}
use Rattle.protocol_change.proofs.Made.{made_silent}
use Rattle.handler_victim.specs.VictimParts.{fish_job}
use Rattle.handler_victim.proofs.Made.{fish_job_below, made_fish, made_auth, made_denied, made_obsolete}
use Rattle.handler_thief.proofs.Made.{made_schedule, made_no_work}
use Rattle.handler_root.proofs.Made.{made_req, made_ack, made_result}
use Rattle.handler.specs.Handler.{handle}
use Rattle.handler.specs.HandlerParts.{lowest_for, handled_job, handle_change}

-- for a FISH, the lowest job is that of the machine it is to
pub lowest_for_lem : (t : Table) (m : Message) → m.kind ≡ FISH → lowest_for m t.pools ≡ job_of (lowest t m.to)
unfolding lowest_for
lowest_for_lem t m e = rw (eq-eqb m.kind FISH e) (lowest_in_lem t m.to)

-- the job is one of the 64, where the message's is
pub handled_job_below : (m : Message) (low : Option ℕ) → m.job < 64 → handled_job m low < 64
unfolding handled_job
handled_job_below m low l = cond_elim (λ j. j < 64) (eqb m.kind FISH) (fish_job low) m.job (fish_job_below low) l

module _ (t : Table) (m : Message) (low : Option ℕ) (is_lowest : m.kind ≡ FISH → low ≡ job_of (lowest t m.to)) where
  pub made_handle : made t m.to (handled_job m low) (handle_change (parts_at t m.to (handled_job m low)) m (told_at t 0 m.thief) low) ≡ handle t m
  unfolding handled_job handle_change handle job_of
  made_handle =
      by_bool (eqb m.kind FISH) (λ a. rw a (made_fish t m low (is_lowest (eqb-true _ _ a))))
      (λ a1. by_bool (eqb m.kind REQ) (λ a. rw (a1, a) (made_req t m.to m))
      (λ a2. by_bool (eqb m.kind AUTH) (λ a. rw (a1, a2, a) (made_auth t m))
      (λ a3. by_bool (eqb m.kind DENIED) (λ a. rw (a1, a2, a3, a) (made_denied t m))
      (λ a4. by_bool (eqb m.kind OBSOLETE) (λ a. rw (a1, a2, a3, a4, a) (made_obsolete t m))
      (λ a5. by_bool (eqb m.kind SCHEDULE) (λ a. rw (a1, a2, a3, a4, a5, a) (made_schedule t m))
      (λ a6. by_bool (eqb m.kind ACK) (λ a. rw (a1, a2, a3, a4, a5, a6, a) (made_ack t m.to m))
      (λ a7. by_bool (eqb m.kind NOWORK) (λ a. rw (a1, a2, a3, a4, a5, a6, a7, a) (made_no_work t m m.job))
      (λ a8. by_bool (eqb m.kind RESULT) (λ a. rw (a1, a2, a3, a4, a5, a6, a7, a8, a) (made_result t m.to m))
      (λ a9. rw (a1, a2, a3, a4, a5, a6, a7, a8, a9) (made_silent t m.to m.job))))))))))
