-- Document 01, "The table", "Handling, by kind": a message is handled by its kind, on the parts of a table that it is about. On a table this is
-- specs/Handler.antt (proofs/Made.antt). Definitions only.
use Rattle.std.specs.Prelude.{cond, List, ℕ, eqb, Option, None}
use Rattle.table.specs.declared.Message.{Message}
use Rattle.table.specs.Parts.{FISH, REQ, AUTH, DENIED, OBSOLETE, SCHEDULE, ACK, NOWORK, RESULT}
use Rattle.protocol_pools.specs.Lowest.{lowest_in}
use Rattle.protocol_change.specs.declared.Parts.{Parts}
use Rattle.protocol_change.specs.declared.Change.{Change}
use Rattle.protocol_change.specs.Change.{silent}
use Rattle.handler_victim.specs.VictimParts.{fish_job, fish_change, auth_change, denied_change, obsolete_change}
use Rattle.handler_thief.specs.ThiefParts.{schedule_change, no_work_change}
use Rattle.handler_root.specs.RootParts.{req_change, ack_change, result_change}

-- "the lowest job" of the machine that a FISH is to; none where its pool is empty, and for any other message
unfoldable pub lowest_for : Message → List ℕ → Option ℕ
lowest_for m pools = cond (eqb m.kind FISH) (lowest_in pools m.to) None

-- the job that a message is about: for a FISH by the lowest job, else the one that the message names
unfoldable pub handled_job : Message → Option ℕ → ℕ
handled_job m low = cond (eqb m.kind FISH) (fish_job low) m.job

-- "handled by b": by kind. told is what the root was told of the message's thief, low the lowest job of the machine that a FISH is to.
unfoldable pub handle_change : Parts → Message → ℕ → Option ℕ → Change
handle_change p m told low =
    cond (eqb m.kind FISH) (fish_change p m low)
    (cond (eqb m.kind REQ) (req_change p m told)
    (cond (eqb m.kind AUTH) (auth_change p m)
    (cond (eqb m.kind DENIED) (denied_change p m)
    (cond (eqb m.kind OBSOLETE) (obsolete_change p m)
    (cond (eqb m.kind SCHEDULE) (schedule_change p m)
    (cond (eqb m.kind ACK) (ack_change p m)
    (cond (eqb m.kind NOWORK) (no_work_change p)
    (cond (eqb m.kind RESULT) (result_change p m)
    (silent p)))))))))
