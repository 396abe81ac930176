-- Document 01, "The table", "Handling, by kind": a message is handled by its kind. What is done for each kind stands in the crates `handler_victim`,
-- `handler_thief` and `handler_root`. Definitions only.
use Rattle.std.specs.Prelude.{cond, eqb}
use Rattle.table.specs.declared.Message.{Message}
use Rattle.table.specs.declared.Table.{Table}
use Rattle.table.specs.Parts.{FISH, REQ, AUTH, DENIED, OBSOLETE, SCHEDULE, ACK, NOWORK, RESULT}
use Rattle.handler_victim.specs.Victim.{on_fish, on_auth, on_denied, on_obsolete}
use Rattle.handler_thief.specs.Thief.{on_schedule, on_no_work}
use Rattle.handler_root.specs.Root.{on_req, on_ack, on_result}

-- "handled by b": by kind
unfoldable pub handle : Table → Message → Table
handle t m =
    cond (eqb m.kind FISH) (on_fish t m)
    (cond (eqb m.kind REQ) (on_req t m)
    (cond (eqb m.kind AUTH) (on_auth t m)
    (cond (eqb m.kind DENIED) (on_denied t m)
    (cond (eqb m.kind OBSOLETE) (on_obsolete t m)
    (cond (eqb m.kind SCHEDULE) (on_schedule t m)
    (cond (eqb m.kind ACK) (on_ack t m)
    (cond (eqb m.kind NOWORK) (on_no_work t m)
    (cond (eqb m.kind RESULT) (on_result t m)
    t))))))))
