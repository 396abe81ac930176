-- Document 01, "The table", "Handling, by kind", REQ, ACK and RESULT: what the root makes of the job that a message to it is about. On a table this
-- is specs/Root.antt (proofs/Made.antt). Definitions only.
use Rattle.std.specs.Prelude.{not, cond, ◌&&◌, ◌||◌, ℕ, eqb, None, Some}
use Rattle.table.specs.declared.Message.{Message}
use Rattle.table.specs.Parts.{moved, placed, priced, message, AUTH, DENIED, OBSOLETE, OPEN, PRICED}
use Rattle.protocol_change.specs.declared.Parts.{Parts}
use Rattle.protocol_change.specs.declared.Change.{Change}
use Rattle.protocol_change.specs.Change.{silent}

-- an answer of the root: "Each of these three goes to v"; they "repeat job, replica and thief"
unfoldable pub answer : Message → ℕ → Message
answer m kind = message kind 0 m.from m.job m.replica m.thief

-- "REQ from v: if the job is priced or the replica is not current, OBSOLETE to v; else if the root was told t is dead, or the job is moving, DENIED;
-- else the job moves from v to t, AUTH." told is what the root was told of t.
unfoldable pub req_change : Parts → Message → ℕ → Change
req_change p m told =
    cond (eqb p.job.state PRICED || not (eqb p.job.replica m.replica))
    (record { job = p.job; machine = p.machine; cell = p.cell; sent = Some (answer m OBSOLETE) })
    (cond (not (eqb told 0) || not (eqb p.job.moving 0))
    (record { job = p.job; machine = p.machine; cell = p.cell; sent = Some (answer m DENIED) })
    (record { job = moved p.job m.from m.thief; machine = p.machine; cell = p.cell; sent = Some (answer m AUTH) }))

-- "ACK from t: if the job is open and the replica current, the job is on t; else nothing."
unfoldable pub ack_change : Parts → Message → Change
ack_change p m =
    cond (eqb p.job.state OPEN && eqb p.job.replica m.replica)
    (record { job = placed p.job m.from; machine = p.machine; cell = p.cell; sent = None })
    (silent p)

-- "RESULT: an open job becomes priced with this price, whichever replica it came from; any other job is untouched."
unfoldable pub result_change : Parts → Message → Change
result_change p m =
    cond (eqb p.job.state OPEN)
    (record { job = priced p.job m.price; machine = p.machine; cell = p.cell; sent = None })
    (silent p)
