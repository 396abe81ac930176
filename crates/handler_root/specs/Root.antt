-- Document 01, "The table", "Handling, by kind", REQ, ACK and RESULT: what the root does with a message to it, once it is taken off.
-- Definitions only.
use Rattle.std.specs.Prelude.{not, cond, ◌&&◌, ◌||◌, ℕ, eqb}
use Rattle.table.specs.declared.Message.{Message}
use Rattle.table.specs.declared.Table.{Table}
use Rattle.table.specs.Views.{job_at, told_at, with_job}
use Rattle.table.specs.Messages.{send}
use Rattle.table.specs.Parts.{moved, placed, priced, message, AUTH, DENIED, OBSOLETE, OPEN, PRICED}

-- an answer of the root: "Each of these three goes to v"; they "repeat job, replica and thief"
unfoldable pub reply : Table → Message → ℕ → Table
reply t m kind = send t (message kind 0 m.from m.job m.replica m.thief)

-- "REQ from v: if the job is priced or the replica is not current, OBSOLETE to v; else if the root was told t is dead, or the job is moving, DENIED;
-- else the job moves from v to t, AUTH."
unfoldable pub on_req : Table → Message → Table
on_req t m =
    cond (eqb (job_at t m.job).state PRICED || not (eqb (job_at t m.job).replica m.replica)) (reply t m OBSOLETE)
    (cond (not (eqb (told_at t 0 m.thief) 0) || not (eqb (job_at t m.job).moving 0)) (reply t m DENIED)
    (reply (with_job t m.job (moved (job_at t m.job) m.from m.thief)) m AUTH))

-- "ACK from t: if the job is open and the replica current, the job is on t; else nothing."
unfoldable pub on_ack : Table → Message → Table
on_ack t m =
    cond (eqb (job_at t m.job).state OPEN && eqb (job_at t m.job).replica m.replica)
    (with_job t m.job (placed (job_at t m.job) m.from))
    t

-- "RESULT: an open job becomes priced with this price, whichever replica it came from; any other job is untouched."
unfoldable pub on_result : Table → Message → Table
on_result t m =
    cond (eqb (job_at t m.job).state OPEN)
    (with_job t m.job (priced (job_at t m.job) m.price))
    t
