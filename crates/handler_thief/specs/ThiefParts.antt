-- Document 01, "The table", "Handling, by kind", SCHEDULE and NOWORK: what a thief makes of itself and of the cell in its pool that a message to it
-- is about. On a table this is specs/Thief.antt (proofs/Made.antt). Definitions only.
use Rattle.std.specs.Prelude.{max, None, Some}
use Rattle.table.specs.declared.Message.{Message}
use Rattle.table.specs.Parts.{waiting, message, ACK}
use Rattle.protocol_change.specs.declared.Parts.{Parts}
use Rattle.protocol_change.specs.declared.Change.{Change}

-- "SCHEDULE: the copy enters the pool, waiting ends, ACK (job, replica) goes to the root."
unfoldable pub schedule_change : Parts → Message → Change
schedule_change p m =
    record {
      job = p.job;
      machine = waiting p.machine 0;
      cell = max p.cell m.replica;
      sent = Some (message ACK m.to 0 m.job m.replica 0);
    }

-- "NOWORK: waiting ends."
unfoldable pub no_work_change : Parts → Change
no_work_change p = record { job = p.job; machine = waiting p.machine 0; cell = p.cell; sent = None }
