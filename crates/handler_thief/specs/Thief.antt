-- Document 01, "The table", "Handling, by kind", SCHEDULE and NOWORK: what a thief does with a message to it, once it is taken off.
-- m.to is the machine that handles it. Definitions only.
use Rattle.table.specs.declared.Message.{Message}
use Rattle.table.specs.declared.Table.{Table}
use Rattle.table.specs.Views.{machine_at, with_machine}
use Rattle.table.specs.Pools.{enter}
use Rattle.table.specs.Messages.{send}
use Rattle.table.specs.Parts.{waiting, message, ACK}

-- "SCHEDULE: the copy enters the pool, waiting ends, ACK (job, replica) goes to the root."
unfoldable pub on_schedule : Table → Message → Table
on_schedule t m =
    send (with_machine (enter t m.to m.job m.replica) m.to (waiting (machine_at t m.to) 0))
    (message ACK m.to 0 m.job m.replica 0)

-- "NOWORK: waiting ends."
unfoldable pub on_no_work : Table → Message → Table
on_no_work t m = with_machine t m.to (waiting (machine_at t m.to) 0)
