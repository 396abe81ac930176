-- The change that event 1 makes, by the parts of a table that it looks at. proofs/Made.antt ties it to `admitted`. Deliver's change is the handler's, and
-- Die changes more than parts. Definitions only.
use Rattle.std.specs.Prelude.{max, None}
use Rattle.table.specs.Parts.{opened}
use Rattle.protocol_change.specs.declared.Parts.{Parts}
use Rattle.protocol_change.specs.declared.Change.{Change}

-- "job a becomes open, replica 1, on 0, and enters the root's pool": the machine is the root
unfoldable pub admit_change : Parts → Change
admit_change p = record { job = opened 1; machine = p.machine; cell = max p.cell 1; sent = None }
