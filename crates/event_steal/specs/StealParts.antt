-- The change that event 2 makes, by the parts of a table that it looks at. proofs/Made.antt ties it to `stolen`. Definitions only.
use Rattle.std.specs.Prelude.{ℕ, ◌+◌, Some}
use Rattle.table.specs.Parts.{waiting, message, FISH}
use Rattle.protocol_change.specs.declared.Parts.{Parts}
use Rattle.protocol_change.specs.declared.Change.{Change}

-- "thief a sends FISH to b and waits on b"
unfoldable pub steal_change : Parts → ℕ → ℕ → Change
steal_change p a b = record { job = p.job; machine = waiting p.machine (b + 1); cell = p.cell; sent = Some (message FISH a b 0 0 0) }
