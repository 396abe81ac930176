-- The changes that events 4 and 5 make, by the parts of a table that they look at. proofs/Made.antt ties them to `started` and `finished`.
-- Definitions only.
use Rattle.std.specs.Prelude.{ℕ, None, Some}
use Rattle.table.specs.Parts.{running, result}
use Rattle.protocol_change.specs.declared.Parts.{Parts}
use Rattle.protocol_change.specs.declared.Change.{Change}

-- "machine a moves job b from its pool to running"
unfoldable pub start_change : Parts → ℕ → Change
start_change p b = record { job = p.job; machine = running p.machine b p.cell; cell = 0; sent = None }

-- "the running copy goes and RESULT with its price is sent to the root": the price is bits
unfoldable pub done_change : Parts → ℕ → ℕ → Change
done_change p a bits =
    record {
      job = p.job;
      machine = running p.machine 0 0;
      cell = p.cell;
      sent = Some (result a p.machine.running_job p.machine.running_replica bits);
    }
