-- The parts of a table at a machine and a job, and a change of these parts made on the table: what ties a function of parts to document 01's
-- definitions on tables. Definitions only.
use Rattle.std.specs.Prelude.{cond, ℕ, eqb, Option, None, Some}
use Rattle.table.specs.declared.Message.{Message}
use Rattle.table.specs.declared.Table.{Table}
use Rattle.table.specs.Views.{job_at, machine_at, pool_at, with_job, with_machine, with_pool}
use Rattle.table.specs.Messages.{send}
use Rattle.protocol_change.specs.declared.Parts.{Parts}
use Rattle.protocol_change.specs.declared.Change.{Change}

-- the parts of t at machine m and job j
unfoldable pub parts_at : Table → ℕ → ℕ → Parts
parts_at t m j = record { job = job_at t j; machine = machine_at t m; cell = pool_at t m j }

-- a message is sent, where there is one: one of kind 0 is none
unfoldable pub send_some : Table → Option Message → Table
send_some t None = t
send_some t (Some x) = cond (eqb x.kind 0) t (send t x)

-- the change c is made on t, at machine m and job j
unfoldable pub made : Table → ℕ → ℕ → Change → Table
made t m j c = send_some (with_pool (with_machine (with_job t j c.job) m c.machine) m j c.cell) c.sent

-- nothing changes and nothing is sent
unfoldable pub silent : Parts → Change
silent p = record { job = p.job; machine = p.machine; cell = p.cell; sent = None }
