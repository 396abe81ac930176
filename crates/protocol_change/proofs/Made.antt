-- A change made on a table, where some of its parts are as they were. Assumes nothing.
use mathlib.Core.Path.{◌≡◌}
use Prim.Native.Nat.{ℕ, ◌+◌, ◌*◌}
use lib.Seq.{set-get_or}
use Rattle.std.proofs.Common.{Option}
use Rattle.table.specs.declared.Job.{Job}
use Rattle.table.specs.declared.Machine.{Machine}
use Rattle.table.specs.declared.Message.{Message}
use Rattle.table.specs.declared.Table.{Table}
use Rattle.table.specs.States.{open_after}
use Rattle.table.specs.Views.{no_job, no_machine, job_at, state_in, machine_at, pool_at, with_job, with_machine, with_pool, parts}
use Rattle.table.proofs.Open.{open_after_same}
use Rattle.protocol_change.specs.Change.{parts_at, send_some, made, silent}

module _ (t : Table) (m j : ℕ) where
  -- the job is as it was, and so is the number of open jobs
  same_number : open_after t.open_jobs (state_in t.jobs j) (state_in t.jobs j) ≡ t.open_jobs
  same_number = open_after_same t.open_jobs (state_in t.jobs j)

  -- nothing changes
  pub made_silent : made t m j (silent (parts_at t m j)) ≡ t
  unfolding made silent parts_at send_some parts
  made_silent = rw (set-get_or t.jobs j no_job, same_number, set-get_or t.machines m no_machine, set-get_or t.pools (m * 64 + j) 0)

  -- a message alone
  pub made_sent : (x : Option Message) → made t m j (record { job = job_at t j; machine = machine_at t m; cell = pool_at t m j; sent = x }) ≡ send_some t x
  unfolding made parts
  made_sent x = rw (set-get_or t.jobs j no_job, same_number, set-get_or t.machines m no_machine, set-get_or t.pools (m * 64 + j) 0)

  -- the job
  pub made_job : (v : Job) (x : Option Message)
      → made t m j (record { job = v; machine = machine_at t m; cell = pool_at t m j; sent = x }) ≡ send_some (with_job t j v) x
  unfolding made parts
  made_job v x = rw (set-get_or t.machines m no_machine, set-get_or t.pools (m * 64 + j) 0)

  -- the machine
  pub made_machine : (n : Machine) (x : Option Message)
      → made t m j (record { job = job_at t j; machine = n; cell = pool_at t m j; sent = x }) ≡ send_some (with_machine t m n) x
  unfolding made parts
  made_machine n x = rw (set-get_or t.jobs j no_job, same_number, set-get_or t.pools (m * 64 + j) 0)

  -- the machine and the cell
  pub made_machine_cell : (n : Machine) (r : ℕ) (x : Option Message)
      → made t m j (record { job = job_at t j; machine = n; cell = r; sent = x }) ≡ send_some (with_machine (with_pool t m j r) m n) x
  unfolding made parts
  made_machine_cell n r x = rw (set-get_or t.jobs j no_job, same_number)

  -- the job and the cell
  pub made_job_cell : (v : Job) (r : ℕ) (x : Option Message)
      → made t m j (record { job = v; machine = machine_at t m; cell = r; sent = x }) ≡ send_some (with_pool (with_job t j v) m j r) x
  unfolding made parts
  made_job_cell v r x = rw (set-get_or t.machines m no_machine)
