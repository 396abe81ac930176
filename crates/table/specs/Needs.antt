-- What is known of a table before an event, and what Die and Notice ask of it. A table that passes check 9 is `Ready`, and what its slots hold is
-- `Within` the arrays; Steal's refusals have tested `RoomFor`.
use Rattle.std.specs.Prelude.{ℕ, ◌<◌, ◌≤◌, ◌≡◌}
use Rattle.table.specs.declared.Message.{Message}
use Rattle.table.specs.declared.Table.{Table}
use Rattle.table.specs.Views.{job_at, machine_at, message_at}

-- "up to 128 messages in flight": a slot is free for a message to machine b, where b lives
abbrev pub RoomFor : Table → ℕ → Type 0
RoomFor t b = (machine_at t b).alive ≡ 1 → t.in_flight < 128

-- a message's numbers are within the arrays
pub record Within (m : Message) : Type 0 where
  pub job : m.job < 64
  pub from : m.from < 16
  pub to : m.to < 16
  pub thief : m.thief < 16

-- counts and numbers are within the arrays, and a replica number can still rise
pub record Ready (t : Table) : Type 0 where
  pub machine_count : t.machine_count ≤ 16
  pub entry_count : t.entry_count ≤ 64
  pub flight : t.in_flight ≤ 128
  pub messages : (i : ℕ) → i < t.in_flight → Within (message_at t i)
  pub reserved : (m : ℕ) → m < 16 → (machine_at t m).reserved_job < 64
  pub running : (m : ℕ) → m < 16 → (machine_at t m).running_job < 64
  pub replicas : (j : ℕ) → j < 64 → (job_at t j).replica < 255
