-- Row 9 of document 01, "Where each refusal is checked": "a count, number, state or term outside its range, an unused part not 0, a message to a dead
-- machine, a REQ, ACK or RESULT not to the root, a root not alive, a living machine told of as dead, or a replica number in it above 1 + the deaths
-- the root was told of"; and of document 02, 2.4: "a table whose kept number differs from the recount". One record for each condition, in this order,
-- which says that the condition does not hold. Definitions only.
--
-- The crate `validity` has the same check array by array, as the code goes; proofs/Same.antt shows that the two are one.
use Rattle.std.specs.Prelude.{ℕ, ◌≤◌, ◌<◌, ◌≡◌, ◌≢◌, true, false}
use Rattle.pricer.specs.Range.{in_range}
use Rattle.table.specs.declared.Table.{Table}
use Rattle.table.specs.Views.{no_job, no_machine, no_message, bond_at, job_at, machine_at, pool_at, told_at, message_at}
use Rattle.table.specs.Parts.{FISH, RESULT, NOT_ADMITTED, PRICED, recount}
use Rattle.validity_element.specs.Element.{empty_bond}
use Rattle.validity_message.specs.Message.{with_copy, with_thief, to_root}
use Rattle.validity.specs.Validity.{max_replica}

-- "a count .. outside its range"
pub record Counts (t : Table) : Type 0 where
  pub machine_count_least : 2 ≤ t.machine_count
  pub machine_count_most : t.machine_count ≤ 16
  pub entry_count_most : t.entry_count ≤ 64
  pub messages_most : t.in_flight ≤ 128

-- "number .. outside its range": machine numbers, job numbers, and replica numbers of "at least 1", where there is a use for them
pub record Numbers (t : Table) : Type 0 where
  pub holder : (j : ℕ) → j < 64 → (job_at t j).state ≢ NOT_ADMITTED → (job_at t j).holder < t.machine_count
  pub thief : (j : ℕ) → j < 64 → (job_at t j).moving ≢ 0 → (job_at t j).thief < t.machine_count
  pub replica : (j : ℕ) → j < 64 → (job_at t j).state ≢ NOT_ADMITTED → 1 ≤ (job_at t j).replica
  pub waits : (m : ℕ) → m < 16 → (machine_at t m).waits ≤ t.machine_count
  pub reserved : (m : ℕ) → m < 16 → (machine_at t m).reserved_replica ≢ 0
      → ((machine_at t m).reserved_job < t.entry_count) × ((machine_at t m).reserved_thief < t.machine_count)
  pub running : (m : ℕ) → m < 16 → (machine_at t m).running_replica ≢ 0 → (machine_at t m).running_job < t.entry_count
  pub ends : (i : ℕ) → i < t.in_flight → ((message_at t i).from < t.machine_count) × ((message_at t i).to < t.machine_count)
  pub copies : (i : ℕ) → i < t.in_flight → with_copy (message_at t i).kind ≡ true
      → ((message_at t i).job < t.entry_count) × (1 ≤ (message_at t i).replica)
  pub thieves : (i : ℕ) → i < t.in_flight → with_thief (message_at t i).kind ≡ true → (message_at t i).thief < t.machine_count

-- "state .. outside its range"
pub record States (t : Table) : Type 0 where
  pub job : (j : ℕ) → j < 64 → (job_at t j).state ≤ PRICED
  pub moving : (j : ℕ) → j < 64 → (job_at t j).moving ≤ 1
  pub alive : (m : ℕ) → m < 16 → (machine_at t m).alive ≤ 1
  pub told : (m d : ℕ) → m < 16 → d < 16 → told_at t m d ≤ 1
  pub kinds : (i : ℕ) → i < t.in_flight → (FISH ≤ (message_at t i).kind) × ((message_at t i).kind ≤ RESULT)

-- "term outside its range"
abbrev pub InRange : Table → Type 0
InRange t = (j : ℕ) → j < 64 → j < t.entry_count → in_range (bond_at t j) ≡ true

-- "an unused part not 0"
pub record Unused (t : Table) : Type 0 where
  -- entry numbers from n on
  pub bond : (j : ℕ) → j < 64 → t.entry_count ≤ j → empty_bond (bond_at t j) ≡ true
  pub entry : (j : ℕ) → j < 64 → t.entry_count ≤ j → (job_at t j).state ≡ NOT_ADMITTED
  pub pool_entry : (m j : ℕ) → m < 16 → j < 64 → pool_at t m j ≢ 0 → j < t.entry_count
  -- "a job not admitted has replica 0 and place 0, a job not priced has price bits 0"; a job on p has no second machine
  pub unadmitted : (j : ℕ) → j < 64 → (job_at t j).state ≡ NOT_ADMITTED → job_at t j ≡ no_job
  pub unpriced : (j : ℕ) → j < 64 → (job_at t j).state ≢ PRICED → (job_at t j).price ≡ 0
  pub still : (j : ℕ) → j < 64 → (job_at t j).moving ≡ 0 → (job_at t j).thief ≡ 0
  -- machine numbers from the count on
  pub machine : (m : ℕ) → m < 16 → t.machine_count ≤ m → (machine_at t m).alive ≡ 0
  pub told : (m d : ℕ) → m < 16 → d < 16 → told_at t m d ≢ 0 → (m < t.machine_count) × (d < t.machine_count)
  -- "a dead machine has an empty pool and no reserved copy, running copy or wait"; where there is no copy its job and thief are 0
  pub dead : (m : ℕ) → m < 16 → (machine_at t m).alive ≡ 0 → machine_at t m ≡ no_machine
  pub pool_dead : (m j : ℕ) → m < 16 → j < 64 → pool_at t m j ≢ 0 → (machine_at t m).alive ≡ 1
  pub unreserved : (m : ℕ) → m < 16 → (machine_at t m).reserved_replica ≡ 0
      → ((machine_at t m).reserved_job ≡ 0) × ((machine_at t m).reserved_thief ≡ 0)
  pub idle : (m : ℕ) → m < 16 → (machine_at t m).running_replica ≡ 0 → (machine_at t m).running_job ≡ 0
  -- what a message kind has no use for, and "unused slots are all 0"
  pub copies : (i : ℕ) → i < t.in_flight → with_copy (message_at t i).kind ≡ false → ((message_at t i).job ≡ 0) × ((message_at t i).replica ≡ 0)
  pub thieves : (i : ℕ) → i < t.in_flight → with_thief (message_at t i).kind ≡ false → (message_at t i).thief ≡ 0
  pub prices : (i : ℕ) → i < t.in_flight → (message_at t i).kind ≢ RESULT → (message_at t i).price ≡ 0
  pub slots : (i : ℕ) → i < 128 → t.in_flight ≤ i → message_at t i ≡ no_message

-- "a message to a dead machine"
abbrev pub Receivers : Table → Type 0
Receivers t = (i : ℕ) → i < t.in_flight → (machine_at t (message_at t i).to).alive ≡ 1

-- "a REQ, ACK or RESULT not to the root"
abbrev pub ToRoot : Table → Type 0
ToRoot t = (i : ℕ) → i < t.in_flight → to_root (message_at t i).kind ≡ true → (message_at t i).to ≡ 0

-- "a root not alive"
abbrev pub Root : Table → Type 0
Root t = (machine_at t 0).alive ≡ 1

-- "a living machine told of as dead"
abbrev pub Told : Table → Type 0
Told t = (m d : ℕ) → m < 16 → d < 16 → told_at t m d ≢ 0 → (machine_at t d).alive ≢ 1

-- "or a replica number in it above 1 + the deaths the root was told of"
pub record Replicas (t : Table) : Type 0 where
  pub job : (j : ℕ) → j < 64 → (job_at t j).replica ≤ max_replica t
  pub pool : (m j : ℕ) → m < 16 → j < 64 → pool_at t m j ≤ max_replica t
  pub reserved : (m : ℕ) → m < 16 → (machine_at t m).reserved_replica ≤ max_replica t
  pub running : (m : ℕ) → m < 16 → (machine_at t m).running_replica ≤ max_replica t
  pub messages : (i : ℕ) → i < t.in_flight → (message_at t i).replica ≤ max_replica t

-- document 02, 2.4: "a table whose kept number differs from the recount"
abbrev pub OpenJobs : Table → Type 0
OpenJobs t = t.open_jobs ≡ recount t

-- none of the conditions of row 9 holds of t
pub record RowNine (t : Table) : Type 0 where
  pub counts : Counts t
  pub numbers : Numbers t
  pub states : States t
  pub terms : InRange t
  pub unused : Unused t
  pub receivers : Receivers t
  pub ends_at_root : ToRoot t
  pub root : Root t
  pub told : Told t
  pub replicas : Replicas t
  pub open_jobs : OpenJobs t
