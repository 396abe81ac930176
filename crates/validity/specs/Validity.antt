-- Refusal 9, "Table, before any event": when a table is in order. It is a test of any table whatever, also of one that no run reaches.
--
-- The conditions of row 9 in document 01's order, and the definition that states each (E: of the crates `validity_element` and `validity_message`):
--
--   "a count .. outside its range"                        sizes_ok: 2 to 16 machines, 0 to 64 entries, up to 128 messages
--   "number .. outside its range"                         machine numbers: place_ok, reserved_ok, machine_ok (waits), told_ok, ends_ok, thief_ok (E)
--                                                         job numbers: copy_ok (E); replica numbers "at least 1": copy_ok (E)
--   "state .. outside its range"                          jobs: empty_job, admitted_ok, place_ok (moving); machines: empty_machine, machine_ok (alive);
--                                                         told flags: told_ok; message kinds: kind_ok (E)
--   "term outside its range"                              bond_ok (E), by the pricer's in_range
--   "an unused part not 0"                                entries from n on: empty_bond, job_ok, cell_ok; a job not admitted: empty_job;
--                                                         a job not priced: admitted_ok; a job on one machine: place_ok;
--                                                         machines from the count on: machine_ok, told_ok, cell_ok;
--                                                         a dead machine: empty_machine, cell_ok; no reserved or running copy: reserved_ok, running_ok;
--                                                         a message kind's parts: kind_ok, carries_ok, thief_ok; slots past the last: empty_message (E)
--   "a message to a dead machine"                         slot_ok (E)
--   "a REQ, ACK or RESULT not to the root"                ends_ok (E)
--   "a root not alive"                                    root_ok
--   "a living machine told of as dead"                    told_ok (E)
--   "or a replica number in it above 1 + the deaths       copy_ok (E), against `max_replica`: of jobs, pools, reserved and running copies and messages
--    the root was told of"
--   document 02, 2.4: "a table whose kept number          counts_ok
--    differs from the recount"
--
-- "a priced job keeps the replica number and place it had when priced, a dead machine keeps what it was told (neither counts as unused)":
-- job_ok asks the same place and replica of an open and of a priced job, and told_ok does not ask whether m is alive.
use Rattle.std.specs.Prelude.{ℕ, ◌+◌, Bool, ◌&&◌, leb, eqb}
use Rattle.lists.specs.Scan.{all, count_to}
use Rattle.table.specs.declared.Table.{Table}
use Rattle.table.specs.Views.{bond_at, job_at, machine_at, pool_at, told_at, message_at}
use Rattle.table.specs.Parts.{recount}
use Rattle.validity_element.specs.Element.{bond_ok, job_ok, machine_ok, told_ok, cell_ok}
use Rattle.validity_message.specs.Message.{slot_ok}

-- "machine count, 2 to 16"; "entry count n, 0 to 64"; "up to 128 messages in flight"
abbrev pub sizes_ok : Table → Bool
sizes_ok t = leb 2 t.machine_count && leb t.machine_count 16 && leb t.entry_count 64 && leb t.in_flight 128

-- "1 + the deaths the root was told of"
unfoldable pub max_replica : Table → ℕ
max_replica t = count_to (λ d. eqb (told_at t 0 d) 1) 16 + 1

-- "the terms of each entry"
unfoldable pub bonds_ok : Table → Bool
bonds_ok t = all (λ j. bond_ok t.entry_count j (bond_at t j)) 64

-- "for each job"; here and below b is the largest replica number allowed
unfoldable pub jobs_ok : Table → ℕ → Bool
jobs_ok t b = all (λ j. job_ok t.machine_count t.entry_count b j (job_at t j)) 64

-- "for each machine: alive or dead, .. at most one reserved copy .., at most one running copy, and the victim it waits on, if any"
unfoldable pub machines_ok : Table → ℕ → Bool
machines_ok t b = all (λ m. machine_ok t.machine_count t.entry_count b m (machine_at t m)) 16

-- "a pool (per job a replica number, 0 for none)": that of machine m
unfoldable pub pool_row : Table → ℕ → ℕ → Bool
pool_row t b m = all (λ j. cell_ok t.entry_count b (machine_at t m).alive j (pool_at t m j)) 64

-- the pools of all machines
unfoldable pub pools_ok : Table → ℕ → Bool
pools_ok t b = all (pool_row t b) 16

-- "up to 128 messages in flight, in order of sending"
unfoldable pub messages_ok : Table → ℕ → Bool
messages_ok t b =
    all (λ i. slot_ok t.machine_count t.entry_count b t.in_flight i (machine_at t (message_at t i).to).alive (message_at t i)) 128

-- "a root not alive"
abbrev pub root_ok : Table → Bool
root_ok t = eqb (machine_at t 0).alive 1

-- "which dead machines it has been told of": what machine m has been told
unfoldable pub told_row : Table → ℕ → Bool
told_row t m = all (λ d. told_ok t.machine_count (machine_at t d).alive m d (told_at t m d)) 16

-- what all machines have been told
unfoldable pub tolds_ok : Table → Bool
tolds_ok t = all (told_row t) 16

-- each element passes its test
unfoldable pub elements_ok : Table → Bool
elements_ok t =
    sizes_ok t && bonds_ok t && jobs_ok t (max_replica t) && machines_ok t (max_replica t) && pools_ok t (max_replica t)
    && messages_ok t (max_replica t) && root_ok t && tolds_ok t

-- each number that is kept of a whole array is that of the array. Document 02, 2.4: "An event on a table whose kept number differs from the recount is
-- refused 9."
unfoldable pub counts_ok : Table → Bool
counts_ok t = eqb t.open_jobs (recount t)

-- none of the conditions of row 9 holds
unfoldable pub table_ok : Table → Bool
table_ok t = elements_ok t && counts_ok t
