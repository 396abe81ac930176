-- The bytes of a snapshot, region after region in the order of document 01, "The table". Definitions only.
-- The sizes and places of the regions, and what the numbers in them stand for, are in `snapshot_read`'s specs/Layout.antt.
use Rattle.std.specs.Prelude.{ℕ, ◌+◌, ◌*◌, ◌/◌, ◌%◌, List, [], ◌∷◌, ◌++◌, get_or}
use Rattle.std.specs.Float.{binary64}
use Rattle.std.specs.Float.Ieee.{to_bits}
use Rattle.text.specs.Text.{joined}
use Rattle.pricer.specs.declared.Bond.{Bond}
use Rattle.pricer.specs.declared.Terms.{Terms}
use Rattle.pricer.specs.declared.Terms.TheVariants.{Zero, Fixed}
use Rattle.table.specs.declared.Job.{Job}
use Rattle.table.specs.declared.Machine.{Machine}
use Rattle.table.specs.declared.Message.{Message}
use Rattle.table.specs.declared.Table.{Table}
use Rattle.snapshot_read.specs.Layout.{machine_size, message_size, machines_start}
use Rattle.table.specs.Views.{no_job, no_machine, no_message, past_bond}

-- ---- numbers, "little-endian": the lower half first

unfoldable pub bytes16 : ℕ → List ℕ
bytes16 x = x % 256 ∷ x / 256 ∷ []

unfoldable pub bytes32 : ℕ → List ℕ
bytes32 x = bytes16 (x % 65536) ++ bytes16 (x / 65536)

unfoldable pub bytes64 : ℕ → List ℕ
bytes64 x = bytes32 (x % 4294967296) ++ bytes32 (x / 4294967296)

-- ---- one element

-- a zero-coupon bond is case 0, a fixed one is case 1
abbrev pub case_of : Terms → ℕ
case_of (Zero y) = 0
case_of (Fixed c y) = 1

-- the coupon of a zero-coupon bond "has all 64 bits clear"
abbrev pub coupon_bits : Terms → ℕ
coupon_bits (Zero y) = 0
coupon_bits (Fixed c y) = to_bits binary64 c

-- the bits of the yield, which both cases carry
abbrev pub yield_bits : Terms → ℕ
yield_bits (Zero y) = to_bits binary64 y
yield_bits (Fixed c y) = to_bits binary64 y

-- "the terms of each entry": case, periods, payments, coupon bits, yield bits
unfoldable pub bond_bytes : Bond → List ℕ
bond_bytes b = (case_of b.terms ∷ b.periods ∷ b.payments ∷ []) ++ bytes64 (coupon_bits b.terms) ++ bytes64 (yield_bits b.terms)

-- "for each job": state, replica, moving, holder, thief, price bits
unfoldable pub job_bytes : Job → List ℕ
job_bytes v = (v.state ∷ v.replica ∷ v.moving ∷ v.holder ∷ v.thief ∷ []) ++ bytes64 v.price

-- "for each machine": alive, the reserved copy (job, replica, thief), the running copy (job, replica), waits
unfoldable pub machine_bytes : Machine → List ℕ
machine_bytes n = n.alive ∷ n.reserved_job ∷ n.reserved_replica ∷ n.reserved_thief ∷ n.running_job ∷ n.running_replica ∷ n.waits ∷ []

-- a message: kind, from, to, job, replica, thief, price bits
unfoldable pub message_bytes : Message → List ℕ
message_bytes m = (m.kind ∷ m.from ∷ m.to ∷ m.job ∷ m.replica ∷ m.thief ∷ []) ++ bytes64 m.price

-- ---- the arrays

unfoldable pub bonds_bytes : List Bond → List ℕ
bonds_bytes l = joined (λ i. bond_bytes (get_or l i past_bond)) 64

unfoldable pub jobs_bytes : List Job → List ℕ
jobs_bytes l = joined (λ i. job_bytes (get_or l i no_job)) 64

unfoldable pub machines_bytes : List Machine → List ℕ
machines_bytes l = joined (λ i. machine_bytes (get_or l i no_machine)) 16

unfoldable pub messages_bytes : List Message → List ℕ
messages_bytes l = joined (λ i. message_bytes (get_or l i no_message)) 128

-- ---- the whole

-- the counts, the terms of each entry and the jobs
unfoldable pub entries_bytes : Table → List ℕ
entries_bytes t = (t.machine_count ∷ t.entry_count ∷ []) ++ bonds_bytes t.bonds ++ jobs_bytes t.jobs

-- how many bytes these are: up to where the machines start
abbrev pub entries_size : ℕ
entries_size = machines_start

-- the machines, what each was told and its pool
unfoldable pub machine_state_bytes : Table → List ℕ
machine_state_bytes t = machines_bytes t.machines ++ t.told ++ t.pools

-- how many bytes these are
abbrev pub machine_state_size : ℕ
machine_state_size = 16 * machine_size + 256 + 1024

-- how many messages are in flight, and how many jobs are open
abbrev pub numbers_bytes : Table → List ℕ
numbers_bytes t = t.in_flight ∷ t.open_jobs ∷ []

-- how many bytes these are
abbrev pub numbers_size : ℕ
numbers_size = 2

-- these numbers, and the messages
unfoldable pub flight_bytes : Table → List ℕ
flight_bytes t = numbers_bytes t ++ messages_bytes t.messages

-- how many bytes these are
abbrev pub flight_size : ℕ
flight_size = numbers_size + 128 * message_size

-- all of them
unfoldable pub encode : Table → List ℕ
encode t = entries_bytes t ++ machine_state_bytes t ++ flight_bytes t
