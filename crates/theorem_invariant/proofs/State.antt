-- The protocol's invariant, clause by clause, over a table and a list of messages: those in flight, and while one is being handled that one too.
-- ReservationMatched: the reserved copies and the messages about them. Transfer: a job's way from machine to machine, and where its current copy is.
-- Untold: who has been told of whom, and what is reserved or runs. Prices: every price is the formula's.
-- The table is read through its views alone. What check 9 says of a table is in the record Facts.
-- Assumes nothing.
use mathlib.Core.Path.{◌≡◌}
use mathlib.Core.Logic.{◌≢◌}
use mathlib.Core.Bool.{Bool, true, not, cond, ◌&&◌, ◌||◌}
use mathlib.Core.List.{List}
use Prim.Native.Nat.{ℕ, ◌+◌, ◌≤◌, ◌<◌}
use native.Mathlib.Omega.{arith}
use lib.Dec.{eqb, leb}
use Rattle.pricer.specs.Price.{price_bits}
use Rattle.table.specs.declared.Job.{Job}
use Rattle.table.specs.declared.Machine.{Machine}
use Rattle.table.specs.declared.Message.{Message}
use Rattle.table.specs.declared.Table.{Table}
use Rattle.table.specs.Views.{bond_at, job_at, machine_at, pool_at, told_at, flight}
use Rattle.table.specs.Parts.{copy_is, reserves, REQ, AUTH, OBSOLETE, SCHEDULE, ACK, RESULT, OPEN, PRICED}
use Rattle.table.proofs.Views.{Sized}
use Rattle.lists.proofs.Count.{ind, count, Every}
use Rattle.protocol_preservation.proofs.Ok.{Ok, Counts, Valid}
use Rattle.protocol_preservation.proofs.Facts.{Facts, MessageFacts}
use Rattle.protocol_preservation.proofs.Passed.{facts}

-- ---- the messages that the clauses count

-- an answer to a REQ: AUTH, DENIED or OBSOLETE
unfoldable pub is_answer : ℕ → Bool
is_answer k = leb AUTH k && leb k OBSOLETE

-- a REQ from m, or an answer to m, about the copy (j, q) for thief th
unfoldable pub about : ℕ → ℕ → ℕ → ℕ → Message → Bool
about m th j q x =
    cond (eqb x.kind REQ) (eqb x.from m) (is_answer x.kind && eqb x.to m)
    && copy_is x.job x.replica x.thief j q th

-- AUTH, SCHEDULE or ACK: the kinds of a job's way from its holder to a thief and of the news of it
unfoldable pub is_transfer : ℕ → Bool
is_transfer k = eqb k AUTH || (eqb k SCHEDULE || eqb k ACK)

-- one of these three, of the copy (j, r)
unfoldable pub transfer : ℕ → ℕ → Message → Bool
transfer j r x = is_transfer x.kind && (eqb x.job j && eqb x.replica r)

-- ACK (j, r) from p
unfoldable pub ack_from : ℕ → ℕ → ℕ → Message → Bool
ack_from j r p x = eqb x.kind ACK && (eqb x.from p && (eqb x.job j && eqb x.replica r))

-- RESULT of job j from p, of any replica
unfoldable pub result_from : ℕ → ℕ → Message → Bool
result_from j p x = eqb x.kind RESULT && (eqb x.from p && eqb x.job j)

-- ---- where a copy is

-- the reserved copy is (j, r), for any thief
unfoldable pub reserves_job : Machine → ℕ → ℕ → Bool
reserves_job n j r = not (eqb n.reserved_replica 0) && (eqb n.reserved_job j && eqb n.reserved_replica r)

-- the running copy is (j, r)
unfoldable pub runs_job : Machine → ℕ → ℕ → Bool
runs_job n j r = not (eqb n.running_replica 0) && (eqb n.running_job j && eqb n.running_replica r)

-- 1 for a dead machine
unfoldable pub dead : Table → ℕ → ℕ
dead t p = ind (not (eqb (machine_at t p).alive 1))

-- 1 or more: machine p is dead, or has the copy (j, r) in its pool, reserved or running
unfoldable pub has : Table → ℕ → ℕ → ℕ → ℕ
has t j r p = dead t p + ind (eqb (pool_at t p j) r) + ind (reserves_job (machine_at t p) j r) + ind (runs_job (machine_at t p) j r)

-- 1 or more: the same, or a RESULT of job j from p is in the list
unfoldable pub held : Table → List Message → ℕ → ℕ → ℕ → ℕ
held t l j r p = has t j r p + count (result_from j p) l

-- ---- the clauses

-- C: a living machine m that was not told of th has the copy (j, q) reserved for th exactly where one message is about that copy
abbrev pub ReservationMatched : Table → List Message → Type 0
ReservationMatched t l =
    (m th j q : ℕ) → m < 16 → th < 16 → (machine_at t m).alive ≡ 1 → told_at t m th ≡ 0
    → count (about m th j q) l ≡ ind (reserves (machine_at t m) j q th)

-- where a message of an open job's current copy stands between the two ends of its way
pub record Ends (t : Table) (x : Message) : Type 0 where
  pub auth : x.kind ≡ AUTH → ((job_at t x.job).holder ≡ x.to) × ((job_at t x.job).thief ≡ x.thief)
  pub schedule : x.kind ≡ SCHEDULE → ((job_at t x.job).holder ≡ x.from) × ((job_at t x.job).thief ≡ x.to)
  pub ack : x.kind ≡ ACK → (job_at t x.job).thief ≡ x.from

-- of one message
pub record Known (t : Table) (x : Message) : Type 0 where
  -- R: no replica number above the job's
  pub cap : x.replica ≤ (job_at t x.job).replica
  -- O: an OBSOLETE is not of an open job's current copy
  pub old : x.kind ≡ OBSOLETE → (job_at t x.job).state ≡ OPEN → x.replica < (job_at t x.job).replica
  -- the ends of the job's place, of a message of its current copy
  pub ends : (job_at t x.job).state ≡ OPEN → x.replica ≡ (job_at t x.job).replica → Ends t x

-- R, O, N, S and H: the replica numbers, and where the current copy of an open job is
pub record Transfer (t : Table) (l : List Message) : Type 0 where
  -- R, O, and the ends
  pub known : Every (Known t) l
  -- R: the pools
  pub pools : (m j : ℕ) → m < 16 → j < 64 → pool_at t m j ≤ (job_at t j).replica
  -- N: an open job has at most one message on its way, and none while it is on one machine
  pub moves : (j : ℕ) → j < 64 → (job_at t j).state ≡ OPEN → count (transfer j (job_at t j).replica) l ≤ (job_at t j).moving
  -- S: an open job on p is held there
  pub on : (j : ℕ) → j < 64 → (job_at t j).state ≡ OPEN → (job_at t j).moving ≡ 0 → 1 ≤ held t l j (job_at t j).replica (job_at t j).holder
  -- S: an open job moves between two machines of which one is dead, or a message is on its way
  pub moved : (j : ℕ) → j < 64 → (job_at t j).state ≡ OPEN → (job_at t j).moving ≡ 1
      → 1 ≤ dead t (job_at t j).holder + dead t (job_at t j).thief + count (transfer j (job_at t j).replica) l
  -- H: who sent an ACK of an open job's current copy holds it
  pub acked : (j p : ℕ) → j < 64 → p < 16 → (job_at t j).state ≡ OPEN → 1 ≤ count (ack_from j (job_at t j).replica p) l
      → 1 ≤ held t l j (job_at t j).replica p

-- of a message's sender
pub record Sender (t : Table) (x : Message) : Type 0 where
  -- F: an answer is the root's
  pub root : is_answer x.kind ≡ true → x.from ≡ 0
  -- D1: the receiver was not told that the sender is dead
  pub untold : told_at t x.to x.from ≡ 0

-- of machine m's reserved and running copies
pub record Copies (t : Table) (m : ℕ) (n : Machine) : Type 0 where
  -- R: the reserved copy
  pub reserved : n.reserved_replica ≤ (job_at t n.reserved_job).replica
  -- R: the running copy
  pub running : n.running_replica ≤ (job_at t n.running_job).replica
  -- D2: m was not told that the thief is dead
  pub untold : n.reserved_replica ≢ 0 → told_at t m n.reserved_thief ≡ 0

-- P: the root was not told that a machine of an open job's place is dead
pub record Placed (t : Table) (v : Job) : Type 0 where
  pub holder : v.state ≡ OPEN → told_at t 0 v.holder ≡ 0
  pub thief : v.state ≡ OPEN → v.moving ≡ 1 → told_at t 0 v.thief ≡ 0

-- D1, F, D2, R and P: what no machine was told of
pub record Untold (t : Table) (l : List Message) : Type 0 where
  -- D1, F
  pub sender : Every (Sender t) l
  -- D2, R
  pub copies : (m : ℕ) → m < 16 → Copies t m (machine_at t m)
  -- P
  pub placed : (j : ℕ) → j < 64 → Placed t (job_at t j)

-- a RESULT carries the price of its job's terms
abbrev pub RightPrice : Table → Message → Type 0
RightPrice t x = x.kind ≡ RESULT → x.price ≡ price_bits (bond_at t x.job)

-- X: prices are the formula's
pub record Prices (t : Table) (l : List Message) : Type 0 where
  pub sent : Every (RightPrice t) l
  pub shown : (j : ℕ) → j < 64 → (job_at t j).state ≡ PRICED → (job_at t j).price ≡ price_bits (bond_at t j)

-- the whole invariant of a table between two events
pub record Invariant (t : Table) : Type 0 where
  pub sized : Sized t
  -- W: the table passes check 9, and what that says in plain numbers
  pub ok : Ok t
  pub counts : Counts t
  pub facts : Facts t
  pub reservation : ReservationMatched t (flight t)
  pub transfer : Transfer t (flight t)
  pub untold : Untold t (flight t)
  pub prices : Prices t (flight t)

-- the plain facts follow from check 9
pub invariant : (t : Table) → Valid t → ReservationMatched t (flight t) → Transfer t (flight t) → Untold t (flight t) → Prices t (flight t)
    → Invariant t
invariant t v c r d p =
    record {
      sized = v.sized;
      ok = v.ok;
      counts = v.counts;
      facts = facts t v.sized v.ok;
      reservation = c;
      transfer = r;
      untold = d;
      prices = p;
    }

module _ (t : Table) (w : Invariant t) where
  pub valid : Valid t
  valid = record { sized = w.sized; ok = w.ok; counts = w.counts }

  pub machine_16 : (a : ℕ) → a < t.machine_count → a < 16
  machine_16 a l = omega (arith, w.facts.machine_count_most)

  pub entry_64 : (a : ℕ) → a < t.entry_count → a < 64
  entry_64 a l = omega (arith, w.facts.entry_count_most)

-- a message x that was taken off, and the table s that is left for its handler
pub record Received (s : Table) (x : Message) : Type 0 where
  pub sized : Sized s
  pub room : s.in_flight < 128
  pub facts : Facts s
  pub message : MessageFacts s x
