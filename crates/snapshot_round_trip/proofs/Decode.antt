-- A table that is written and read again is the same table. Assumes nothing.
use Prim.Native.Nat.{ℕ, ◌<◌}
use mathlib.Core.Path.{◌≡◌, sym, subst}
use mathlib.Core.Bool.{true}
use mathlib.Core.List.{List, [], ◌∷◌, ◌++◌, append-nil}
use native.Mathlib.Omega.{arith}
use borrow.Author.Tests.{eq-eqb}
use lib.ListN.{get_or, length-append}
use Rattle.lists.proofs.Keeps.{all_intro}
use Rattle.table.specs.declared.Table.{Table}
use Rattle.table.specs.Views.{no_job, no_machine, no_message, past_bond}
use Rattle.table.proofs.Long.{Long}
use Rattle.snapshot_read.specs.Layout.{bonds_start, jobs_start, machines_start, told_start, pools_start, used_start, messages_start, bond_start, job_start}
use Rattle.snapshot_read.specs.Layout.{machine_start, message_start, bonds_from, jobs_from, machines_from, told_from, pools_from, messages_from, decode}
use Rattle.snapshot_read.specs.Layout.{decodable}
use Rattle.snapshot_write.specs.Bytes.{bond_bytes, job_bytes, machine_bytes, message_bytes, bonds_bytes, jobs_bytes, machines_bytes, messages_bytes}
use Rattle.snapshot_write.specs.Bytes.{entries_bytes}
use Rattle.snapshot_write.specs.Bytes.{machine_state_bytes, numbers_bytes, flight_bytes, encode}
use Rattle.snapshot_write.proofs.Lengths.{length_bond, length_job, length_machine, length_message, length_bonds, length_machines, length_entries}
use Rattle.snapshot_write.proofs.Lengths.{length_machine_state, length_bytes}
use Rattle.snapshot_round_trip.specs.RoundTrip.{Represents}
use Rattle.snapshot.proofs.Parts.{list_is}
use Rattle.snapshot_round_trip.proofs.Starts.{Starts, front, behind, byte, first, element}
use Rattle.snapshot_round_trip.proofs.Elements.{RatesFit, bond_again, bond_decodable, job_again, machine_again, message_again}

-- a table as a program holds it: each list has its array's length, and each rate is a number of binary64
pub record Encodable (t : Table) : Type 0 where
  pub long : Long t
  pub rates : (j : ℕ) → j < 64 → RatesFit (get_or t.bonds j past_bond).terms

-- ---- where each part starts

moved : {s : List ℕ} {a b : ℕ} {x : List ℕ} → Starts s a x → a ≡ b → Starts s b x
moved {s} {x = x} r e = subst (λ (k : ℕ). Starts s k x) e r

module _ (t : Table) where
  whole : Starts (encode t) 0 (encode t)
  whole = record { rest = []; split = sym (append-nil (encode t)) }

  entries_start : Starts (encode t) 0 (entries_bytes t)
  unfolding encode
  entries_start = front (entries_bytes t) (machine_state_bytes t) (front (entries_bytes t ++ machine_state_bytes t) (flight_bytes t) whole)

  machine_state_start : Starts (encode t) machines_start (machine_state_bytes t)
  unfolding encode
  machine_state_start = moved (behind (entries_bytes t) (machine_state_bytes t) (front (entries_bytes t ++ machine_state_bytes t) (flight_bytes t) whole))
      (omega (arith, length_entries t))

  flight_start : Long t → Starts (encode t) used_start (flight_bytes t)
  unfolding encode
  flight_start l =
      moved (behind (entries_bytes t ++ machine_state_bytes t) (flight_bytes t) whole)
      (omega (arith, length-append (entries_bytes t) (machine_state_bytes t), length_entries t, length_machine_state t l))

  counts_start : Starts (encode t) 0 (t.machine_count ∷ t.entry_count ∷ [])
  unfolding entries_bytes
  counts_start = front (t.machine_count ∷ t.entry_count ∷ []) _ (front ((t.machine_count ∷ t.entry_count ∷ []) ++ bonds_bytes t.bonds)
      (jobs_bytes t.jobs) entries_start)

  bonds_start_lem : Starts (encode t) bonds_start (bonds_bytes t.bonds)
  unfolding entries_bytes
  bonds_start_lem = behind (t.machine_count ∷ t.entry_count ∷ []) (bonds_bytes t.bonds)
      (front ((t.machine_count ∷ t.entry_count ∷ []) ++ bonds_bytes t.bonds) (jobs_bytes t.jobs) entries_start)

  jobs_start_lem : Starts (encode t) jobs_start (jobs_bytes t.jobs)
  unfolding entries_bytes
  jobs_start_lem = moved (behind ((t.machine_count ∷ t.entry_count ∷ []) ++ bonds_bytes t.bonds) (jobs_bytes t.jobs) entries_start)
      (omega (arith, length_bonds t.bonds))

  machines_start_lem : Starts (encode t) machines_start (machines_bytes t.machines)
  unfolding machine_state_bytes
  machines_start_lem = front (machines_bytes t.machines) t.told (front (machines_bytes t.machines ++ t.told) t.pools machine_state_start)

  told_start_lem : Starts (encode t) told_start t.told
  unfolding machine_state_bytes
  told_start_lem = moved (behind (machines_bytes t.machines) t.told (front (machines_bytes t.machines ++ t.told) t.pools machine_state_start))
      (omega (arith, length_machines t.machines))

  pools_start_lem : Long t → Starts (encode t) pools_start t.pools
  unfolding machine_state_bytes
  pools_start_lem l =
      moved (behind (machines_bytes t.machines ++ t.told) t.pools machine_state_start)
      (omega (arith, length-append (machines_bytes t.machines) t.told, length_machines t.machines))

  numbers_start : Long t → Starts (encode t) used_start (numbers_bytes t)
  unfolding flight_bytes
  numbers_start l = front (numbers_bytes t) (messages_bytes t.messages) (flight_start l)

  messages_start_lem : Long t → Starts (encode t) messages_start (messages_bytes t.messages)
  unfolding flight_bytes
  messages_start_lem l = behind (numbers_bytes t) (messages_bytes t.messages) (flight_start l)

  -- ---- each array is read again

  bond_start_lem : (i : ℕ) → i < 64 → Starts (encode t) (bond_start i) (bond_bytes (get_or t.bonds i past_bond))
  unfolding bonds_bytes
  bond_start_lem i k = element (λ j. bond_bytes (get_or t.bonds j past_bond)) _ 64 (λ j. length_bond (get_or t.bonds j past_bond)) bonds_start_lem i k

  bonds_again : Encodable t → bonds_from (encode t) ≡ t.bonds
  unfolding bonds_from
  bonds_again h =
      list_is _ t.bonds past_bond 64 h.long.bonds
      (λ i k. bond_again (encode t) (bond_start i) (get_or t.bonds i past_bond) (h.rates i k) (bond_start_lem i k))

  jobs_again : Long t → jobs_from (encode t) ≡ t.jobs
  unfolding jobs_from jobs_bytes
  jobs_again l =
      list_is _ t.jobs no_job 64 l.jobs
      (λ i k. job_again (encode t) (job_start i) (get_or t.jobs i no_job)
      (element (λ j. job_bytes (get_or t.jobs j no_job)) _ 64 (λ j. length_job (get_or t.jobs j no_job)) jobs_start_lem i k))

  machines_again : Long t → machines_from (encode t) ≡ t.machines
  unfolding machines_from machines_bytes
  machines_again l =
      list_is _ t.machines no_machine 16 l.machines
      (λ i k. machine_again (encode t) (machine_start i) (get_or t.machines i no_machine)
      (element (λ j. machine_bytes (get_or t.machines j no_machine)) _ 16 (λ j. length_machine (get_or t.machines j no_machine)) machines_start_lem i k))

  told_again : Long t → told_from (encode t) ≡ t.told
  unfolding told_from
  told_again l = list_is _ t.told 0 256 l.told (λ i k. byte t.told told_start_lem i (omega (arith, l.told)))

  pools_again : Long t → pools_from (encode t) ≡ t.pools
  unfolding pools_from
  pools_again l = list_is _ t.pools 0 1024 l.pools (λ i k. byte t.pools (pools_start_lem l) i (omega (arith, l.pools)))

  messages_again : Long t → messages_from (encode t) ≡ t.messages
  unfolding messages_from messages_bytes
  messages_again l =
      list_is _ t.messages no_message 128 l.messages
      (λ i k. message_again (encode t) (message_start i) (get_or t.messages i no_message)
      (element (λ j. message_bytes (get_or t.messages j no_message)) _ 128 (λ j. length_message (get_or t.messages j no_message))
      (messages_start_lem l) i k))

  -- ---- the whole

  bytes_decodable : Long t → decodable (encode t) ≡ true
  unfolding decodable
  bytes_decodable l =
      rw (eq-eqb _ _ (length_bytes t l))
      (all_intro _ 64 (λ i k. bond_decodable (encode t) (bond_start i) (get_or t.bonds i past_bond) (bond_start_lem i k)))

  table_again : Encodable t → decode (encode t) ≡ t
  unfolding decode
  table_again h =
      let l = h.long in
      rw (
        first t.machine_count _ counts_start,
        byte (t.machine_count ∷ t.entry_count ∷ []) counts_start 1 (omega arith),
        first t.in_flight _ (numbers_start l),
        byte (numbers_bytes t) (numbers_start l) 1 (omega arith),
        bonds_again h,
        jobs_again l,
        machines_again l,
        told_again l,
        pools_again l,
        messages_again l,
      )

  -- the bytes of a table are those of a table, and stand for it
  pub decode_encode : Encodable t → Represents (encode t) t
  decode_encode h = record { form = bytes_decodable h.long; table = table_again h }
