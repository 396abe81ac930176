-- Check 9 through one update of the table: what is asked is the test of the one new part.
-- Assumes nothing.
use Prim.Native.Nat.{ℕ, ◌≤◌, ◌<◌}
use mathlib.Core.Path.{◌≡◌}
use mathlib.Core.Bool.{Bool, true, ◌&&◌}
use mathlib.Core.List.{List}
use native.Mathlib.Omega.{arith}
use borrow.Author.Tests.{eqb-true, le-leb}
use lib.Dec.{eqb, leb}
use Rattle.lists.specs.Scan.{filter}
use Rattle.lists.proofs.Scans.{length_filter}
use Rattle.lists.proofs.Cases.{by_bool, by_eq, and_left}
use Rattle.lists.proofs.Count.{Every, every_map, every_append, every_delete, every_filter}
use Rattle.table.specs.declared.Table.{Table}
use Rattle.table.specs.declared.Job.{Job}
use Rattle.table.specs.declared.Machine.{Machine}
use Rattle.table.specs.declared.Message.{Message}
use Rattle.table.specs.Views.{machine_at, flight, with_job, with_machine, with_pool, with_messages}
use Rattle.table.specs.Messages.{push, remove_at, keep_messages, send}
use Rattle.table.specs.Needs.{RoomFor}
use Rattle.table.proofs.Views.{Sized, views, job_same, job_other, machine_same, machine_other, pool_same, pool_other_machine, pool_other_job}
use Rattle.table.proofs.Views.{alive_machine, length_flight}
use Rattle.table.proofs.Messages.{Padded, flight_push, flight_remove_at, flight_keep_messages, padded_push, padded_remove_at}
use Rattle.table.proofs.Messages.{padded_keep_messages}
use Rattle.validity_element.specs.Element.{job_ok, machine_ok, cell_ok}
use Rattle.validity_message.specs.Message.{message_ok}
use Rattle.validity.specs.Validity.{sizes_ok, max_replica}
use Rattle.protocol_preservation.proofs.Ok.{Ok, in_flight_ok}

-- ---- what an update leaves

pub max_replica_job : (t : Table) (j : ℕ) (v : Job) → max_replica (with_job t j v) ≡ max_replica t
unfolding max_replica
max_replica_job t j v = simp views

pub max_replica_machine : (t : Table) (m : ℕ) (v : Machine) → max_replica (with_machine t m v) ≡ max_replica t
unfolding max_replica
max_replica_machine t m v = simp views

pub max_replica_pool : (t : Table) (m j r : ℕ) → max_replica (with_pool t m j r) ≡ max_replica t
unfolding max_replica
max_replica_pool t m j r = simp views

pub max_replica_messages : (t : Table) (n : ℕ) (l : List Message) → max_replica (with_messages t n l) ≡ max_replica t
unfolding max_replica
max_replica_messages t n l = simp views

padded_job : (t : Table) (j : ℕ) (v : Job) → Padded t → Padded (with_job t j v)
unfolding Padded
padded_job t j v p = simp views p

padded_machine : (t : Table) (m : ℕ) (v : Machine) → Padded t → Padded (with_machine t m v)
unfolding Padded
padded_machine t m v p = simp views p

padded_pool : (t : Table) (m j r : ℕ) → Padded t → Padded (with_pool t m j r)
unfolding Padded
padded_pool t m j r p = simp views p

pub ruleset wide = (views, max_replica_job, max_replica_machine, max_replica_pool, max_replica_messages)

sizes_messages : (t : Table) (n : ℕ) (l : List Message) → n ≤ 128 → sizes_ok t ≡ true → sizes_ok (with_messages t n l) ≡ true
unfolding with_messages
sizes_messages t n l h e =
    let a = leb 2 t.machine_count in
    let b = leb t.machine_count 16 in
    let c = leb t.entry_count 64 in
    rw (le-leb n 128 h, and_left (a && b && c) (leb t.in_flight 128) e)

-- ---- the updates

module _ (t : Table) (s : Sized t) (o : Ok t) where
  pub ok_job : (j : ℕ) (v : Job) → j < 64 → job_ok t.machine_count t.entry_count (max_replica t) j v ≡ true → Ok (with_job t j v)
  ok_job j v h g = record {
    sizes = simp wide o.sizes;
    bond = simp wide o.bond;
    job = λ k l. simp wide (by_eq k j (λ e. rw (e, job_same t s j v h) g) (λ e. rw (job_other t j k v e) (o.job k l)));
    machine = simp wide o.machine;
    pool = simp wide o.pool;
    messages = simp wide o.messages;
    padded = padded_job t j v o.padded;
    root = simp wide o.root;
    told = simp wide o.told;
  }

  -- the machine stays alive, or stays dead
  pub ok_machine : (m : ℕ) (v : Machine) → m < 16 → v.alive ≡ (machine_at t m).alive
      → machine_ok t.machine_count t.entry_count (max_replica t) m v ≡ true → Ok (with_machine t m v)
  ok_machine m v h a g =
      let al : (k : ℕ) → (machine_at (with_machine t m v) k).alive ≡ (machine_at t k).alive = alive_machine t m v a in
      record {
        sizes = simp wide o.sizes;
        bond = simp wide o.bond;
        job = simp wide o.job;
        machine = λ k l. simp wide (by_eq k m (λ e. rw (e, machine_same t s m v h) g) (λ e. rw (machine_other t m k v e) (o.machine k l)));
        pool = simp (wide, al) o.pool;
        messages = simp (wide, al) o.messages;
        padded = padded_machine t m v o.padded;
        root = simp al o.root;
        told = simp (wide, al) o.told;
      }

  pub ok_pool : (m j r : ℕ) → m < 16 → j < 64 → cell_ok t.entry_count (max_replica t) (machine_at t m).alive j r ≡ true → Ok (with_pool t m j r)
  ok_pool m j r h k g = record {
    sizes = simp wide o.sizes;
    bond = simp wide o.bond;
    job = simp wide o.job;
    machine = simp wide o.machine;
    pool = λ n i a b. simp wide (
        by_eq n m
        (λ e. by_eq i j
        (λ d. rw (e, d, pool_same t s m j r h k) g)
        (λ d. rw (pool_other_job t m j n i r k b d) (o.pool n i a b)))
        (λ e. rw (pool_other_machine t m j n i r k b e) (o.pool n i a b)));
    messages = simp wide o.messages;
    padded = padded_pool t m j r o.padded;
    root = simp wide o.root;
    told = simp wide o.told;
  }

  pub ok_messages : (n : ℕ) (l : List Message) → n ≤ 128 → Every (λ x. in_flight_ok t x ≡ true) (flight (with_messages t n l))
      → Padded (with_messages t n l) → Ok (with_messages t n l)
  ok_messages n l h m p = record {
    sizes = sizes_messages t n l h o.sizes;
    bond = simp wide o.bond;
    job = simp wide o.job;
    machine = simp wide o.machine;
    pool = simp wide o.pool;
    messages = simp wide m;
    padded = p;
    root = simp wide o.root;
    told = simp wide o.told;
  }

-- ---- the messages

module _ (t : Table) (s : Sized t) (o : Ok t) where
  pub ok_push : (x : Message) → t.in_flight < 128 → in_flight_ok t x ≡ true → Ok (push t x)
  unfolding push
  ok_push x l g =
      ok_messages t s o _ _ (omega arith)
      (rw (flight_push t s x l) (every_append (λ y. in_flight_ok t y ≡ true) (flight t) x o.messages g))
      (padded_push t s x l o.padded)

  pub ok_remove_at : (k : ℕ) → k < t.in_flight → Ok (remove_at t k)
  unfolding remove_at
  ok_remove_at k h =
      let u = s.used in
      ok_messages t s o _ _ (omega arith)
      (rw (flight_remove_at t s k h) (every_delete (λ y. in_flight_ok t y ≡ true) (flight t) k o.messages))
      (padded_remove_at t s k h o.padded)

  pub ok_keep_messages : (p : Message → Bool) → Ok (keep_messages t p)
  unfolding keep_messages
  ok_keep_messages p =
      let a = length_filter p (flight t) in
      let b = length_flight t s in
      ok_messages t s o _ _ (omega (arith, s.used))
      (rw (flight_keep_messages t p)
      (every_map (λ x. (in_flight_ok t x ≡ true) × (p x ≡ true)) (λ x. in_flight_ok t x ≡ true) (filter p (flight t)) (λ x e. e.0)
      (every_filter (λ x. in_flight_ok t x ≡ true) p (flight t) o.messages)))
      (padded_keep_messages t s p)

  pub ok_send : (x : Message) → RoomFor t x.to → message_ok t.machine_count t.entry_count (max_replica t) x ≡ true → Ok (send t x)
  unfolding send
  ok_send x l g =
      by_bool (eqb (machine_at t x.to).alive 1)
      (λ e. rw (e, send) (ok_push x (l (eqb-true _ 1 e)) (rw e g)))
      (λ e. rw (e, send) o)
