-- Check 9 through Admit, Steal, Deliver, Start and Done: what each accepted event returns passes again. The premise is what its refusals have tested.
-- Assumes nothing.
use Prim.Native.Nat.{ℕ, ◌+◌, ◌<◌}
use mathlib.Core.Path.{◌≡◌, refl}
use mathlib.Core.Bool.{true}
use native.Mathlib.Omega.{arith}
use borrow.Author.Tests.{eqb-true, lt-ltb}
use lib.ListN.{get_or}
use Rattle.lists.proofs.Cases.{and_left, and_right}
use Rattle.lists.proofs.Count.{every_at}
use Rattle.pricer.specs.Price.{price_bits}
use Rattle.table.specs.declared.Table.{Table}
use Rattle.table.specs.Views.{no_message, bond_at, machine_at, pool_at, message_at, flight, with_job, with_machine, with_pool}
use Rattle.table.specs.Pools.{enter}
use Rattle.table.specs.Messages.{remove_at}
use Rattle.table.specs.Needs.{RoomFor}
use Rattle.table.specs.Parts.{opened, running, waiting, lives, message, result, FISH}
use Rattle.table.proofs.Views.{Sized, views, sized_job, sized_machine, sized_pool, length_flight, room_machine}
use Rattle.table.proofs.Messages.{message_flight, sized_send, sized_remove_at}
use Rattle.validity_element.specs.Element.{copy_ok}
use Rattle.validity_message.specs.Message.{message_ok}
use Rattle.validity.specs.Validity.{max_replica}
use Rattle.event_admit_deliver_die.specs.AdmitDeliverDie.{admitted, delivered}
use Rattle.event_admit_deliver_die.proofs.Cases.{Admitting}
use Rattle.event_steal.specs.Steal.{stolen}
use Rattle.event_steal.proofs.Cases.{Stealing}
use Rattle.event_start_done.specs.StartDone.{started, finished}
use Rattle.event_start_done.proofs.Cases.{Starting, Finishing}
use Rattle.protocol_preservation.proofs.Ok.{Ok, Valid, in_flight_ok, machine_count_some, machine_count_most, entry_count_most}
use Rattle.protocol_preservation.proofs.Facts.{copy_is_lem, copy_job, max_replica_pos, job_opened, running_copy, machine_running, machine_idle}
use Rattle.protocol_preservation.proofs.Facts.{cell_copy}
use Rattle.protocol_preservation.proofs.Updates.{wide, ok_job, ok_machine, ok_pool, ok_remove_at, ok_send}
use Rattle.protocol_preservation.proofs.Sizes.{used_remove_at, sized_admitted, sized_delivered, sized_started}
use Rattle.protocol_preservation.proofs.Counts.{counts_admitted, counts_stolen, counts_delivered, counts_started, counts_finished}
use Rattle.protocol_preservation.proofs.Handled.{ok_enter, ok_waiting, ok_handle}

-- ---- a message in flight, by its slot

module _ (t : Table) (s : Sized t) (o : Ok t) (i : ℕ) (h : i < t.in_flight) where
  pub in_flight : in_flight_ok t (message_at t i) ≡ true
  in_flight =
      let n = length_flight t s in
      let e : in_flight_ok t (get_or (flight t) i no_message) ≡ true =
      every_at (λ x. in_flight_ok t x ≡ true) (flight t) i no_message (omega arith) o.messages in
      rw (message_flight t s i h) at e

  pub slot_message : message_ok t.machine_count t.entry_count (max_replica t) (message_at t i) ≡ true
  slot_message = and_right (lives t (message_at t i).to) (message_ok t.machine_count t.entry_count (max_replica t) (message_at t i)) in_flight

  pub slot_alive : (machine_at t (message_at t i).to).alive ≡ 1
  slot_alive =
      eqb-true _ _
      (and_left (lives t (message_at t i).to) (message_ok t.machine_count t.entry_count (max_replica t) (message_at t i)) in_flight)

module _ (t : Table) (s : Sized t) (o : Ok t) where
  -- ---- Admit

  -- a job that becomes open on the root and enters its pool, with a replica number that fits
  pub ok_opened : (j r : ℕ) → copy_ok t.entry_count (max_replica t) j r ≡ true → Ok (enter (with_job t j (opened r)) 0 j r)
  ok_opened j r c =
      let h : j < 64 = omega (arith, copy_job t.entry_count (max_replica t) j r c, entry_count_most t o.sizes) in
      let g = job_opened t.machine_count t.entry_count (max_replica t) j r (omega (arith, machine_count_some t o.sizes)) c in
      ok_enter (with_job t j (opened r)) (sized_job t j (opened r) s) (ok_job t s o j (opened r) h g) 0 j r (omega arith)
      (simp views (eqb-true _ _ o.root)) (simp wide c)

module _ (t : Table) (v : Valid t) where
  abbrev s : Sized t
  s = v.sized

  abbrev o : Ok t
  o = v.ok

  pub valid_admitted : (a : ℕ) → Admitting t a → Valid (admitted t a)
  unfolding admitted
  valid_admitted a d = record {
    sized = sized_admitted t s a;
    ok = ok_opened t s o a 1 (copy_is_lem t.entry_count (max_replica t) a 1 d.entry (omega arith) (max_replica_pos t));
    counts = counts_admitted t s v.counts a;
  }

  -- ---- Steal

  pub valid_stolen : (a b : ℕ) → Stealing t a b → Valid (stolen t a b)
  unfolding stolen message
  valid_stolen a b d =
      let M = t.machine_count in
      let n = waiting (machine_at t a) (b + 1) in
      let uo = ok_waiting t s o a (b + 1) (omega (arith, d.machine, machine_count_most t o.sizes)) d.alive (omega (arith, d.victim)) in
      let us = sized_machine t a n s in
      let x = message FISH a b 0 0 0 in
      let room = room_machine t a n (unfold waiting in refl) b d.room in
      record {
        sized = sized_send (with_machine t a n) us x room;
        ok = ok_send (with_machine t a n) us uo x room (simp wide (rw (lt-ltb a M d.machine, lt-ltb b M d.victim)));
        counts = counts_stolen t s v.counts a b;
      }

  -- ---- Deliver

  pub valid_delivered : (k : ℕ) → k < t.in_flight → Valid (delivered t k)
  unfolding delivered
  valid_delivered k h =
      let u = s.used in
      let q = used_remove_at t k in
      record {
        sized = sized_delivered t s k h;
        ok = ok_handle (remove_at t k) (message_at t k) (sized_remove_at t s k h) (ok_remove_at t s o k h) (omega arith)
            (unfold remove_at in simp wide (slot_message t s o k h))
            (unfold remove_at in simp wide (slot_alive t s o k h));
        counts = counts_delivered t s v.counts k;
      }

  -- ---- Start

  pub valid_started : (a b : ℕ) → Starting t a b → Valid (started t a b)
  unfolding started
  valid_started a b d =
      let M = t.machine_count in
      let E = t.entry_count in
      let B = max_replica t in
      let n = machine_at t a in
      let q = pool_at t a b in
      let a16 : a < 16 = omega (arith, d.machine, machine_count_most t o.sizes) in
      let b64 : b < 64 = omega (arith, d.entry, entry_count_most t o.sizes) in
      let c = cell_copy E B n.alive b q (o.pool a b a16 b64) d.pooled in
      record {
        sized = sized_started t s a b;
        ok = ok_machine (with_pool t a b 0) (sized_pool t a b 0 s) (ok_pool t s o a b 0 a16 b64 refl) a (running n b q) a16
            (unfold running in simp views)
            (simp wide (machine_running M E B a n (o.machine a a16) d.alive b q c));
        counts = counts_started t s v.counts a b;
      }

  -- ---- Done

  pub valid_finished : (a : ℕ) → Finishing t a → Valid (finished t a)
  unfolding finished result
  valid_finished a d =
      let M = t.machine_count in
      let E = t.entry_count in
      let B = max_replica t in
      let a16 : a < 16 = omega (arith, d.machine, machine_count_most t o.sizes) in
      let w = machine_at t a in
      let j = w.running_job in
      let r = w.running_replica in
      let c = running_copy M E B a w (o.machine a a16) d.alive d.runs in
      let n = running w 0 0 in
      let uo : Ok (with_machine t a n) = ok_machine t s o a n a16 (unfold running in refl) (machine_idle M E B a w (o.machine a a16) d.alive) in
      let us = sized_machine t a n s in
      let x = result a j r (price_bits (bond_at t j)) in
      let room : RoomFor (with_machine t a n) 0 = λ e. simp views d.room in
      record {
        sized = sized_send (with_machine t a n) us x room;
        ok = ok_send (with_machine t a n) us uo x room
            (simp wide (rw (lt-ltb a M d.machine, lt-ltb 0 M (omega (arith, machine_count_some t o.sizes)), c)));
        counts = counts_finished t s v.counts a;
      }
