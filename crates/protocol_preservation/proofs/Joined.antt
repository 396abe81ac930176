-- Check 9 through Join. Every test of a part grows with the machine count, and nothing names a machine from the count on: numbers are in range, unused
-- parts are 0. So the machine that joins has an empty pool and was told of no death, and nobody was told of it.
-- Assumes nothing.
use Prim.Native.Nat.{ℕ, ◌+◌, ◌≤◌, ◌<◌}
use mathlib.Core.Path.{◌≡◌, refl, sym, ap, ◌∙◌}
use mathlib.Core.Logic.{◌≢◌}
use mathlib.Core.Bool.{true}
use native.Mathlib.Omega.{arith}
use borrow.Author.Tests.{lt-ltb, le-leb}
use Rattle.lists.proofs.Cases.{by_eq, and_left, and_right, and_both}
use Rattle.lists.proofs.Count.{every_map}
use Rattle.table.specs.declared.Job.{Job}
use Rattle.table.specs.declared.Table.{Table}
use Rattle.table.specs.Views.{job_at, machine_at, pool_at, told_at, flight}
use Rattle.table.specs.Parts.{lives}
use Rattle.table.proofs.Views.{Sized}
use Rattle.table.proofs.Open.{recount_same}
use Rattle.table.proofs.Messages.{Padded}
use Rattle.validity_message.specs.Message.{message_ok}
use Rattle.validity.specs.Validity.{sizes_ok, max_replica}
use Rattle.event_join.specs.Join.{joined}
use Rattle.event_join.proofs.Cases.{Joining, join_16}
use Rattle.event_join.proofs.Views.{joining, sized_joined, flight_joined, machine_count_joined, entry_count_joined, used_joined, job_joined}
use Rattle.event_join.proofs.Views.{open_joined, machine_joined, machine_joined_other}
use Rattle.protocol_preservation.proofs.Ok.{Ok, Counts, Valid, in_flight_ok}
use Rattle.protocol_preservation.proofs.Facts.{Facts, told_in_lem, to_in}
use Rattle.protocol_preservation.proofs.Larger.{job_up, machine_up, told_up, message_up}
use Rattle.protocol_preservation.proofs.Passed.{facts}

max_replica_joined : (t : Table) (a : ℕ) → max_replica (joined t a) ≡ max_replica t
unfolding max_replica
max_replica_joined t a = simp joining

padded_joined : (t : Table) (a : ℕ) → Padded t → Padded (joined t a)
unfolding Padded
padded_joined t a p = simp joining p

module _ (t : Table) (s : Sized t) (o : Ok t) (a : ℕ) (c : Joining t a) where
  f : Facts t
  f = facts t s o

  a16 : a < 16
  a16 = join_16 t a c

  -- nothing lived under the number a
  pub none_before : (machine_at t a).alive ≡ 0
  none_before =
      by_eq (machine_at t a).alive 1
      (λ e. absurd (omega (arith, (f.machine a a16).alive_in e, c.next)))
      (λ e. omega (arith, (f.machine a a16).alive))

  -- "with empty pool"
  pub pool_none : (j : ℕ) → j < 64 → pool_at t a j ≡ 0
  pool_none j l = f.pool_dead a j a16 l none_before

  -- what was told has to do with machines that are there
  told_there : (m d : ℕ) → m < 16 → d < 16 → told_at t m d ≢ 0 → (m < t.machine_count) × (d < t.machine_count)
  told_there m d l k n = told_in_lem t.machine_count (machine_at t d).alive m d (told_at t m d) (o.told m d l k) n

  -- "and told of no death"; and nobody was told of it
  pub told_none : (d : ℕ) → d < 16 → told_at t a d ≡ 0
  told_none d l = by_eq (told_at t a d) 0 (λ e. e) (λ n. absurd (omega (arith, (told_there a d a16 l n).0, c.next)))

  pub told_of_none : (m : ℕ) → m < 16 → told_at t m a ≡ 0
  told_of_none m l = by_eq (told_at t m a) 0 (λ e. e) (λ n. absurd (omega (arith, (told_there m a l a16 n).1, c.next)))

  -- ---- check 9

  sizes_joined : sizes_ok (joined t a) ≡ true
  sizes_joined =
      rw (
        machine_count_joined t a,
        entry_count_joined t a,
        used_joined t a,
        le-leb 2 (t.machine_count + 1) (omega (arith, f.machine_count_some)),
        le-leb (t.machine_count + 1) 16 (omega (arith, c.room)),
        le-leb t.entry_count 64 f.entry_count_most,
        le-leb t.in_flight 128 f.used_most,
      )

  ok_joined : Ok (joined t a)
  ok_joined =
      let M = t.machine_count in
      let E = t.entry_count in
      let B = max_replica t in
      let N = t.machine_count + 1 in
      let q = max_replica_joined t a in
      let w : M ≤ N = omega arith in
      let h : B ≤ B = omega arith in
      record {
        sizes = sizes_joined;
        bond = λ j l. simp joining (o.bond j l);
        job = λ j l. simp (joining, q) (job_up M N E B B w h j (job_at t j) (o.job j l));
        machine = λ m l. simp (joining, q) (
            by_eq m a
            (λ e. rw (e, machine_joined t a s a16) (rw (lt-ltb a N (omega (arith, c.next)), le-leb 0 N (omega arith)) refl))
            (λ e. rw (machine_joined_other t a m e) (machine_up M N E B B w h m (machine_at t m) (o.machine m l))));
        pool = λ m j l k. simp (joining, q) (
            by_eq m a
            (λ e. rw (e, pool_none j k) refl)
            (λ e. rw (machine_joined_other t a m e) (o.pool m j l k)));
        messages = rw (flight_joined t a) (every_map (λ x. in_flight_ok t x ≡ true) (λ x. in_flight_ok (joined t a) x ≡ true) (flight t)
            (λ x e.
            let g = and_right (lives t x.to) (message_ok M E B x) e in
            let d : x.to ≢ a = λ z. omega (arith, to_in M E B x g, c.next) in
            let n = machine_joined_other t a x.to d in
            simp (joining, q, n) (and_both (lives t x.to) (message_ok N E B x) (and_left (lives t x.to) (message_ok M E B x) e)
            (message_up M N E B B w h x g)))
            o.messages);
        padded = padded_joined t a o.padded;
        root = rw (machine_joined_other t a 0 (λ z. omega (arith, c.next, f.machine_count_some))) o.root;
        told = λ m d l k. simp joining (
            by_eq d a
            (λ e. rw (e, told_of_none m l) refl)
            (λ e. rw (machine_joined_other t a d e)
            (told_up M N E B B w h (machine_at t d).alive m d (told_at t m d) (o.told m d l k))));
      }

counts_joined : (t : Table) (a : ℕ) → Counts t → Counts (joined t a)
counts_joined t a c =
    record { open_jobs = open_joined t a ∙ c.open_jobs ∙ sym (recount_same t (joined t a) (λ i l. ap (λ (v : Job). v.state) (job_joined t a i))) }

pub valid_joined : (t : Table) → Valid t → (a : ℕ) → Joining t a → Valid (joined t a)
valid_joined t v a c =
    record {
      sized = sized_joined t a v.sized;
      ok = ok_joined t v.sized v.ok a c;
      counts = counts_joined t a v.counts;
    }
