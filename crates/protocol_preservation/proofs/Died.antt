-- Check 9 through Die. The machine and the messages to it go together, so that no order of single updates passes in between:
-- one record, part by part.
-- Assumes nothing.
use Prim.Native.Nat.{ℕ, ◌<◌}
use mathlib.Core.Path.{◌≡◌, sym}
use mathlib.Core.Logic.{◌≢◌}
use mathlib.Core.Bool.{true, ◌&&◌}
use native.Mathlib.Omega.{arith}
use borrow.Author.Tests.{le-leb, eqb-false, not-true}
use lib.Dec.{eqb, leb, ltb}
use Rattle.lists.specs.Scan.{filter}
use Rattle.lists.proofs.Cases.{by_bool, by_eq, and_left}
use Rattle.lists.proofs.Count.{every_map, every_filter}
use Rattle.table.specs.declared.Table.{Table}
use Rattle.table.specs.declared.Message.{Message}
use Rattle.table.specs.Views.{no_machine, machine_at, told_at, flight, with_machine}
use Rattle.table.specs.Messages.{not_to}
use Rattle.table.specs.Pools.{clear_pool}
use Rattle.table.proofs.Views.{Sized, sized_machine}
use Rattle.table.proofs.Messages.{padded_keep_messages}
use Rattle.table.proofs.ClearPool.{sized_clear_pool}
use Rattle.validity_element.specs.Element.{told_ok}
use Rattle.validity.specs.Validity.{sizes_ok, max_replica}
use Rattle.event_admit_deliver_die.specs.AdmitDeliverDie.{died}
use Rattle.event_admit_deliver_die.proofs.Views.{machines_died, entries_died, bond_died, job_died, told_died, flight_died, machine_died}
use Rattle.event_admit_deliver_die.proofs.Views.{machine_died_other, pool_died, pool_died_other}
use Rattle.event_admit_deliver_die.proofs.Cases.{Dying}
use Rattle.protocol_preservation.proofs.Ok.{Ok, Valid, in_flight_ok, machine_count_most}
use Rattle.protocol_preservation.proofs.Sizes.{sized_died}
use Rattle.protocol_preservation.proofs.Counts.{counts_died}

-- who was told of a machine may still have been told of it when it is dead
told_now_dead : (M al m d x : ℕ) → told_ok M al m d x ≡ true → told_ok M 0 m d x ≡ true
told_now_dead M al m d x e =
    by_bool (eqb x 0) (λ f. rw f)
    (λ f.
    let z : eqb x 1 && ltb m M && ltb d M && eqb al 0 ≡ true = rw f at e in
    rw (f, and_left (eqb x 1 && ltb m M && ltb d M) (eqb al 0) z))

-- ---- check 9

max_replica_died : (t : Table) (a : ℕ) → max_replica (died t a) ≡ max_replica t
unfolding max_replica
max_replica_died t a = simp (told_died t a)

module _ (t : Table) (s : Sized t) (o : Ok t) (a : ℕ) (h : a < 16) (nz : a ≢ 0) where
  sizes_died : sizes_ok (died t a) ≡ true
  sizes_died =
      let p = leb 2 t.machine_count in
      let q = leb t.machine_count 16 in
      let c = leb t.entry_count 64 in
      rw (
        machines_died t a,
        entries_died t a,
        le-leb (died t a).in_flight 128 (sized_died t s a).used,
        and_left (p && q && c) (leb t.in_flight 128) o.sizes,
      )

  far : (x : Message) → not_to a x ≡ true → x.to ≢ a
  far x e = eqb-false x.to a (not-true _ e)

  ok_died : Ok (died t a)
  ok_died = record {
    sizes = sizes_died;
    bond = λ j l. simp (entries_died t a, bond_died t a) (o.bond j l);
    job = λ j l. simp (machines_died t a, entries_died t a, max_replica_died t a, job_died t a) (o.job j l);
    machine = λ k l. simp (machines_died t a, entries_died t a, max_replica_died t a) (
        by_eq k a
        (λ e. rw e (simp (machine_died t a s h)))
        (λ e. let q = machine_died_other t a k e in simp q (o.machine k l)));
    pool = λ k i l m. simp (entries_died t a, max_replica_died t a) (
        by_eq k a
        (λ e. let q = pool_died t a i s h m in rw e (simp q))
        (λ e. let q = machine_died_other t a k e in let z = pool_died_other t a k i m e in simp (q, z) (o.pool k i l m)));
    messages = rw (flight_died t a) (every_map (λ x. (in_flight_ok t x ≡ true) × (not_to a x ≡ true)) (λ x. in_flight_ok (died t a) x ≡ true)
        (filter (not_to a) (flight t))
        (λ x c. let q = machine_died_other t a x.to (far x c.1) in simp (machines_died t a, entries_died t a, max_replica_died t a, q) c.0)
        (every_filter (λ x. in_flight_ok t x ≡ true) (not_to a) (flight t) o.messages));
    padded = unfold died in
        padded_keep_messages (with_machine (clear_pool t a) a no_machine) (sized_machine (clear_pool t a) a no_machine (sized_clear_pool t a s)) (not_to a);
    root = rw (machine_died_other t a 0 (λ e. nz (sym e))) o.root;
    told = λ k i l m. simp (machines_died t a, told_died t a) (
        by_eq i a
        (λ e. rw e (simp (machine_died t a s h) (told_now_dead t.machine_count (machine_at t a).alive k a (told_at t k a) (o.told k a l h))))
        (λ e. let q = machine_died_other t a i e in simp q (o.told k i l m)));
  }

pub valid_died : (t : Table) → Valid t → (a : ℕ) → Dying t a → Valid (died t a)
valid_died t v a d =
    let o = v.ok in
    record {
      sized = sized_died t v.sized a;
      ok = ok_died t v.sized o a (omega (arith, d.machine, machine_count_most t o.sizes)) d.other;
      counts = counts_died t v.sized v.counts a;
    }
