-- Check 9 where a machine is told of a death: the largest replica number allowed may rise, and every test of a part still passes.
-- Assumes nothing.
use Prim.Native.Nat.{ℕ, suc, ◌≤◌, ◌<◌}
use mathlib.Core.Path.{◌≡◌, sym, ap, ◌∙◌}
use mathlib.Core.Bool.{true, ◌&&◌}
use native.Mathlib.Omega.{arith}
use borrow.Author.Tests.{lt-ltb, eq-eqb, ne_eqb}
use lib.Dec.{eqb}
use Rattle.lists.proofs.Cases.{by_eq, and_left, and_right, and_both}
use Rattle.lists.proofs.Count.{every_map, count_to_up, count_to_one}
use Rattle.table.specs.declared.Table.{Table}
use Rattle.table.specs.Views.{job_at, machine_at, pool_at, told_at, flight, with_told}
use Rattle.table.specs.Parts.{lives}
use Rattle.table.proofs.Views.{Sized, views, told_same, told_other, told_other_machine}
use Rattle.table.proofs.Messages.{Padded}
use Rattle.validity_message.specs.Message.{message_ok}
use Rattle.validity.specs.Validity.{max_replica}
use Rattle.protocol_preservation.proofs.Ok.{Ok, in_flight_ok}
use Rattle.protocol_preservation.proofs.Larger.{job_up, machine_up, cell_up, message_up}

-- ---- the largest replica number allowed

module _ (t : Table) (s : Sized t) (a b : ℕ) (a16 : a < 16) (b16 : b < 16) where
  row : (d : ℕ) → d < 16 → eqb (told_at t 0 d) 1 ≡ true → eqb (told_at (with_told t a b 1) 0 d) 1 ≡ true
  row d l e =
      by_eq d b
      (λ f. by_eq 0 a
      (λ g. eq-eqb _ _ (ap (λ (k : ℕ). told_at (with_told t a b 1) k d) g ∙ ap (told_at (with_told t a b 1) a) f ∙ told_same t s a b 1 a16 b16))
      (λ g. ap (λ (k : ℕ). eqb k 1) (told_other_machine t a b 0 d 1 b16 l g) ∙ e))
      (λ f. ap (λ (k : ℕ). eqb k 1) (told_other t a b 0 d 1 b16 l f) ∙ e)

  pub max_replica_rises : max_replica t ≤ max_replica (with_told t a b 1)
  unfolding max_replica
  max_replica_rises = omega (arith, count_to_up (λ d. eqb (told_at t 0 d) 1) (λ d. eqb (told_at (with_told t a b 1) 0 d) 1) 16 row)

  -- told to the root, and not known before: by one
  pub max_replica_root : a ≡ 0 → told_at t 0 b ≡ 0 → max_replica (with_told t a b 1) ≡ suc (max_replica t)
  unfolding max_replica
  max_replica_root e f =
      omega (
        arith,
        count_to_one (λ d. eqb (told_at t 0 d) 1) (λ d. eqb (told_at (with_told t a b 1) 0 d) 1) 16 b b16
            (ne_eqb (told_at t 0 b) 1 (λ g. omega arith))
            (eq-eqb _ _ (ap (λ (k : ℕ). told_at (with_told t a b 1) k b) (sym e) ∙ told_same t s a b 1 a16 b16))
            (λ i l n. ap (λ (k : ℕ). eqb k 1) (sym (told_other t a b 0 i 1 b16 l n))),
      )

padded_told : (t : Table) (a b r : ℕ) → Padded t → Padded (with_told t a b r)
unfolding Padded
padded_told t a b r p = simp views p

module _ (t : Table) (s : Sized t) (o : Ok t) (a b : ℕ) (a16 : a < 16) (b16 : b < 16) (am : a < t.machine_count) (bm : b < t.machine_count)
    (d : (machine_at t b).alive ≡ 0) where
  pub ok_told : Ok (with_told t a b 1)
  ok_told =
      let M = t.machine_count in
      let E = t.entry_count in
      let B = max_replica t in
      let u = with_told t a b 1 in
      let h : max_replica t ≤ max_replica u = max_replica_rises t s a b a16 b16 in
      record {
        sizes = simp views o.sizes;
        root = simp views o.root;
        bond = simp views o.bond;
        job = simp views (λ j l. job_up M M E B (max_replica u) (omega arith) h j (job_at t j) (o.job j l));
        machine = simp views (λ m l. machine_up M M E B (max_replica u) (omega arith) h m (machine_at t m) (o.machine m l));
        told = simp views (λ k i l m.
            by_eq k a
            (λ e. by_eq i b
            (λ f. rw (e, f) (let q = told_same t s a b 1 a16 b16 in simp (q, lt-ltb a M am, lt-ltb b M bm, d)))
            (λ f. let q = told_other t a b k i 1 b16 m f in simp q (o.told k i l m)))
            (λ e. let q = told_other_machine t a b k i 1 b16 m e in simp q (o.told k i l m)));
        pool = simp views (λ m j l k. cell_up M M E B (max_replica u) (omega arith) h (machine_at t m).alive j (pool_at t m j) (o.pool m j l k));
        messages = simp views (every_map (λ x. in_flight_ok t x ≡ true) (λ x. lives t x.to && message_ok M E (max_replica u) x ≡ true) (flight t)
            (λ x e. and_both (lives t x.to) (message_ok M E (max_replica u) x) (and_left (lives t x.to) (message_ok M E B x) e)
            (message_up M M E B (max_replica u) (omega arith) h x (and_right (lives t x.to) (message_ok M E B x) e))) o.messages);
        padded = padded_told t a b 1 o.padded;
      }
