-- With nothing in flight, nothing running and a root that was told of every death, each open job is in the pool of the living machine that it is on.
-- Assumes nothing.
use mathlib.Core.Path.{◌≡◌, refl, ap}
use mathlib.Core.Logic.{◌≢◌}
use mathlib.Core.Bool.{Bool, true}
use Prim.Native.Nat.{ℕ, ◌≤◌, ◌<◌}
use native.Mathlib.Omega.{arith}
use lib.Dec.{eqb}
use borrow.Author.Tests.{eq-eqb, ne_eqb, eqb-true}
use Rattle.table.specs.declared.Machine.{Machine}
use Rattle.table.specs.declared.Message.{Message}
use Rattle.table.specs.declared.Table.{Table}
use Rattle.table.specs.Views.{job_at, machine_at, pool_at, told_at, flight}
use Rattle.table.specs.Parts.{copy_is, reserves, OPEN}
use Rattle.lists.proofs.Cases.{by_bool, by_eq}
use Rattle.lists.proofs.Count.{ind, count}
use Rattle.theorem_invariant.proofs.State.{about, transfer, result_from, has, held}
use Rattle.theorem_invariant.proofs.TransferLaws.{dead_not}
use Rattle.theorem_invariant.proofs.TransferCopies.{reserves_job_none, runs_job_none}
use Rattle.theorem_drain.proofs.Deliveries.{Drained, flight_empty}

reserves_own : (n : Machine) → n.reserved_replica ≢ 0 → reserves n n.reserved_job n.reserved_replica n.reserved_thief ≡ true
unfolding reserves copy_is
reserves_own n h =
    rw (
      ne_eqb n.reserved_replica 0 h,
      eq-eqb n.reserved_job n.reserved_job refl,
      eq-eqb n.reserved_replica n.reserved_replica refl,
      eq-eqb n.reserved_thief n.reserved_thief refl,
    )

-- job j is in the pool of p
pub record Pooled (t : Table) (j p : ℕ) : Type 0 where
  pub lives : (machine_at t p).alive ≡ 1
  pub there : pool_at t p j ≢ 0

module _ (t : Table) (q : Drained t) (rests : (m : ℕ) → m < 16 → (machine_at t m).running_replica ≡ 0) where
  none : (p : Message → Bool) → count p (flight t) ≡ 0
  none p = rw (flight_empty t q.empty)

  -- the root was not told that d is dead: it lives
  lives : (d : ℕ) → d < t.machine_count → told_at t 0 d ≡ 0 → (machine_at t d).alive ≡ 1
  lives d l e = by_eq (machine_at t d).alive 1 (λ f. f) (λ f. absurd (q.informed d l f e))

  -- nothing is reserved
  free : (m : ℕ) → m < 16 → (machine_at t m).alive ≡ 1 → (machine_at t m).reserved_replica ≡ 0
  free m l a =
      let n = machine_at t m in
      let w = q.invariant in
      by_eq n.reserved_replica 0 (λ e. e)
      (λ e.
      let th = n.reserved_thief in
      let c = w.reservation m th n.reserved_job n.reserved_replica l (w.facts.machine m l).reserved_thief a
      ((w.untold.copies m l).untold e) in
      absurd (omega (arith, c, none (about m th n.reserved_job n.reserved_replica), ap ind (reserves_own n e))))

  pub open_pooled : (j : ℕ) → j < 64 → (job_at t j).state ≡ OPEN → Pooled t j (job_at t j).holder
  unfolding held has
  open_pooled j h o =
      let w = q.invariant in
      let g = w.transfer in
      let f = w.facts.job j h in
      let r = (job_at t j).replica in
      let p = (job_at t j).holder in
      let al : (machine_at t p).alive ≡ 1 = lives p f.holder_in ((w.untold.placed j h).holder o) in
      let still : (job_at t j).moving ≡ 0 =
      by_eq (job_at t j).moving 1
      (λ e. absurd
      (omega (
        arith,
        g.moved j h o e,
        none (transfer j r),
        dead_not t p al,
        dead_not t (job_at t j).thief (lives (job_at t j).thief f.thief_in ((w.untold.placed j h).thief o e)),
      )))
      (λ e. omega (arith, f.moving)) in
      let some : 1 ≤ r = f.some (λ e. omega arith) in
      let pool : 1 ≤ ind (eqb (pool_at t p j) r) =
      omega (
        arith,
        g.on j h o still,
        none (result_from j p),
        dead_not t p al,
        ap ind (reserves_job_none (machine_at t p) j r (free p f.holder al)),
        ap ind (runs_job_none (machine_at t p) j r (rests p f.holder)),
      ) in
      record {
        lives = al;
        there = by_bool (eqb (pool_at t p j) r)
            (λ e. let same : pool_at t p j ≡ r = eqb-true (pool_at t p j) r e in λ z. omega arith)
            (λ e. absurd (omega (arith, ap ind e)));
      }
