-- What a machine has of a job's current copy (`has`), through the updates of one machine and of one place of a pool.
-- Assumes nothing.
use mathlib.Core.Path.{◌≡◌, refl, sym, ap, ◌∙◌}
use mathlib.Core.Logic.{◌≢◌}
use mathlib.Core.Bool.{true, false, not, ◌&&◌}
use Prim.Native.Nat.{ℕ, ◌+◌, ◌≤◌, ◌<◌, max, min}
use native.Mathlib.Omega.{arith}
use lib.Dec.{eqb}
use borrow.Author.Tests.{eq-eqb, ne_eqb, eqb-true}
use Rattle.table.specs.declared.Machine.{Machine}
use Rattle.table.specs.declared.Table.{Table}
use Rattle.table.specs.Views.{job_at, machine_at, pool_at, with_machine, with_pool}
use Rattle.table.specs.Pools.{enter, returned}
use Rattle.table.specs.Parts.{reserve, release, running, waiting}
use Rattle.table.proofs.Views.{Sized, sized_pool, machine_same, machine_other, machine_pool, pool_machine, pool_same, pool_other_job}
use Rattle.table.proofs.Views.{pool_other_machine, alive_machine, part_machine}
use Rattle.lists.proofs.Cases.{by_bool, by_eq, and_left, and_right, and_false}
use Rattle.lists.proofs.Count.{ind}
use Rattle.theorem_invariant.proofs.Frame.{machine_enter}
use Rattle.theorem_invariant.proofs.About.{alive_release, alive_waiting}
use Rattle.theorem_invariant.proofs.State.{reserves_job, runs_job, has, dead}
use Rattle.theorem_invariant.proofs.TransferLaws.{dead_same}

-- ---- no copy is reserved, none runs

pub reserves_job_none : (n : Machine) (j r : ℕ) → n.reserved_replica ≡ 0 → reserves_job n j r ≡ false
unfolding reserves_job
reserves_job_none n j r e = rw (e, reserves_job)

pub runs_job_none : (n : Machine) (j r : ℕ) → n.running_replica ≡ 0 → runs_job n j r ≡ false
unfolding runs_job
runs_job_none n j r e = rw (e, runs_job)

-- ---- a machine's record is replaced by one that is as alive

pub has_machine : (t : Table) (b : ℕ) (v : Machine) (j r : ℕ) → Sized t → b < 16 → v.alive ≡ (machine_at t b).alive
    → has (with_machine t b v) j r b + (ind (reserves_job (machine_at t b) j r) + ind (runs_job (machine_at t b) j r))
    ≡ has t j r b + (ind (reserves_job v j r) + ind (runs_job v j r))
unfolding has
has_machine t b v j r z h e =
    let d : dead (with_machine t b v) b ≡ dead t b = dead_same t (with_machine t b v) b (alive_machine t b v e b) in
    let n : machine_at (with_machine t b v) b ≡ v = machine_same t z b v h in
    let p : pool_at (with_machine t b v) b j ≡ pool_at t b j = pool_machine t b v b j in
    rw (d, n, p) (omega arith)

pub has_machine_other : (t : Table) (b p : ℕ) (v : Machine) (j r : ℕ) → p ≢ b → has (with_machine t b v) j r p ≡ has t j r p
unfolding has dead
has_machine_other t b p v j r e = simp (machine_other t b p v e, pool_machine)

-- the new record has what the old one had
has_record : (t : Table) (b p : ℕ) (v : Machine) (j r : ℕ) → v.alive ≡ (machine_at t b).alive
    → ind (reserves_job v j r) + ind (runs_job v j r) ≡ ind (reserves_job (machine_at t b) j r) + ind (runs_job (machine_at t b) j r)
    → has (with_machine t b v) j r p ≡ has t j r p
unfolding has
has_record t b p v j r e s =
    let d = dead_same t (with_machine t b v) p (alive_machine t b v e p) in
    rw (d, pool_machine t b v p j) (omega (arith, part_machine (λ n. ind (reserves_job n j r) + ind (runs_job n j r)) t b v s p))

pub has_release : (t : Table) (b p j r : ℕ) (n : Machine) → machine_at t b ≡ n → reserves_job n j r ≡ false
    → has (with_machine t b (release n)) j r p ≡ has t j r p
has_release t b p j r n e f =
    let res : reserves_job (release n) j r ≡ false = unfold reserves_job release in refl in
    let run : runs_job (release n) j r ≡ runs_job n j r = unfold runs_job release in refl in
    has_record t b p (release n) j r (rw e (alive_release n)) (rw e (omega (arith, ap ind res, ap ind run, ap ind f)))

pub has_waiting : (t : Table) (b p j r w : ℕ) (n : Machine) → machine_at t b ≡ n → has (with_machine t b (waiting n w)) j r p ≡ has t j r p
has_waiting t b p j r w n e =
    let res : reserves_job (waiting n w) j r ≡ reserves_job n j r = unfold reserves_job waiting in refl in
    let run : runs_job (waiting n w) j r ≡ runs_job n j r = unfold runs_job waiting in refl in
    has_record t b p (waiting n w) j r (rw e (alive_waiting n w)) (rw e (omega (arith, ap ind res, ap ind run)))

-- ---- a place of a pool

has_pool : (t : Table) (b j q r : ℕ) → Sized t → b < 16 → j < 64
    → has (with_pool t b j q) j r b + ind (eqb (pool_at t b j) r) ≡ has t j r b + ind (eqb q r)
unfolding has dead
has_pool t b j q r z h k =
    let n : machine_at (with_pool t b j q) b ≡ machine_at t b = machine_pool t b j q b in
    let p : pool_at (with_pool t b j q) b j ≡ q = pool_same t z b j q h k in
    rw (n, p) (omega arith)

has_pool_other_machine : (t : Table) (b i q j r p : ℕ) → i < 64 → j < 64 → p ≢ b → has (with_pool t b i q) j r p ≡ has t j r p
unfolding has dead
has_pool_other_machine t b i q j r p h k e = simp (machine_pool, pool_other_machine)

has_pool_other_job : (t : Table) (b i q j r p : ℕ) → i < 64 → j < 64 → j ≢ i → has (with_pool t b i q) j r p ≡ has t j r p
unfolding has dead
has_pool_other_job t b i q j r p h k e = simp (machine_pool, pool_other_job)

pub has_by_pool : (t : Table) (j r p : ℕ) → pool_at t p j ≡ r → 1 ≤ has t j r p
unfolding has
has_by_pool t j r p e = omega (arith, ap ind (eq-eqb (pool_at t p j) r e))

-- the pools stay below the current replica numbers
abbrev pub Capped : Table → Type 0
Capped t = (m j : ℕ) → m < 16 → j < 64 → pool_at t m j ≤ (job_at t j).replica

pools_set : (t : Table) (b i q : ℕ) → Sized t → b < 16 → i < 64 → q ≤ (job_at t i).replica → Capped t → (m j : ℕ) → m < 16 → j < 64
    → pool_at (with_pool t b i q) m j ≤ (job_at t j).replica
pools_set t b i q z h k c pl m j a d =
    by_eq j i
    (λ e. by_eq m b
    (λ f. rw (e, f, pool_same t z b i q h k) c)
    (λ f. rw (pool_other_machine t b i m j q k d f) (pl m j a d)))
    (λ e. rw (pool_other_job t b i m j q k d e) (pl m j a d))

-- a place is emptied
pub pools_emptied : (t : Table) (b i : ℕ) → Sized t → b < 16 → i < 64 → Capped t → (m j : ℕ) → m < 16 → j < 64
    → pool_at (with_pool t b i 0) m j ≤ (job_at t j).replica
pools_emptied t b i z h k = pools_set t b i 0 z h k (omega arith)

-- ---- "Adding a copy to a pool keeps the larger replica number."

-- the larger number stays the current one
max_keeps : (p q r : ℕ) → q ≤ r → ind (eqb p r) ≤ ind (eqb (max p q) r)
max_keeps p q r h =
    by_bool (eqb p r)
    (λ e. let d : p ≡ r = eqb-true p r e in omega (arith, ap ind e, ap ind (eq-eqb (max p q) r (omega arith))))
    (λ e. omega (arith, ap ind e))

-- a copy that enters a pool takes none away, if it is no newer than the current one
pub has_enter : (t : Table) (b i q j r p : ℕ) → Sized t → b < 16 → i < 64 → j < 64 → (j ≡ i → q ≤ r) → has t j r p ≤ has (enter t b i q) j r p
unfolding enter
has_enter t b i q j r p z h k l c =
    by_eq j i
    (λ e. by_eq p b
    (λ d. rw (e, d) (omega (arith, has_pool t b i (max (pool_at t b i) q) r z h k, max_keeps (pool_at t b i) q r (c e))))
    (λ d. omega (arith, has_pool_other_machine t b i (max (pool_at t b i) q) j r p k l d)))
    (λ e. omega (arith, has_pool_other_job t b i (max (pool_at t b i) q) j r p k l e))

pub pools_enter : (t : Table) (b i q : ℕ) → Sized t → b < 16 → i < 64 → q ≤ (job_at t i).replica → Capped t → (m j : ℕ) → m < 16 → j < 64
    → pool_at (enter t b i q) m j ≤ (job_at t j).replica
unfolding enter
pools_enter t b i q z h k c pl = pools_set t b i (max (pool_at t b i) q) z h k (omega (arith, pl b i h k)) pl

pub enter_pool : (t : Table) (b i q : ℕ) → Sized t → b < 16 → i < 64 → pool_at t b i ≤ q → pool_at (enter t b i q) b i ≡ q
unfolding enter
enter_pool t b i q z h k c = rw (pool_same t z b i (max (pool_at t b i) q) h k) (omega arith)

-- ---- the reserved copy returns to the pool

reserves_eqs : (n : Machine) (j r : ℕ) → reserves_job n j r ≡ true → (n.reserved_job ≡ j) × (n.reserved_replica ≡ r)
unfolding reserves_job
reserves_eqs n j r e =
    let f = and_right (not (eqb n.reserved_replica 0)) (eqb n.reserved_job j && eqb n.reserved_replica r) e in (
      eqb-true _ _ (and_left (eqb n.reserved_job j) (eqb n.reserved_replica r) f),
      eqb-true _ _ (and_right (eqb n.reserved_job j) (eqb n.reserved_replica r) f),
    )

module _ (t : Table) (a : ℕ) (z : Sized t) (al : a < 16)
    (hj : (machine_at t a).reserved_job < 64) (hr : (machine_at t a).reserved_replica ≤ (job_at t (machine_at t a).reserved_job).replica)
    (pools : Capped t) where
  pub pools_returned : (m j : ℕ) → m < 16 → j < 64 → pool_at (returned t a) m j ≤ (job_at t j).replica
  unfolding returned
  pools_returned m j ml jl =
      rw pool_machine (pools_enter t a (machine_at t a).reserved_job (machine_at t a).reserved_replica z al hj hr pools m j ml jl)

  -- no machine loses the current copy by it
  pub has_returned : (j p : ℕ) → j < 64 → min 1 (has t j (job_at t j).replica p) ≤ has (returned t a) j (job_at t j).replica p
  unfolding returned
  has_returned j p jl =
      let n = machine_at t a in
      let k = n.reserved_job in
      let s = n.reserved_replica in
      let q = enter t a k s in
      let u = with_machine q a (release n) in
      let r = (job_at t j).replica in
      let mono : has t j r p ≤ has q j r p = has_enter t a k s j r p z al hj jl (λ f. rw f hr) in
      by_bool (reserves_job n j r)
      (λ f. by_eq p a
      (λ v.
      let es = reserves_eqs n j r f in
      let pq : pool_at q a k ≡ s = enter_pool t a k s z al hj (rw (es.0, es.1) (pools a j al jl)) in
      let pu : pool_at u p j ≡ r = pool_machine q a (release n) p j ∙ ap (λ (m : ℕ). pool_at q m j) v ∙ ap (pool_at q a) (sym es.0) ∙ pq ∙ es.1 in
      omega (arith, has_by_pool u j r p pu))
      (λ v. omega (arith, has_machine_other q a p (release n) j r v)))
      (λ f. omega (arith, has_release q a p j r n (machine_enter t a k s a) f))

-- ---- a copy goes from the pool of a machine to its record

-- a copy of a replica number of 1 or more is there
copy_some : (i q j r : ℕ) → 1 ≤ r → not (eqb q 0) && (eqb i j && eqb q r) ≡ eqb i j && eqb q r
copy_some i q j r h =
    by_eq q 0
    (λ e. rw (eq-eqb q 0 e, ne_eqb q r (λ f. omega arith)) (sym (and_false (eqb i j))))
    (λ e. rw (ne_eqb q 0 e))

-- it becomes the reserved copy
pub reserves_taken : (n : Machine) (i q th j r : ℕ) → 1 ≤ r → reserves_job n j r ≡ false
    → ind (reserves_job (reserve n i q th) j r) + ind (runs_job (reserve n i q th) j r)
    ≡ ind (reserves_job n j r) + ind (runs_job n j r) + ind (eqb i j && eqb q r)
reserves_taken n i q th j r h f =
    let a : reserves_job (reserve n i q th) j r ≡ eqb i j && eqb q r = unfold reserves_job reserve in copy_some i q j r h in
    let b : runs_job (reserve n i q th) j r ≡ runs_job n j r = unfold runs_job reserve in refl in
    omega (arith, ap ind a, ap ind b, ap ind f)

-- it becomes the running copy
pub runs_taken : (n : Machine) (i q j r : ℕ) → 1 ≤ r → runs_job n j r ≡ false
    → ind (reserves_job (running n i q) j r) + ind (runs_job (running n i q) j r)
    ≡ ind (reserves_job n j r) + ind (runs_job n j r) + ind (eqb i j && eqb q r)
runs_taken n i q j r h f =
    let a : reserves_job (running n i q) j r ≡ reserves_job n j r = unfold reserves_job running in refl in
    let b : runs_job (running n i q) j r ≡ eqb i j && eqb q r = unfold runs_job running in copy_some i q j r h in
    omega (arith, ap ind a, ap ind b, ap ind f)

pub has_taken : (t : Table) (b i : ℕ) (v : Machine) (j r p : ℕ) → Sized t → b < 16 → i < 64 → j < 64 → 1 ≤ r → v.alive ≡ (machine_at t b).alive
    → ind (reserves_job v j r) + ind (runs_job v j r) ≡ ind (reserves_job (machine_at t b) j r) + ind (runs_job (machine_at t b) j r) + ind (eqb i j
    && eqb (pool_at t b i) r)
    → has (with_machine (with_pool t b i 0) b v) j r p ≡ has t j r p
has_taken t b i v j r p z h il jl rl al e =
    let q = with_pool t b i 0 in
    let u = with_machine q b v in
    let qz : Sized q = sized_pool t b i 0 z in
    let qn : machine_at q b ≡ machine_at t b = machine_pool t b i 0 b in
    by_eq p b
    (λ f.
    let nd : has u j r b + (ind (reserves_job (machine_at t b) j r) + ind (runs_job (machine_at t b) j r))
    ≡ has q j r b + (ind (reserves_job v j r) + ind (runs_job v j r)) = rw qn at (has_machine q b v j r qz h (rw qn al)) in
    let zr : eqb 0 r ≡ false = ne_eqb 0 r (λ d. omega arith) in
    let same : has u j r b ≡ has t j r b =
    by_eq j i
    (λ o.
    let own : eqb i j && eqb (pool_at t b i) r ≡ eqb (pool_at t b i) r = rw (eq-eqb i j (sym o)) in
    omega (arith, ap ind own, ap ind zr, has_pool t b i 0 r z h il, ap (λ (a : ℕ). has q a r b) o, ap (λ (a : ℕ). has t a r b) o))
    (λ o.
    let other : eqb i j && eqb (pool_at t b i) r ≡ false = rw (ne_eqb i j (λ d. o (sym d))) in
    omega (arith, ap ind other, has_pool_other_job t b i 0 j r b il jl o)) in
    omega (arith, ap (has t j r) f, ap (has u j r) f))
    (λ f. omega (arith, has_machine_other q b p v j r f, has_pool_other_machine t b i 0 j r p il jl f))
