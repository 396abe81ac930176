-- Clauses R, O, N, H and S where one job changes, and with it the pools' places of that job and the messages of it; and a job that is issued with a
-- new replica number.
-- Assumes nothing.
use mathlib.Core.Path.{◌≡◌, refl, sym, ap, ◌∙◌}
use mathlib.Core.Logic.{◌≢◌}
use mathlib.Core.Bool.{true, false, ◌&&◌, true≢false}
use mathlib.Core.List.{List}
use Prim.Native.Nat.{ℕ, ◌+◌, ◌≤◌, ◌<◌}
use native.Mathlib.Omega.{arith}
use lib.Dec.{eqb}
use borrow.Author.Tests.{eq-eqb}
use Rattle.table.specs.declared.Job.{Job}
use Rattle.table.specs.declared.Machine.{Machine}
use Rattle.table.specs.declared.Message.{Message}
use Rattle.table.specs.declared.Table.{Table}
use Rattle.table.specs.Views.{job_at, machine_at, pool_at, with_job}
use Rattle.table.specs.Pools.{enter}
use Rattle.table.specs.Parts.{opened, OPEN}
use Rattle.table.proofs.Views.{Sized, views, sized_job, job_same, job_other, job_pool, pool_job, pool_other_job, pool_other_machine}
use Rattle.lists.proofs.Cases.{by_bool, by_eq}
use Rattle.lists.proofs.Count.{count, count_zero, count_none, Every, every_map, every_zip}
use Rattle.theorem_invariant.proofs.State.{Transfer, Known, Ends, transfer, is_transfer, ack_from, result_from, dead, has, held}
use Rattle.theorem_invariant.proofs.TransferLaws.{dead_same, transfer_eqs, acks_transfers, has_same, known_job}
use Rattle.theorem_invariant.proofs.TransferCopies.{has_by_pool, enter_pool}

-- ---- job i is now v

module _ (t u : Table) (i : ℕ) (v : Job) (k l : List Message)
    (same : job_at u i ≡ v)
    (other : (j : ℕ) → j ≢ i → job_at u j ≡ job_at t j)
    (nd : (m : ℕ) → machine_at u m ≡ machine_at t m)
    (po : (m j : ℕ) → j < 64 → j ≢ i → pool_at u m j ≡ pool_at t m j)
    (kn : Every (λ x. x.job ≡ i → Known u x) l)
    (ko : Every (λ x. x.job ≢ i → Known t x) l)
    (tr : (j r : ℕ) → j ≢ i → count (transfer j r) l ≡ count (transfer j r) k)
    (rs : (j p : ℕ) → j ≢ i → count (result_from j p) l ≡ count (result_from j p) k)
    (ak : (j r p : ℕ) → j ≢ i → count (ack_from j r p) l ≡ count (ack_from j r p) k)
    (pl : (m : ℕ) → m < 16 → pool_at u m i ≤ v.replica)
    (mo : v.state ≡ OPEN → count (transfer i v.replica) l ≤ v.moving)
    (on₀ : v.state ≡ OPEN → v.moving ≡ 0 → 1 ≤ held u l i v.replica v.holder)
    (mv₀ : v.state ≡ OPEN → v.moving ≡ 1 → 1 ≤ dead u v.holder + dead u v.thief + count (transfer i v.replica) l)
    (ac₀ : (p : ℕ) → p < 16 → v.state ≡ OPEN → 1 ≤ count (ack_from i v.replica p) l → 1 ≤ held u l i v.replica p)
    (g : Transfer t k) where
  has_other : (j r p : ℕ) → j < 64 → j ≢ i → has u j r p ≡ has t j r p
  has_other j r p h e = has_same t u j r p (nd p) (po p j h e)

  dead_all : (p : ℕ) → dead u p ≡ dead t p
  dead_all p = dead_same t u p (ap (λ (n : Machine). n.alive) (nd p))

  pub transfer_job : Transfer u l
  unfolding held
  transfer_job = record {
    known = every_map (λ x. (x.job ≡ i → Known u x) × (x.job ≢ i → Known t x)) (Known u) l
        (λ x h. by_eq x.job i h.0 (λ e. known_job t u x (other x.job e) (h.1 e)))
        (every_zip (λ x. x.job ≡ i → Known u x) (λ x. x.job ≢ i → Known t x) l kn ko);
    pools = λ m j a b. by_eq j i (λ e. rw (e, same) (pl m a)) (λ e. rw (other j e, po m j b e) (g.pools m j a b));
    moves = λ j a. by_eq j i (λ e. rw (e, same) mo) (λ e. rw (other j e) (λ b. omega (arith, g.moves j a b, tr j (job_at t j).replica e)));
    on = λ j a. by_eq j i
        (λ e. rw (e, same) on₀)
        (λ e. rw (other j e)
        (λ b c. omega (arith, g.on j a b c, has_other j (job_at t j).replica (job_at t j).holder a e, rs j (job_at t j).holder e)));
    moved = λ j a. by_eq j i
        (λ e. rw (e, same) mv₀)
        (λ e. rw (other j e)
        (λ b c. omega (arith, g.moved j a b c, dead_all (job_at t j).holder, dead_all (job_at t j).thief, tr j (job_at t j).replica e)));
    acked = λ j p a b. by_eq j i
        (λ e. rw (e, same) (ac₀ p b))
        (λ e. rw (other j e)
        (λ c d. omega (arith, g.acked j p a b c (omega (arith, ak j (job_at t j).replica p e)), has_other j (job_at t j).replica p a e, rs j p e)));
  }

-- ---- what the messages of the job say of it then

-- no message of its move is there: what they say of the ends holds of itself
ends_none : (u : Table) (j r : ℕ) (z : Message) → transfer j r z ≡ false → z.job ≡ j → z.replica ≡ r → Ends u z
unfolding transfer is_transfer
ends_none u j r z f a b =
    let k : (c : ℕ) → is_transfer c ≡ true → z.kind ≡ c → ⊥ = λ c h e.
    let y : is_transfer z.kind && (eqb z.job j && eqb z.replica r) ≡ true = rw (e, h, eq-eqb z.job j a, eq-eqb z.replica r b) in
    true≢false (sym y ∙ f) in
    record { auth = λ e. absurd (k 3 refl e); schedule = λ e. absurd (k 6 refl e); ack = λ e. absurd (k 7 refl e) }

module _ (t u : Table) (i : ℕ) (l : List Message) (st : (job_at u i).state ≡ (job_at t i).state) (re : (job_at u i).replica ≡ (job_at t i).replica)
    (kn : Every (Known t) l) where
  pub known_still : count (transfer i (job_at u i).replica) l ≡ 0 → Every (λ x. x.job ≡ i → Known u x) l
  known_still c =
      every_map (λ x. Known t x × (transfer i (job_at u i).replica x ≡ false)) (λ x. x.job ≡ i → Known u x) l
      (λ x h e.
      let jt : job_at t x.job ≡ job_at t i = ap (job_at t) e in
      let ju : job_at u x.job ≡ job_at u i = ap (job_at u) e in
      record {
        cap = rw (ju, re, ← jt) h.0.cap;
        old = rw ju (λ a b. rw (re, ← jt) (h.0.old a (rw jt (sym st ∙ b))));
        ends = rw ju (λ a b. ends_none u i (job_at u i).replica x h.1 e b);
      })
      (every_zip (Known t) (λ x. transfer i (job_at u i).replica x ≡ false) l kn (count_none (transfer i (job_at u i).replica) l c))

module _ (t u : Table) (i : ℕ) (l : List Message) (re : (job_at t i).replica ≤ (job_at u i).replica) (kn : Every (Known t) l) where
  -- it is not open
  pub known_not_open : ((job_at u i).state ≡ OPEN → ⊥) → Every (λ x. x.job ≡ i → Known u x) l
  known_not_open shut =
      every_map (Known t) (λ x. x.job ≡ i → Known u x) l
      (λ x k e. record {
        cap = let c : x.replica ≤ (job_at t i).replica = rw e at k.cap in rw e (omega arith);
        old = rw e (λ a b. absurd (shut b));
        ends = rw e (λ a b. absurd (shut a));
      })
      kn

  -- its replica number is a new one
  known_new : (job_at t i).replica < (job_at u i).replica → Every (λ x. x.job ≡ i → Known u x) l
  known_new lt =
      every_map (Known t) (λ x. x.job ≡ i → Known u x) l
      (λ x k e.
      let c : x.replica ≤ (job_at t i).replica = rw e at k.cap in
      record { cap = rw e (omega arith); old = rw e (λ a b. omega arith); ends = rw e (λ a b. absurd (omega arith)) })
      kn

pub known_others : (t : Table) (i : ℕ) (l : List Message) → Every (Known t) l → Every (λ x. x.job ≢ i → Known t x) l
known_others t i l kn = every_map (Known t) (λ x. x.job ≢ i → Known t x) l (λ x k e. k) kn

-- no message has a replica number above the job's
none_new : (t : Table) (i r : ℕ) (l : List Message) → (job_at t i).replica < r → Every (Known t) l → count (transfer i r) l ≡ 0
none_new t i r l lt kn =
    count_zero (transfer i r) l
    (every_map (Known t) (λ x. transfer i r x ≡ false) l
    (λ x k. by_bool (transfer i r x)
    (λ e. let es = transfer_eqs i r x e in absurd (omega (arith, k.cap, es.2, ap (λ (n : ℕ). (job_at t n).replica) es.1)))
    (λ e. e))
    kn)

-- ---- a job becomes open with a new replica number, on the root, and enters its pool

module _ (t : Table) (j r : ℕ) (jl : j < 64) (z : Sized t) (lt : (job_at t j).replica < r) (l : List Message) (g : Transfer t l) where
  abbrev u : Table
  u = enter (with_job t j (opened r)) 0 j r

  same : job_at u j ≡ opened r
  unfolding enter
  same = job_pool _ 0 j _ j ∙ job_same t z j (opened r) jl

  other : (k : ℕ) → k ≢ j → job_at u k ≡ job_at t k
  unfolding enter
  other k e = job_pool _ 0 j _ k ∙ job_other t j k (opened r) e

  pool : (m k : ℕ) → k < 64 → k ≢ j → pool_at u m k ≡ pool_at t m k
  unfolding enter
  pool m k kl e = pool_other_job (with_job t j (opened r)) 0 j m k _ jl kl e ∙ pool_job t j (opened r) m k

  root : pool_at u 0 j ≡ r
  root = enter_pool (with_job t j (opened r)) 0 j r (sized_job t j (opened r) z) (omega arith) jl
      (rw pool_job (omega (arith, g.pools 0 j (omega arith) jl)))

  caps : (m : ℕ) → m < 16 → pool_at u m j ≤ r
  caps m ml =
      by_eq m 0
      (λ e. rw e (omega (arith, root)))
      (λ e. let p : pool_at u m j ≡ pool_at t m j = unfold enter in (pool_other_machine (with_job t j (opened r)) 0 j m j _ jl jl e
      ∙ pool_job t j (opened r) m j) in omega (arith, g.pools m j ml jl))

  pub transfer_issued : Transfer u l
  unfolding held opened
  transfer_issued =
      let new : count (transfer j r) l ≡ 0 = none_new t j r l lt g.known in
      let re : (job_at u j).replica ≡ r = ap (λ (v : Job). v.replica) same in
      transfer_job t u j (opened r) l l same other (λ m. unfold enter in simp views) pool
      (known_new t u j l (omega arith) g.known (omega arith)) (known_others t j l g.known)
      (λ k q e. refl) (λ k p e. refl) (λ k q p e. refl)
      caps
      (λ o. omega (arith, new))
      (λ o c. omega (arith, has_by_pool u j r 0 root))
      (λ o (c : ◌≡◌ {A = ℕ} 0 1). absurd (omega arith))
      (λ p pl o c. absurd (omega (arith, c, new, acks_transfers j r p l)))
      g
