-- How clauses R, O, N, H and S go from one table and list of messages to the next, where no job changes: one message goes, another takes its place,
-- or is sent, or some are dropped.
-- Assumes nothing.
use mathlib.Core.Path.{◌≡◌, refl, sym, ap, ◌∙◌}
use mathlib.Core.Bool.{Bool, true, false, true≢false}
use mathlib.Core.List.{List, ◌∷◌}
use Prim.Native.Nat.{ℕ, ◌+◌, ◌≤◌, ◌<◌, min}
use native.Mathlib.Omega.{arith}
use lib.Dec.{eqb}
use borrow.Author.Tests.{ne_eqb}
use Rattle.table.specs.declared.Job.{Job}
use Rattle.table.specs.declared.Message.{Message}
use Rattle.table.specs.declared.Table.{Table}
use Rattle.table.specs.Views.{no_message, job_at, machine_at, pool_at}
use Rattle.table.specs.Parts.{AUTH, SCHEDULE, ACK, RESULT, OPEN}
use Rattle.lists.proofs.Cases.{by_bool, by_eq}
use Rattle.lists.proofs.Count.{ind, count, Every, every_map}
use Rattle.theorem_invariant.proofs.State.{Transfer, Known, Ends, transfer, is_transfer, ack_from, result_from, dead, has, held}
use Rattle.theorem_invariant.proofs.TransferLaws.{dead_is, dead_same, transfer_eqs, transfer_kinds, transfer_other, ack_other, ack_transfer}
use Rattle.theorem_invariant.proofs.TransferLaws.{acks_transfers, result_other, known_job, known_plain, Places}

-- the jobs are the same: the clauses of u, over the jobs of t
pub transfer_frame : (t u : Table) (l : List Message) → ((j : ℕ) → job_at u j ≡ job_at t j)
    → Every (Known t) l
    → ((m j : ℕ) → m < 16 → j < 64 → pool_at u m j ≤ (job_at t j).replica)
    → ((j : ℕ) → j < 64 → (job_at t j).state ≡ OPEN → count (transfer j (job_at t j).replica) l ≤ (job_at t j).moving)
    → ((j : ℕ) → j < 64 → (job_at t j).state ≡ OPEN → (job_at t j).moving ≡ 0 → 1 ≤ held u l j (job_at t j).replica (job_at t j).holder)
    → ((j : ℕ) → j < 64 → (job_at t j).state ≡ OPEN → (job_at t j).moving ≡ 1
    → 1 ≤ dead u (job_at t j).holder + dead u (job_at t j).thief + count (transfer j (job_at t j).replica) l)
    → ((j p : ℕ) → j < 64 → p < 16 → (job_at t j).state ≡ OPEN → 1 ≤ count (ack_from j (job_at t j).replica p) l → 1 ≤ held u l j (job_at t j).replica p)
    → Transfer u l
transfer_frame t u l jb kn pl mo on mv ak = record {
  known = every_map (Known t) (Known u) l (λ x. known_job t u x (jb x.job)) kn;
  pools = simp jb pl;
  moves = simp jb mo;
  on = simp jb on;
  moved = simp jb mv;
  acked = simp jb ak;
}

-- the table is the same, and the lists count alike: the place of a message in the list does not matter
pub transfer_list : (t : Table) (k l : List Message) → Every (Known t) l → ((p : Message → Bool) → count p l ≡ count p k) → Transfer t k
    → Transfer t l
unfolding held
transfer_list t k l kn n i =
    transfer_frame t t l (λ j. refl) kn i.pools
    (λ j a b. omega (arith, n (transfer j (job_at t j).replica), i.moves j a b))
    (λ j a b c. omega (arith, n (result_from j (job_at t j).holder), i.on j a b c))
    (λ j a b c. omega (arith, n (transfer j (job_at t j).replica), i.moved j a b c))
    (λ j p a b c d. omega (arith, n (result_from j p), i.acked j p a b c (omega (arith, n (ack_from j (job_at t j).replica p)))))

-- ---- a message that goes: where it counted for a move, one end of the move is dead

pub transfer_lost : (t : Table) (x : Message) (l : List Message)
    → ((j : ℕ) → j < 64 → (job_at t j).state ≡ OPEN → transfer j (job_at t j).replica x ≡ true
    → 1 ≤ dead t (job_at t j).holder + dead t (job_at t j).thief)
    → ((j p : ℕ) → (job_at t j).state ≡ OPEN → result_from j p x ≡ false)
    → Transfer t (x ∷ l) → Transfer t l
unfolding held
transfer_lost t x l h n i =
    transfer_frame t t l (λ j. refl) i.known.1 i.pools
    (λ j a b. omega (arith, i.moves j a b))
    (λ j a b c. omega (arith, i.on j a b c, ap ind (n j (job_at t j).holder b)))
    (λ j a b c. by_bool (transfer j (job_at t j).replica x) (λ e. omega (arith, h j a b e)) (λ e. omega (arith, i.moved j a b c, ap ind e)))
    (λ j p a b c d. omega (arith, i.acked j p a b c (omega arith), ap ind (n j p c)))

-- it was of a kind that counts for nothing
pub transfer_passed : (t : Table) (x : Message) (l : List Message) (k : ℕ) → x.kind ≡ k → is_transfer k ≡ false → eqb k RESULT ≡ false
    → Transfer t (x ∷ l) → Transfer t l
transfer_passed t x l k ex tk rk =
    transfer_lost t x l
    (λ j a b e. absurd (true≢false (sym e ∙ transfer_other k j (job_at t j).replica x ex tk)))
    (λ j p o. result_other k j p x ex rk)

-- a message to a dead machine
pub transfer_dropped : (t : Table) (x : Message) (l : List Message) → ((machine_at t x.to).alive ≡ 1 → ⊥) → (x.kind ≡ ACK → ⊥)
    → (x.kind ≡ RESULT → ⊥) → Transfer t (x ∷ l) → Transfer t l
transfer_dropped t x l gone n7 n9 i =
    transfer_lost t x l
    (λ j a b e.
    let es = transfer_eqs j (job_at t j).replica x e in
    let job : job_at t x.job ≡ job_at t j = ap (job_at t) es.1 in
    let en : Ends t x = i.known.0.ends (rw job b) (rw job es.2) in
    let to : dead t x.to ≡ 1 = dead_is t x.to gone in
    by_eq x.kind AUTH
    (λ f. omega (arith, to, ap (dead t) (sym (ap (λ (b : Job). b.holder) job) ∙ (en.auth f).0)))
    (λ n3. by_eq x.kind SCHEDULE
    (λ f. omega (arith, to, ap (dead t) (sym (ap (λ (b : Job). b.thief) job) ∙ (en.schedule f).1)))
    (λ n6. absurd (transfer_kinds x.kind es.0 n3 n6 n7))))
    (λ j p o. result_other x.kind j p x refl (ne_eqb x.kind RESULT n9))
    i

-- ---- the empty message counts for nothing

pub transfer_nothing : (t : Table) (l : List Message) → Transfer t l → Transfer t (no_message ∷ l)
unfolding held
transfer_nothing t l i =
    let tr : (j r : ℕ) → transfer j r no_message ≡ false = λ j r. transfer_other 0 j r no_message refl (unfold is_transfer in refl) in
    let ak : (j r p : ℕ) → ack_from j r p no_message ≡ false = λ j r p. ack_other 0 j r p no_message refl refl in
    transfer_frame t t (no_message ∷ l) (λ j. refl) (known_plain t no_message 0 refl (unfold is_transfer in refl) refl (omega arith), i.known)
    i.pools
    (λ j a b. omega (arith, i.moves j a b, ap ind (tr j (job_at t j).replica)))
    (λ j a b c. omega (arith, i.on j a b c))
    (λ j a b c. omega (arith, i.moved j a b c))
    (λ j p a b c d. omega (arith, i.acked j p a b c (omega (arith, d, ap ind (ak j (job_at t j).replica p)))))

-- ---- another message takes the place of one, in a table where no machine has lost the current copy

module _ (t u : Table) (x y : Message) (l : List Message)
    (places : Places t)
    (jb : (j : ℕ) → job_at u j ≡ job_at t j)
    (al : (k : ℕ) → (machine_at u k).alive ≡ (machine_at t k).alive)
    (pl : (m j : ℕ) → m < 16 → j < 64 → pool_at u m j ≤ (job_at t j).replica)
    (ky : Known t y)
    (tr : (j : ℕ) → j < 64 → (job_at t j).state ≡ OPEN → transfer j (job_at t j).replica y ≡ transfer j (job_at t j).replica x)
    (kept : (j p : ℕ) → j < 64 → p < 16 → (job_at t j).state ≡ OPEN → transfer j (job_at t j).replica x ≡ false
    → min 1 (has t j (job_at t j).replica p + ind (result_from j p x)) ≤ has u j (job_at t j).replica p + ind (result_from j p y))
    (own : (j p : ℕ) → j < 64 → p < 16 → (job_at t j).state ≡ OPEN → ack_from j (job_at t j).replica p y ≡ true → 1 ≤ has u j (job_at t j).replica p)
    (i : Transfer t (x ∷ l)) where
  on' : (j : ℕ) → j < 64 → (job_at t j).state ≡ OPEN → (job_at t j).moving ≡ 0 → 1 ≤ held u (y ∷ l) j (job_at t j).replica (job_at t j).holder
  unfolding held
  on' j a b c =
      by_bool (transfer j (job_at t j).replica x)
      (λ e. absurd (omega (arith, ap ind e, i.moves j a b)))
      (λ e. omega (arith, i.on j a b c, kept j (job_at t j).holder a (places j a).1 b e))

  acked' : (j p : ℕ) → j < 64 → p < 16 → (job_at t j).state ≡ OPEN → 1 ≤ count (ack_from j (job_at t j).replica p) (y ∷ l)
      → 1 ≤ held u (y ∷ l) j (job_at t j).replica p
  unfolding held
  acked' j p a b c d =
      let r = (job_at t j).replica in
      by_bool (transfer j r x)
      (λ e. by_bool (ack_from j r p y)
      (λ f. omega (arith, own j p a b c f))
      (λ f. absurd (omega (arith, ap ind e, ap ind f, i.moves j a c, (places j a).0, acks_transfers j r p l))))
      (λ e.
      let f : ind (ack_from j r p y) ≡ 0 = omega (arith, ack_transfer j r p y, ap ind (tr j a c), ap ind e) in
      omega (arith, i.acked j p a b c (omega arith), kept j p a b c e))

  pub transfer_step : Transfer u (y ∷ l)
  transfer_step =
      transfer_frame t u (y ∷ l) jb (ky, i.known.1) pl
      (λ j a b. omega (arith, i.moves j a b, ap ind (tr j a b)))
      on'
      (λ j a b c. omega (
        arith,
        i.moved j a b c,
        ap ind (tr j a b),
        dead_same t u (job_at t j).holder (al (job_at t j).holder),
        dead_same t u (job_at t j).thief (al (job_at t j).thief),
      ))
      acked'
