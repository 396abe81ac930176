-- One element at a time: what makes its test of check 9 pass, in plain numbers; proofs/Facts.antt has the converse, what a test that passes says.
-- M is the machine count, E the entry count, B the largest replica number allowed.
-- Assumes nothing.
use Prim.Native.Nat.{ℕ, ◌≤◌, ◌<◌}
use mathlib.Core.Path.{◌≡◌, refl}
use mathlib.Core.Logic.{◌≢◌}
use mathlib.Core.Bool.{Bool, true, false, not, ◌&&◌, ◌||◌}
use mathlib.Core.List.{[], ◌∷◌}
use native.Mathlib.Omega.{arith}
use borrow.Author.Tests.{ltb-false, ltb-true, le-leb, lt-ltb, eq-eqb}
use lib.Dec.{eqb, leb, ltb}
use Rattle.lists.proofs.Cases.{by_bool, by_eq, or_left, or_right, and_both, and_three, either_is}
use Rattle.lists.proofs.Chains.{chain_joined}
use Rattle.table.specs.declared.Job.{Job}
use Rattle.table.specs.declared.Machine.{Machine}
use Rattle.table.specs.declared.Message.{Message}
use Rattle.table.specs.Views.{no_job, no_machine}
use Rattle.table.specs.Parts.{FISH, RESULT, NOT_ADMITTED, OPEN, PRICED}
use Rattle.validity_element.specs.Element.{copy_ok, admitted_ok, place_ok, job_ok, reserved_ok, running_ok, machine_ok, told_ok, cell_ok}
use Rattle.validity_message.specs.Message.{kind_ok, ends_ok, carries_ok, thief_ok, with_copy, with_thief, to_root, message_ok}
use Rattle.protocol_preservation.proofs.Facts.{copy_is_lem, job_is, machine_is}

unless : (w c : Bool) → (w ≡ true → c ≡ true) → not w || c ≡ true
unless true c f = f refl
unless false c f = refl

-- what is not at or past the end is before it
before : (a b : ℕ) → (b ≤ a → ⊥) → a < b
before a b f = by_bool (ltb a b) (λ e. ltb-true a b e) (λ e. absurd (f (ltb-false a b e)))

-- ---- a job

module _ (M E B j : ℕ) (v : Job) where
  pub place_passes : v.holder < M → v.moving ≤ 1 → (v.moving ≢ 0 → v.thief < M) → (v.moving ≡ 0 → v.thief ≡ 0) → place_ok M v ≡ true
  place_passes h l f g =
      and_both (ltb v.holder M) _ (lt-ltb _ _ h)
      (by_eq v.moving 0
      (λ e. or_left (eqb v.moving 0 && eqb v.thief 0) _ (and_both (eqb v.moving 0) (eqb v.thief 0) (eq-eqb _ _ e) (eq-eqb _ _ (g e))))
      (λ e. or_right (eqb v.moving 0 && eqb v.thief 0) _ (and_both (eqb v.moving 1) (ltb v.thief M) (eq-eqb v.moving 1 (omega arith))
      (lt-ltb _ _ (f e)))))

  admitted : v.state ≢ NOT_ADMITTED → v.state ≤ PRICED → (v.state ≢ PRICED → v.price ≡ 0) → admitted_ok v ≡ true
  admitted n l f =
      by_eq v.state PRICED
      (λ e. or_right (eqb v.state OPEN && eqb v.price 0) (eqb v.state PRICED) (eq-eqb _ _ e))
      (λ e. or_left (eqb v.state OPEN && eqb v.price 0) (eqb v.state PRICED)
      (and_both (eqb v.state OPEN) (eqb v.price 0) (eq-eqb v.state OPEN (omega arith)) (eq-eqb _ _ (f e))))

  pub job_passes : v.state ≤ PRICED → v.moving ≤ 1 → (v.state ≢ NOT_ADMITTED → v.holder < M) → (v.moving ≢ 0 → v.thief < M)
      → (v.state ≢ NOT_ADMITTED → 1 ≤ v.replica)
      → (E ≤ j → v.state ≡ NOT_ADMITTED) → (v.state ≡ NOT_ADMITTED → v ≡ no_job) → (v.state ≢ PRICED → v.price ≡ 0)
      → (v.moving ≡ 0 → v.thief ≡ 0) → v.replica ≤ B → job_ok M E B j v ≡ true
  job_passes st mo ho th re en un pr sl bo =
      by_eq v.state NOT_ADMITTED
      (λ e. let q = un e in simp q)
      (λ e. job_is M E B j v (admitted e st pr) (copy_is_lem E B j v.replica (before j E (λ l. e (en l))) (re e) bo) (place_passes (ho e) mo th sl))

-- ---- a machine

module _ (M E B m : ℕ) (n : Machine) where
  pub machine_reserved : (n.reserved_replica ≢ 0 → (n.reserved_job < E) × (n.reserved_thief < M))
      → (n.reserved_replica ≡ 0 → (n.reserved_job ≡ 0) × (n.reserved_thief ≡ 0))
      → n.reserved_replica ≤ B → reserved_ok M E B n ≡ true
  machine_reserved f g l =
      let a = eqb n.reserved_job 0 in
      let b = eqb n.reserved_replica 0 in
      let c = eqb n.reserved_thief 0 in
      by_eq n.reserved_replica 0
      (λ e. or_left (a && b && c) _ (and_three a b c (eq-eqb _ _ (g e).0) (eq-eqb _ _ e) (eq-eqb _ _ (g e).1)))
      (λ e. or_right (a && b && c) _
      (and_both (copy_ok E B n.reserved_job n.reserved_replica) (ltb n.reserved_thief M)
      (copy_is_lem E B n.reserved_job n.reserved_replica (f e).0 (omega arith) l) (lt-ltb _ _ (f e).1)))

  pub machine_runs : (n.running_replica ≢ 0 → n.running_job < E) → (n.running_replica ≡ 0 → n.running_job ≡ 0) → n.running_replica ≤ B
      → running_ok E B n ≡ true
  machine_runs f g l =
      let a = eqb n.running_job 0 in
      let b = eqb n.running_replica 0 in
      by_eq n.running_replica 0
      (λ e. or_left (a && b) _ (and_both a b (eq-eqb _ _ (g e)) (eq-eqb _ _ e)))
      (λ e. or_right (a && b) _ (copy_is_lem E B n.running_job n.running_replica (f e) (omega arith) l))

  pub machine_passes : n.alive ≤ 1 → n.waits ≤ M → (M ≤ m → n.alive ≡ 0) → (n.alive ≡ 0 → n ≡ no_machine)
      → reserved_ok M E B n ≡ true → running_ok E B n ≡ true → machine_ok M E B m n ≡ true
  machine_passes al wa ma de r u =
      by_eq n.alive 0
      (λ e. let q = de e in simp q)
      (λ e. machine_is M E B m n (before m M (λ l. e (ma l))) (omega arith) wa r u)

-- ---- a told flag and a pool's cell

pub told_passes : (M al m d x : ℕ) → x ≤ 1 → (x ≢ 0 → (m < M) × (d < M)) → (x ≢ 0 → al ≡ 0) → told_ok M al m d x ≡ true
told_passes M al m d x l f g =
    by_eq x 0
    (λ e. or_left (eqb x 0) _ (eq-eqb _ _ e))
    (λ e. or_right (eqb x 0) _
    (chain_joined (eqb x 1) (ltb m M ∷ ltb d M ∷ eqb al 0 ∷ []) (eq-eqb x 1 (omega arith))
    (lt-ltb _ _ (f e).0, (lt-ltb _ _ (f e).1, (eq-eqb _ _ (g e), tt)))))

pub cell_passes : (E B al j x : ℕ) → (x ≢ 0 → al ≡ 1) → (x ≢ 0 → j < E) → x ≤ B → cell_ok E B al j x ≡ true
cell_passes E B al j x f g l =
    by_eq x 0
    (λ e. or_left (eqb x 0) _ (eq-eqb _ _ e))
    (λ e. or_right (eqb x 0) _ (and_both (eqb al 1) (copy_ok E B j x) (eq-eqb _ _ (f e)) (copy_is_lem E B j x (g e) (omega arith) l)))

-- ---- a message

module _ (M E B : ℕ) (x : Message) where
  pub kind_passes : FISH ≤ x.kind → x.kind ≤ RESULT → (x.kind ≢ RESULT → x.price ≡ 0) → kind_ok x ≡ true
  kind_passes a b f =
      and_three (leb FISH x.kind) (leb x.kind RESULT) (eqb x.kind RESULT || eqb x.price 0) (le-leb _ _ a) (le-leb _ _ b)
      (by_eq x.kind RESULT (λ e. or_left (eqb x.kind RESULT) _ (eq-eqb _ _ e)) (λ e. or_right (eqb x.kind RESULT) _ (eq-eqb _ _ (f e))))

  pub ends_pass : x.from < M → x.to < M → (to_root x.kind ≡ true → x.to ≡ 0) → ends_ok M x ≡ true
  ends_pass a b f =
      and_three (ltb x.from M) (ltb x.to M) (not (to_root x.kind) || eqb x.to 0) (lt-ltb _ _ a) (lt-ltb _ _ b)
      (unless (to_root x.kind) (eqb x.to 0) (λ e. eq-eqb _ _ (f e)))

  pub carries_passes : (with_copy x.kind ≡ true → (x.job < E) × (1 ≤ x.replica)) → (with_copy x.kind ≡ false → (x.job ≡ 0) × (x.replica ≡ 0))
      → x.replica ≤ B → carries_ok E B x ≡ true
  carries_passes f g l =
      either_is (with_copy x.kind) (copy_ok E B x.job x.replica) (eqb x.job 0 && eqb x.replica 0)
      (λ e. copy_is_lem E B x.job x.replica (f e).0 (f e).1 l)
      (λ e. and_both (eqb x.job 0) (eqb x.replica 0) (eq-eqb _ _ (g e).0) (eq-eqb _ _ (g e).1))

  pub thief_passes : (with_thief x.kind ≡ true → x.thief < M) → (with_thief x.kind ≡ false → x.thief ≡ 0) → thief_ok M x ≡ true
  thief_passes f g = either_is (with_thief x.kind) (ltb x.thief M) (eqb x.thief 0) (λ e. lt-ltb _ _ (f e)) (λ e. eq-eqb _ _ (g e))

  pub message_passes : kind_ok x ≡ true → ends_ok M x ≡ true → carries_ok E B x ≡ true → thief_ok M x ≡ true → message_ok M E B x ≡ true
  message_passes a b c d = chain_joined (kind_ok x) (ends_ok M x ∷ carries_ok E B x ∷ thief_ok M x ∷ []) a (b, (c, (d, tt)))
