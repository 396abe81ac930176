-- What clauses R, O, N, H and S of the invariant speak of: which messages count for a job's move, and what goes by the views of a table alone.
-- Assumes nothing.
use mathlib.Core.Path.{◌≡◌, refl, sym, ap, ◌∙◌}
use mathlib.Core.Bool.{true, false, ◌&&◌, true≢false}
use mathlib.Core.List.{List}
use Prim.Native.Nat.{ℕ, ◌≤◌, ◌<◌}
use native.Mathlib.Omega.{arith}
use lib.Dec.{eqb}
use borrow.Author.Tests.{eq-eqb, ne_eqb, eqb-true, eqb-false}
use Rattle.table.specs.declared.Message.{Message}
use Rattle.table.specs.declared.Table.{Table}
use Rattle.table.specs.Views.{job_at, machine_at, pool_at}
use Rattle.table.specs.Parts.{AUTH, OBSOLETE, SCHEDULE, ACK, RESULT}
use Rattle.lists.proofs.Cases.{by_bool, and_left, and_right, and_no}
use Rattle.lists.proofs.Count.{ind, count, and_le, count_le}
use Rattle.protocol_preservation.proofs.Facts.{Facts}
use Rattle.theorem_invariant.proofs.State.{Known, transfer, is_transfer, ack_from, result_from, dead, has}

-- ---- a dead machine

pub dead_is : (t : Table) (p : ℕ) → ((machine_at t p).alive ≡ 1 → ⊥) → dead t p ≡ 1
unfolding dead
dead_is t p h = rw (ne_eqb (machine_at t p).alive 1 h)

pub dead_not : (t : Table) (p : ℕ) → (machine_at t p).alive ≡ 1 → dead t p ≡ 0
unfolding dead
dead_not t p h = rw (eq-eqb (machine_at t p).alive 1 h)

pub dead_same : (t u : Table) (p : ℕ) → (machine_at u p).alive ≡ (machine_at t p).alive → dead u p ≡ dead t p
unfolding dead
dead_same t u p e = rw e

pub dead_one : (t : Table) (p : ℕ) → dead t p ≤ 1
unfolding dead
dead_one t p = by_bool (eqb (machine_at t p).alive 1) (λ e. rw e (omega arith)) (λ e. rw e (omega arith))

-- ---- which messages count

pub transfer_eqs : (j r : ℕ) (x : Message) → transfer j r x ≡ true → (is_transfer x.kind ≡ true) × (x.job ≡ j) × (x.replica ≡ r)
unfolding transfer
transfer_eqs j r x e =
    let b = and_right (is_transfer x.kind) (eqb x.job j && eqb x.replica r) e in (
      and_left (is_transfer x.kind) _ e,
      eqb-true _ _ (and_left (eqb x.job j) (eqb x.replica r) b),
      eqb-true _ _ (and_right (eqb x.job j) (eqb x.replica r) b),
    )

pub transfer_kinds : (k : ℕ) → is_transfer k ≡ true → (k ≡ AUTH → ⊥) → (k ≡ SCHEDULE → ⊥) → (k ≡ ACK → ⊥) → ⊥
unfolding is_transfer
transfer_kinds k h a b c = true≢false (sym h ∙ rw (ne_eqb k AUTH a, ne_eqb k SCHEDULE b, ne_eqb k ACK c))

-- a message of a kind that does not count
pub transfer_other : (k j r : ℕ) (x : Message) → x.kind ≡ k → is_transfer k ≡ false → transfer j r x ≡ false
unfolding transfer
transfer_other k j r x e h = rw (e, h)

pub ack_other : (k j r p : ℕ) (x : Message) → x.kind ≡ k → eqb k ACK ≡ false → ack_from j r p x ≡ false
unfolding ack_from
ack_other k j r p x e h = rw (e, h)

pub result_other : (k j p : ℕ) (x : Message) → x.kind ≡ k → eqb k RESULT ≡ false → result_from j p x ≡ false
unfolding result_from
result_other k j p x e h = rw (e, h)

-- a message of another job
pub transfer_not : (j r : ℕ) (x : Message) → (x.job ≡ j → ⊥) → transfer j r x ≡ false
unfolding transfer
transfer_not j r x h = and_no (is_transfer x.kind) _ (rw (ne_eqb x.job j h))

pub ack_not : (j r p : ℕ) (x : Message) → (x.job ≡ j → ⊥) → ack_from j r p x ≡ false
unfolding ack_from
ack_not j r p x h = and_no (eqb x.kind ACK) _ (and_no (eqb x.from p) _ (rw (ne_eqb x.job j h)))

pub result_not : (j p : ℕ) (x : Message) → (x.job ≡ j → ⊥) → result_from j p x ≡ false
unfolding result_from
result_not j p x h = and_no (eqb x.kind RESULT) _ (and_no (eqb x.from p) _ (ne_eqb x.job j h))

-- an ACK counts for the move
pub ack_transfer : (j r p : ℕ) (x : Message) → ind (ack_from j r p x) ≤ ind (transfer j r x)
unfolding ack_from transfer is_transfer
ack_transfer j r p x =
    by_bool (eqb x.kind ACK)
    (λ e. let k : x.kind ≡ ACK = eqb-true x.kind ACK e in rw k (and_le (eqb x.from p) (eqb x.job j && eqb x.replica r)))
    (λ e. rw e (omega arith))

pub acks_transfers : (j r p : ℕ) (l : List Message) → count (ack_from j r p) l ≤ count (transfer j r) l
acks_transfers j r p l = count_le (ack_from j r p) (transfer j r) l (ack_transfer j r p)

-- ---- by the views alone

pub has_same : (t u : Table) (j r p : ℕ) → machine_at u p ≡ machine_at t p → pool_at u p j ≡ pool_at t p j → has u j r p ≡ has t j r p
unfolding has dead
has_same t u j r p a b = rw (a, b)

-- what a message says goes by its own job
pub known_job : (t u : Table) (x : Message) → job_at u x.job ≡ job_at t x.job → Known t x → Known u x
known_job t u x jb k = record {
  cap = rw jb k.cap;
  old = rw jb k.old;
  ends = rw jb (λ a b. record { auth = rw jb (k.ends a b).auth; schedule = rw jb (k.ends a b).schedule; ack = rw jb (k.ends a b).ack });
}

not_transfer : (k c : ℕ) → is_transfer k ≡ false → is_transfer c ≡ true → k ≡ c → ⊥
not_transfer k c a b e = true≢false (sym b ∙ ap is_transfer (sym e) ∙ a)

-- a message of another kind than AUTH, OBSOLETE, SCHEDULE and ACK says only that its replica number is not above the job's
pub known_plain : (t : Table) (y : Message) (k : ℕ) → y.kind ≡ k → is_transfer k ≡ false → eqb k OBSOLETE ≡ false
    → y.replica ≤ (job_at t y.job).replica → Known t y
known_plain t y k ey tk ok c = record {
  cap = c;
  old = λ e. absurd (eqb-false k OBSOLETE ok (sym ey ∙ e));
  ends = λ a b. record {
    auth = λ e. absurd (not_transfer k AUTH tk (unfold is_transfer in refl) (sym ey ∙ e));
    schedule = λ e. absurd (not_transfer k SCHEDULE tk (unfold is_transfer in refl) (sym ey ∙ e));
    ack = λ e. absurd (not_transfer k ACK tk (unfold is_transfer in refl) (sym ey ∙ e));
  };
}

-- ---- what check 9 says of a job's place, as these clauses use it

abbrev pub Places : Table → Type 0
Places t = (j : ℕ) → j < 64 → ((job_at t j).moving ≤ 1) × ((job_at t j).holder < 16)

pub places : (t : Table) → Facts t → Places t
places t f j h = ((f.job j h).moving, (f.job j h).holder)
