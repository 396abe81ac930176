-- What Notice leaves as it was before the root's loop, one turn of that loop, and a job whose turn is still to come.
-- Assumes nothing.
use Prim.Native.Nat.{ℕ, ◌+◌, ◌≤◌}
use native.Mathlib.Nat.{le_refl}
use mathlib.Core.Path.{◌≡◌, refl, ap, ◌∙◌}
use mathlib.Core.Logic.{◌≢◌}
use mathlib.Core.Bool.{true, false, not, ◌&&◌, ◌||◌}
use native.Mathlib.Omega.{arith}
use borrow.Author.Tests.{eqb-true}
use lib.Dec.{eqb}
use Rattle.lists.specs.Scan.{up_to}
use Rattle.lists.proofs.Cases.{cond_elim, and_left}
use Rattle.lists.proofs.Keeps.{up_each}
use Rattle.table.specs.declared.Job.{Job}
use Rattle.table.specs.declared.Machine.{Machine}
use Rattle.table.specs.declared.Table.{Table}
use Rattle.table.specs.Views.{job_at, machine_at, with_job, with_machine}
use Rattle.table.specs.Pools.{enter, returned}
use Rattle.table.specs.Messages.{keep_messages}
use Rattle.table.specs.Parts.{opened, waiting, OPEN}
use Rattle.table.proofs.Views.{views, job_other, job_pool}
use Rattle.event_notice.specs.Notice.{informed, clear_wait, return_reserved, notice_local, affected, reissue_one}

-- ---- the machine is told

module _ (t : Table) (a b : ℕ) where
  pub job_informed : (j : ℕ) → job_at (informed t a b) j ≡ job_at t j
  unfolding informed keep_messages
  job_informed j = simp views

  pub machine_informed : (m : ℕ) → machine_at (informed t a b) m ≡ machine_at t m
  unfolding informed keep_messages
  machine_informed m = simp views

  pub entries_informed : (informed t a b).entry_count ≡ t.entry_count
  unfolding informed keep_messages
  entries_informed = simp views

-- ---- reserved copy and wait: a view that they do not change

module _ {A : Type 0} (f : Table → A) (t : Table) (a b : ℕ) where
  pub same_return_reserved : f (returned t a) ≡ f t → f (return_reserved t a b) ≡ f t
  unfolding return_reserved
  same_return_reserved e =
      cond_elim (λ u. f u ≡ f t) (not (eqb (machine_at t a).reserved_replica 0) && eqb (machine_at t a).reserved_thief b) _ t e refl

  pub same_clear_wait : f (with_machine t a (waiting (machine_at t a) 0)) ≡ f t → f (clear_wait t a b) ≡ f t
  unfolding clear_wait
  same_clear_wait e = cond_elim (λ u. f u ≡ f t) (eqb (machine_at t a).waits (b + 1)) _ t e refl

-- one that is neither a pool's nor machine a's
pub same_notice_local : {A : Type 0} (f : Table → A) (t : Table) (a b : ℕ) → ((u : Table) → f (returned u a) ≡ f u)
    → ((u : Table) (v : Machine) → f (with_machine u a v) ≡ f u) → f (notice_local t a b) ≡ f (informed t a b)
unfolding notice_local
same_notice_local f t a b p q =
    same_clear_wait f (return_reserved (informed t a b) a b) a b (q _ _) ∙ same_return_reserved f (informed t a b) a b (p (informed t a b))

-- no job has changed before the loop
pub job_notice_local : (t : Table) (a b j : ℕ) → job_at (notice_local t a b) j ≡ job_at t j
unfolding returned enter
job_notice_local t a b j = same_notice_local (λ u. job_at u j) t a b (λ u. simp views) (λ u v. simp views) ∙ job_informed t a b j

-- ---- one turn

pub affected_open : (v : Job) (b : ℕ) → affected v b ≡ true → v.state ≡ OPEN
affected_open v b e = eqb-true v.state OPEN (and_left (eqb v.state OPEN) (eqb v.holder b || eqb v.moving 1 && eqb v.thief b) e)

pub reissue_affected : (v : Job) (b j : ℕ) (u : Table) → affected v b ≡ true
    → enter (with_job u j (opened (v.replica + 1))) 0 j (v.replica + 1) ≡ reissue_one v b j u
unfolding reissue_one
reissue_affected v b j u e = rw (e, reissue_one)

pub reissue_unaffected : (v : Job) (b j : ℕ) (u : Table) → affected v b ≡ false → u ≡ reissue_one v b j u
unfolding reissue_one
reissue_unaffected v b j u e = rw (e, reissue_one)

-- a view that it does not change
pub one : {A : Type 0} (f : Table → A) (v : Job) (b j : ℕ) (u : Table)
    → f (enter (with_job u j (opened (v.replica + 1))) 0 j (v.replica + 1)) ≡ f u → f (reissue_one v b j u) ≡ f u
unfolding reissue_one
one f v b j u e = cond_elim (λ w. f w ≡ f u) (affected v b) _ u e refl

pub job_one_other : (v : Job) (b j k : ℕ) (u : Table) → k ≢ j → job_at (reissue_one v b j u) k ≡ job_at u k
unfolding enter
job_one_other v b j k u e =
    one (λ w. job_at w k) v b j u (job_pool (with_job u j (opened (v.replica + 1))) 0 j _ k ∙ job_other u j k (opened (v.replica + 1)) e)

-- ---- the turns before job k's

-- it is as it was
pub job_before : (t : Table) (b k n : ℕ) → n ≤ k → job_at (up_to (λ j u. reissue_one (job_at t j) b j u) n t) k ≡ job_at t k
job_before t b k n l =
    up_each (λ j u. reissue_one (job_at t j) b j u) (λ i u. job_at u k ≡ job_at t k) n
    (λ j u h p. job_one_other (job_at t j) b j k u (λ e. omega arith) ∙ p) t refl

-- so where it is affected, it is open
pub open_before : (t u : Table) (b k : ℕ) → u ≡ up_to (λ j w. reissue_one (job_at t j) b j w) k t → affected (job_at t k) b ≡ true
    → (job_at u k).state ≡ OPEN
open_before t u b k e a =
    ap (λ (w : Table). (job_at w k).state) e ∙ ap (λ (v : Job). v.state) (job_before t b k k (le_refl k)) ∙ affected_open (job_at t k) b a
