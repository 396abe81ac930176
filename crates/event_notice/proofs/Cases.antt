-- Event 7 by cases: it is refused, with a number that is not 0 and the table as it was; or it is accepted, and then its refusals have tested what
-- `Noticing` says. Assumes nothing.
use Prim.Native.Nat.{ℕ, ◌<◌}
use mathlib.Core.Path.{◌≡◌, refl}
use mathlib.Core.Logic.{◌≢◌}
use mathlib.Core.Bool.{not}
use borrow.Author.Tests.{eqb-true, eqb-false, not-false}
use lib.Dec.{eqb}
use Rattle.lists.proofs.Cases.{by_bool}
use Rattle.table.specs.declared.Table.{Table}
use Rattle.table.specs.Views.{machine_at, told_at}
use Rattle.table.specs.Parts.{lives}
use Rattle.table.proofs.Refusals.{Judged}
use Rattle.event_notice.specs.Notice.{noticed, notice_of}

pub record Noticing (t : Table) (a b : ℕ) : Type 0 where
  pub machine : a < t.machine_count
  pub named : b < t.machine_count
  pub alive : (machine_at t a).alive ≡ 1
  pub dead : (machine_at t b).alive ≢ 1
  pub new : told_at t a b ≡ 0

module _ (t : Table) (a b : ℕ) (h : a < t.machine_count) (k : b < t.machine_count) where
  pub by_notice : Judged t (Noticing t a b) (noticed t a b) (notice_of t a b)
  unfolding notice_of
  by_notice P refused f =
      by_bool (not (lives t a)) (λ e. rw (e, notice_of) (refused 12 refl))
      (λ e1. by_bool (lives t b) (λ e. rw (e1, e, notice_of) (refused 21 refl))
      (λ e2. by_bool (not (eqb (told_at t a b) 0)) (λ e. rw (e1, e2, e, notice_of) (refused 22 refl))
      (λ e3. rw (e1, e2, e3, notice_of)
      (f (record {
        machine = h;
        named = k;
        alive = eqb-true _ 1 (not-false (lives t a) e1);
        dead = eqb-false (machine_at t b).alive 1 e2;
        new = eqb-true (told_at t a b) 0 (not-false _ e3);
      })))))
