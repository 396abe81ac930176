-- Events 1, 3 and 6 by cases: an event is refused, with a number that is not 0 and the table as it was; or it is accepted, and then its refusals have
-- tested what the record of its kind says. Assumes nothing.
use Prim.Native.Nat.{ℕ, ◌<◌}
use mathlib.Core.Path.{◌≡◌, refl}
use mathlib.Core.Logic.{◌≢◌}
use mathlib.Core.Bool.{not}
use borrow.Author.Tests.{eqb-true, eqb-false, leb-false, not-false}
use lib.Dec.{eqb, leb}
use Rattle.lists.proofs.Cases.{by_bool}
use Rattle.table.specs.declared.Table.{Table}
use Rattle.table.specs.Views.{job_at, machine_at}
use Rattle.table.specs.Messages.{oldest}
use Rattle.table.specs.Parts.{lives, NOT_ADMITTED}
use Rattle.table.proofs.Refusals.{Judged}
use Rattle.event_admit_deliver_die.specs.AdmitDeliverDie.{admitted, admit_of, delivered, deliver_of, died, die_of}

pub record Admitting (t : Table) (a : ℕ) : Type 0 where
  pub entry : a < t.entry_count
  pub new : (job_at t a).state ≡ NOT_ADMITTED

pub record Delivering (t : Table) (a b : ℕ) : Type 0 where
  pub slot : oldest t a b < t.in_flight

pub record Dying (t : Table) (a : ℕ) : Type 0 where
  pub machine : a < t.machine_count
  pub other : a ≢ 0
  pub alive : (machine_at t a).alive ≡ 1

module _ (t : Table) (a : ℕ) (h : a < t.entry_count) where
  pub by_admit : Judged t (Admitting t a) (admitted t a) (admit_of t a)
  unfolding admit_of
  by_admit P refused f =
      let state = (job_at t a).state in
      by_bool (not (eqb state NOT_ADMITTED)) (λ e. rw (e, admit_of) (refused 13 refl))
      (λ e. rw (e, admit_of) (f (record { entry = h; new = eqb-true state 0 (not-false _ e) })))

module _ (t : Table) (a b : ℕ) where
  pub by_deliver : Judged t (Delivering t a b) (delivered t (oldest t a b)) (deliver_of t a b)
  unfolding deliver_of
  by_deliver P refused f =
      by_bool (leb t.in_flight (oldest t a b)) (λ e. rw (e, deliver_of) (refused 15 refl))
      (λ e. rw (e, deliver_of) (f (record { slot = leb-false t.in_flight (oldest t a b) e })))

module _ (t : Table) (a : ℕ) (h : a < t.machine_count) where
  pub by_die : Judged t (Dying t a) (died t a) (die_of t a)
  unfolding die_of
  by_die P refused f =
      by_bool (eqb a 0) (λ e. rw (e, die_of) (refused 20 refl))
      (λ e1. by_bool (not (lives t a)) (λ e. rw (e1, e, die_of) (refused 12 refl))
      (λ e2. rw (e1, e2, die_of) (f (record { machine = h; other = eqb-false a 0 e1; alive = eqb-true _ 1 (not-false (lives t a) e2) }))))
