-- Events 4 and 5 by cases: an event is refused, with a number that is not 0 and the table as it was; or it is accepted, and then its refusals have
-- tested what the record of its kind says. Assumes nothing.
use Prim.Native.Nat.{ℕ, ◌<◌}
use mathlib.Core.Path.{◌≡◌, refl}
use mathlib.Core.Logic.{◌≢◌}
use mathlib.Core.Bool.{not}
use borrow.Author.Tests.{eqb-true, eqb-false, leb-false, not-false}
use lib.Dec.{eqb, leb}
use Rattle.lists.proofs.Cases.{by_bool}
use Rattle.table.specs.declared.Table.{Table}
use Rattle.table.specs.Views.{machine_at, pool_at}
use Rattle.table.specs.Parts.{lives}
use Rattle.table.proofs.Refusals.{Judged}
use Rattle.event_start_done.specs.StartDone.{started, start_of, finished, done_of}

pub record Starting (t : Table) (a b : ℕ) : Type 0 where
  pub machine : a < t.machine_count
  pub entry : b < t.entry_count
  pub alive : (machine_at t a).alive ≡ 1
  pub idle : (machine_at t a).running_replica ≡ 0
  pub pooled : pool_at t a b ≢ 0

pub record Finishing (t : Table) (a : ℕ) : Type 0 where
  pub machine : a < t.machine_count
  pub alive : (machine_at t a).alive ≡ 1
  pub runs : (machine_at t a).running_replica ≢ 0
  pub room : t.in_flight < 128

module _ (t : Table) (a b : ℕ) (h : a < t.machine_count) (k : b < t.entry_count) where
  pub by_start : Judged t (Starting t a b) (started t a b) (start_of t a b)
  unfolding start_of
  by_start P refused f =
      let r = (machine_at t a).running_replica in
      by_bool (not (lives t a)) (λ e. rw (e, start_of) (refused 12 refl))
      (λ e1. by_bool (not (eqb r 0)) (λ e. rw (e1, e, start_of) (refused 17 refl))
      (λ e2. by_bool (eqb (pool_at t a b) 0) (λ e. rw (e1, e2, e, start_of) (refused 18 refl))
      (λ e3. rw (e1, e2, e3, start_of)
      (f (record {
        machine = h;
        entry = k;
        alive = eqb-true _ 1 (not-false (lives t a) e1);
        idle = eqb-true r 0 (not-false _ e2);
        pooled = eqb-false (pool_at t a b) 0 e3;
      })))))

module _ (t : Table) (a : ℕ) (h : a < t.machine_count) where
  pub by_done : Judged t (Finishing t a) (finished t a) (done_of t a)
  unfolding done_of
  by_done P refused f =
      let r = (machine_at t a).running_replica in
      by_bool (not (lives t a)) (λ e. rw (e, done_of) (refused 12 refl))
      (λ e1. by_bool (eqb r 0) (λ e. rw (e1, e, done_of) (refused 19 refl))
      (λ e2. by_bool (leb 128 t.in_flight) (λ e. rw (e1, e2, e, done_of) (refused 16 refl))
      (λ e3. rw (e1, e2, e3, done_of)
      (f (record {
        machine = h;
        alive = eqb-true _ 1 (not-false (lives t a) e1);
        runs = eqb-false r 0 e2;
        room = leb-false 128 t.in_flight e3;
      })))))
