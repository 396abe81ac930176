-- Event 2 by cases: it is refused, with a number that is not 0 and the table as it was; or it is accepted, and then its refusals have tested what
-- `Stealing` says. Assumes nothing.
use Prim.Native.Nat.{ℕ, ◌<◌}
use mathlib.Core.Path.{◌≡◌, refl}
use mathlib.Core.Bool.{not, ◌&&◌}
use borrow.Author.Tests.{eqb-true, eq-eqb, leb-false, not-false}
use lib.Dec.{eqb, leb}
use Rattle.lists.proofs.Cases.{by_bool}
use Rattle.table.specs.declared.Table.{Table}
use Rattle.table.specs.Views.{machine_at, told_at}
use Rattle.table.specs.Needs.{RoomFor}
use Rattle.table.specs.Parts.{lives}
use Rattle.table.proofs.Refusals.{Judged}
use Rattle.event_steal.specs.Steal.{stolen, steal_of}

pub record Stealing (t : Table) (a b : ℕ) : Type 0 where
  pub machine : a < t.machine_count
  pub victim : b < t.machine_count
  pub alive : (machine_at t a).alive ≡ 1
  pub untold : told_at t a b ≡ 0
  pub room : RoomFor t b

module _ (t : Table) (a b : ℕ) (h : a < t.machine_count) (k : b < t.machine_count) where
  pub by_steal : Judged t (Stealing t a b) (stolen t a b) (steal_of t a b)
  unfolding steal_of
  by_steal P refused f =
      by_bool (not (lives t a)) (λ e. rw (e, steal_of) (refused 12 refl))
      (λ e1. by_bool (eqb a b) (λ e. rw (e1, e, steal_of) (refused 14 refl))
      (λ e2. by_bool (not (eqb (machine_at t a).waits 0)) (λ e. rw (e1, e2, e, steal_of) (refused 24 refl))
      (λ e3. by_bool (not (eqb (told_at t a b) 0)) (λ e. rw (e1, e2, e3, e, steal_of) (refused 25 refl))
      (λ e4. by_bool (lives t b && leb 128 t.in_flight) (λ e. rw (e1, e2, e3, e4, e, steal_of) (refused 16 refl))
      (λ e5. rw (e1, e2, e3, e4, e5, steal_of)
      (f (record {
        machine = h;
        victim = k;
        alive = eqb-true _ 1 (not-false (lives t a) e1);
        untold = eqb-true (told_at t a b) 0 (not-false _ e4);
        room = λ l. leb-false 128 t.in_flight (rw (eq-eqb (machine_at t b).alive 1 l) at e5);
      })))))))
