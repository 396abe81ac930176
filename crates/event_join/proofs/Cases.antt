-- Event 8 by cases: it is refused, with a number that is not 0 and the table as it was; or it is accepted, and then its refusals have tested what
-- `Joining` says. Assumes nothing.
use Prim.Native.Nat.{ℕ, ◌<◌}
use mathlib.Core.Path.{◌≡◌, refl, sym}
use mathlib.Core.Bool.{not}
use native.Mathlib.Omega.{arith}
use borrow.Author.Tests.{eqb-true, leb-false, not-false}
use lib.Dec.{eqb, leb}
use Rattle.lists.proofs.Cases.{by_bool}
use Rattle.table.specs.declared.Table.{Table}
use Rattle.table.proofs.Refusals.{Judged, judged_number}
use Rattle.event_join.specs.Join.{joined, join_number, join_of}

pub record Joining (t : Table) (a : ℕ) : Type 0 where
  pub room : t.machine_count < 16
  pub next : a ≡ t.machine_count

module _ (t : Table) (a : ℕ) where
  -- so it has a place in the arrays
  pub join_16 : Joining t a → a < 16
  join_16 c = omega (arith, c.room, c.next)

  pub by_join : Judged t (Joining t a) (joined t a) (join_of t a)
  unfolding join_of
  by_join P refused f =
      by_bool (leb 16 t.machine_count) (λ e. rw (e, join_of) (refused 26 refl))
      (λ e1. by_bool (not (eqb a t.machine_count)) (λ e. rw (e1, e, join_of) (refused 27 refl))
      (λ e2. rw (e1, e2, join_of)
      (f (record { room = leb-false 16 t.machine_count e1; next = eqb-true a t.machine_count (not-false _ e2) }))))

  pub join_number_lem : join_number t.machine_count a ≡ (join_of t a).number
  unfolding join_of
  join_number_lem = sym (judged_number t _ (joined t a))
