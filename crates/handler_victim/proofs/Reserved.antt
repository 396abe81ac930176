-- What is known of a machine whose reserved copy matches.
-- Assumes nothing.
use Prim.Native.Nat.{ℕ}
use mathlib.Core.Path.{◌≡◌}
use mathlib.Core.Bool.{true, not, ◌&&◌}
use borrow.Author.Tests.{eqb-true}
use lib.Dec.{eqb}
use Rattle.lists.proofs.Cases.{and_left, and_right}
use Rattle.table.specs.declared.Machine.{Machine}
use Rattle.table.specs.Parts.{copy_is, reserves}

module _ (n : Machine) (j r th : ℕ) (e : reserves n j r th ≡ true) where
  copy : copy_is n.reserved_job n.reserved_replica n.reserved_thief j r th ≡ true
  unfolding reserves
  copy = and_right (not (eqb n.reserved_replica 0)) (copy_is n.reserved_job n.reserved_replica n.reserved_thief j r th) e

  pub reserves_job_lem : n.reserved_job ≡ j
  unfolding copy_is
  reserves_job_lem = eqb-true _ _ (and_left (eqb n.reserved_job j) (eqb n.reserved_replica r && eqb n.reserved_thief th) copy)

  pub reserves_replica : n.reserved_replica ≡ r
  unfolding copy_is
  reserves_replica =
      eqb-true _ _
      (and_left (eqb n.reserved_replica r) (eqb n.reserved_thief th)
      (and_right (eqb n.reserved_job j) (eqb n.reserved_replica r && eqb n.reserved_thief th) copy))
