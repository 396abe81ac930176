-- Clauses R, O, N, H and S through Die: what is lost was on the dead machine, or on its way to it.
-- Assumes nothing.
use mathlib.Core.Path.{◌≡◌, sym, ap, ◌∙◌}
use Prim.Native.Nat.{ℕ}
use native.Mathlib.Omega.{arith}
use borrow.Author.Tests.{ne_eqb}
use Rattle.table.specs.declared.Machine.{Machine}
use Rattle.table.specs.declared.Table.{Table}
use Rattle.table.specs.Messages.{not_to}
use Rattle.event_admit_deliver_die.specs.AdmitDeliverDie.{died}
use Rattle.event_admit_deliver_die.proofs.Cases.{Dying}
use Rattle.event_admit_deliver_die.proofs.Views.{job_died, machine_died, machine_died_other, pool_died, pool_died_other, flight_died}
use Rattle.theorem_invariant.proofs.State.{Invariant, machine_16}
use Rattle.theorem_invariant.proofs.TransferLaws.{dead_is}
use Rattle.theorem_invariant.proofs.TransferWithout.{transfer_without}
use Rattle.theorem_invariant.proofs.TransferAnswers.{TransferNow}

pub transfer_died : (t : Table) → Invariant t → (a : ℕ) → Dying t a → TransferNow (died t a)
transfer_died t w a d =
    let al = machine_16 t w a d.machine in
    rw (flight_died t a)
    (transfer_without t (died t a) a (not_to a) w d.other (job_died t a)
    (dead_is (died t a) a (λ e. let z : ◌≡◌ {A = ℕ} 0 1 = sym (ap (λ (n : Machine). n.alive) (machine_died t a w.sized al)) ∙ e in omega arith))
    (machine_died_other t a)
    (pool_died_other t a)
    (λ j dl jl. rw (pool_died t a j w.sized al jl) (omega arith))
    (λ x f o. rw (ne_eqb x.to a o)))
