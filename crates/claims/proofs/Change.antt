-- How one event changes one job: the five ways, told by whether the event admits the job, delivers a RESULT for it,
-- or is a notice to the root that finds it.
-- Assumes nothing.
use Prim.Native.Nat.{ℕ, ◌+◌, ◌≤◌, ◌<◌}
use mathlib.Core.Path.{◌≡◌, ap}
use mathlib.Core.Bool.{Bool, true, false}
use lib.ListN.{get_or-eq_default}
use native.Mathlib.Omega.{arith}
use Rattle.lists.proofs.Cases.{by_eq}
use Rattle.table.specs.declared.Job.{Job}
use Rattle.table.specs.declared.Message.{Message}
use Rattle.table.specs.declared.Table.{Table}
use Rattle.table.specs.Views.{no_job, job_at, with_job}
use Rattle.table.specs.Messages.{remove_at, send}
use Rattle.table.specs.Parts.{opened, priced, NOT_ADMITTED, OPEN, PRICED}
use Rattle.table.proofs.Views.{Sized, job_same, job_other, job_messages}
use Rattle.theorem_invariant.proofs.Flight.{view_send}

-- w shows what v showed, but for its place; a priced job is untouched
pub record Same (v w : Job) : Type 0 where
  pub state : w.state ≡ v.state
  pub price : w.price ≡ v.price
  pub replica : w.replica ≡ v.replica
  pub stays : v.state ≡ PRICED → w ≡ v

pub same_job : (v w : Job) → w ≡ v → Same v w
same_job v w e =
    record { state = ap (λ (u : Job). u.state) e; price = ap (λ (u : Job). u.price) e; replica = ap (λ (u : Job). u.replica) e; stays = λ d. e }

-- job v becomes w: a, d and f say whether the event admits it, delivers a RESULT for it, or finds it; p is that RESULT's price
pub data Change (a d f : Bool) (p : ℕ) (v w : Job) : Type 0 where
  admission : a ≡ true → d ≡ false → f ≡ false → v.state ≡ NOT_ADMITTED → w ≡ opened 1 → Change a d f p v w
  pricing : a ≡ false → d ≡ true → f ≡ false → v.state ≡ OPEN → w ≡ priced v p → Change a d f p v w
  late : a ≡ false → d ≡ true → f ≡ false → v.state ≡ PRICED → w ≡ v → Change a d f p v w
  finding : a ≡ false → d ≡ false → f ≡ true → v.state ≡ OPEN → w ≡ opened (v.replica + 1) → Change a d f p v w
  other : a ≡ false → d ≡ false → f ≡ false → Same v w → Change a d f p v w

-- ---- jobs after a part of an event

pub job_send : (t : Table) (x : Message) (j : ℕ) → job_at (send t x) j ≡ job_at t j
job_send t x j = view_send (λ u. job_at u j) t x (λ n l. job_messages t n l j)

pub job_remove_at : (t : Table) (k j : ℕ) → job_at (remove_at t k) j ≡ job_at t j
unfolding remove_at
job_remove_at t k j = job_messages t _ _ j

-- job i is now w, which differs from what it was by its place alone
pub same_with : (t : Table) → Sized t → (i : ℕ) (w : Job) → i < 64 → Same (job_at t i) w → (j : ℕ) → Same (job_at t j) (job_at (with_job t i w) j)
same_with t z i w l s j =
    by_eq j i
    (λ e. rw (e, job_same t z i w l) s)
    (λ e. same_job (job_at t j) (job_at (with_job t i w) j) (job_other t i j w e))

-- past the array there is no job
pub job_past : (t : Table) → Sized t → (j : ℕ) → 64 ≤ j → job_at t j ≡ no_job
unfolding job_at
job_past t z j l = get_or-eq_default t.jobs no_job (omega (arith, z.jobs))
