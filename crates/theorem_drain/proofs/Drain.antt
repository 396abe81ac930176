-- From every table of the invariant a list of at most 879 further events, each accepted and each a Deliver, Start, Done or Notice,
-- after which no job is open.
-- Assumes nothing.
use mathlib.Core.Logic.{◌≢◌}
use Prim.Native.Nat.{ℕ, ◌<◌}
use native.Mathlib.Omega.{arith}
use Rattle.table.specs.declared.Table.{Table}
use Rattle.table.specs.Parts.{OPEN}
use Rattle.table.specs.Views.{job_at}
use Rattle.theorem_invariant.proofs.State.{Invariant}
use Rattle.theorem_drain.proofs.Reach.{Reach, reach_map, reach_then}
use Rattle.theorem_drain.proofs.Notices.{Told, notices}
use Rattle.theorem_drain.proofs.Deliveries.{Drained, deliveries_640}
use Rattle.theorem_drain.proofs.Jobs.{NoneRunning, none_running, NoneOpen, none_open_all}

-- the invariant holds, and no job is open
pub record NoJobOpen (t : Table) : Type 0 where
  pub invariant : Invariant t
  pub none_open : (j : ℕ) → j < 64 → (job_at t j).state ≢ OPEN

-- 15 + 640 + 32 + 192
pub drain : (t : Table) → Invariant t → Reach NoJobOpen t 879
drain t w =
    reach_map NoJobOpen (NoneOpen 64) t 879 (λ u s. record { invariant = s.none_running.drained.invariant; none_open = s.none_open })
    (reach_then (NoneOpen 64) (Told 15) t 15 864 (notices t w)
    (λ u a. reach_then (NoneOpen 64) Drained u 640 224
    (deliveries_640 u a.invariant (λ d l. a.told d (omega (arith, a.invariant.facts.machine_count_most)) l))
    (λ v q. reach_then (NoneOpen 64) (NoneRunning 16) v 32 192 (none_running v q) none_open_all)))
