-- "A table as opened is fresh: every machine alive and told of nothing, no job admitted, no copy,
-- wait or message." Such a table satisfies the invariant.
-- Assumes nothing.
use mathlib.Core.Path.{◌≡◌, sym, ap, ◌∙◌}
use mathlib.Core.Logic.{◌≢◌}
use mathlib.Core.List.{[]}
use Prim.Native.Nat.{ℕ, ◌<◌}
use native.Mathlib.Omega.{arith}
use Rattle.lists.proofs.Count.{ind}
use Rattle.table.specs.declared.Job.{Job}
use Rattle.table.specs.declared.Table.{Table}
use Rattle.table.specs.Views.{no_job, job_at, machine_at, pool_at, flight}
use Rattle.protocol_preservation.proofs.Ok.{Valid}
use Rattle.theorem_invariant.proofs.State.{ReservationMatched, Transfer, Untold, Prices, Invariant, invariant}
use Rattle.theorem_invariant.proofs.About.{reserves_none}

-- what the invariant asks of a fresh table besides check 9
pub record Fresh (t : Table) : Type 0 where
  pub message : flight t ≡ []
  pub job : (j : ℕ) → j < 64 → job_at t j ≡ no_job
  pub pool : (m j : ℕ) → m < 16 → j < 64 → pool_at t m j ≡ 0
  pub reserved : (m : ℕ) → m < 16 → (machine_at t m).reserved_replica ≡ 0
  pub running : (m : ℕ) → m < 16 → (machine_at t m).running_replica ≡ 0

module _ (t : Table) (f : Fresh t) where
  -- no job is open or priced
  none : (j k : ℕ) → j < 64 → (job_at t j).state ≡ k → k ≢ 0 → ⊥
  none j k l e n = n (sym e ∙ ap (λ (v : Job). v.state) (f.job j l))

  pub fresh_reservation : ReservationMatched t []
  fresh_reservation m th j q ml tl alive told = omega (arith, ap ind (reserves_none (machine_at t m) j q th (f.reserved m ml)))

  pub fresh_transfer : Transfer t []
  fresh_transfer = record {
    known = tt;
    pools = λ m j ml jl. omega (arith, f.pool m j ml jl);
    moves = λ j l e. absurd (none j 1 l e (λ d. omega arith));
    on = λ j l e g. absurd (none j 1 l e (λ d. omega arith));
    moved = λ j l e g. absurd (none j 1 l e (λ d. omega arith));
    acked = λ j p l h e g. absurd (none j 1 l e (λ d. omega arith));
  }

  pub fresh_untold : Untold t []
  fresh_untold = record {
    sender = tt;
    copies =
        λ m l. record {
          reserved = omega (arith, f.reserved m l);
          running = omega (arith, f.running m l);
          untold = λ n. absurd (n (f.reserved m l));
        };
    placed = λ j l. record { holder = λ e. absurd (none j 1 l e (λ d. omega arith)); thief = λ e g. absurd (none j 1 l e (λ d. omega arith)) };
  }

  pub fresh_prices : Prices t []
  fresh_prices = record { sent = tt; shown = λ j l e. absurd (none j 2 l e (λ d. omega arith)) }

pub fresh_invariant : (t : Table) → Valid t → Fresh t → Invariant t
fresh_invariant t v f =
    invariant t v (rw f.message (fresh_reservation t f)) (rw f.message (fresh_transfer t f)) (rw f.message (fresh_untold t f))
    (rw f.message (fresh_prices t f))
