-- Who lives and who was told of whom: a handler changes neither, and no event but Die changes who lives.
-- Assumes nothing.
use Prim.Native.Nat.{ℕ}
use mathlib.Core.Path.{◌≡◌, refl, ◌∙◌}
use lib.Dec.{eqb}
use Rattle.lists.proofs.Cases.{cond_elim}
use Rattle.table.specs.declared.Table.{Table}
use Rattle.table.specs.Views.{machine_at, told_at}
use Rattle.table.specs.Messages.{push, remove_at, keep_messages, send}
use Rattle.table.proofs.Views.{views, alive_machine}
use Rattle.event_admit_deliver_die.specs.AdmitDeliverDie.{admitted, delivered}
use Rattle.event_steal.specs.Steal.{stolen}
use Rattle.event_start_done.specs.StartDone.{started, finished}
use Rattle.event_notice.specs.Notice.{noticed}
use Rattle.protocol_preservation.proofs.Closed.{Handling, Closed, closed_handle, closed_admitted, closed_stolen, closed_delivered, closed_started}
use Rattle.protocol_preservation.proofs.Closed.{closed_finished, closed_noticed}

module _ (t : Table) where
  -- ---- who lives

  abbrev Lives : ℕ → Table → Type 0
  Lives n u = (m : ℕ) → (machine_at u m).alive ≡ (machine_at t m).alive

  lives : Closed Lives
  unfolding keep_messages send push
  lives = record {
    handling = record {
      local = record {
        machine = λ n u m v e p k. alive_machine u m v e k ∙ p k;
        pool = λ n u m j r p k. simp views (p k);
        send =
            λ u x q p k. cond_elim (λ w. (machine_at w k).alive ≡ (machine_at t k).alive) (eqb (machine_at u x.to).alive 1) _ u (simp views (p k)) (p k);
        less = λ u p. p;
      };
      job = λ n u j v p k. simp views (p k);
    };
    told = λ u m d r p k. simp views (p k);
    keep_messages = λ u q p k. simp views (p k);
  }

  same : Lives 0 t
  same m = refl

  pub alive_admitted : (a m : ℕ) → (machine_at (admitted t a) m).alive ≡ (machine_at t m).alive
  alive_admitted a = closed_admitted Lives lives t a same

  pub alive_stolen : (a b m : ℕ) → (machine_at (stolen t a b) m).alive ≡ (machine_at t m).alive
  alive_stolen a b = closed_stolen Lives lives t a b (λ l. same) same

  pub alive_delivered : (k m : ℕ) → (machine_at (delivered t k) m).alive ≡ (machine_at t m).alive
  unfolding remove_at
  alive_delivered k = closed_delivered Lives lives t k (λ m. simp views)

  pub alive_started : (a b m : ℕ) → (machine_at (started t a b) m).alive ≡ (machine_at t m).alive
  alive_started a b = closed_started Lives lives t a b same

  pub alive_finished : (a m : ℕ) → (machine_at (finished t a) m).alive ≡ (machine_at t m).alive
  alive_finished a = closed_finished Lives lives t a same

  pub alive_noticed : (a b m : ℕ) → (machine_at (noticed t a b) m).alive ≡ (machine_at t m).alive
  alive_noticed a b = closed_noticed Lives lives t a b same

  -- ---- who was told of whom

  abbrev Tells : ℕ → Table → Type 0
  Tells n u = (m d : ℕ) → told_at u m d ≡ told_at t m d

  tells : Handling Tells
  unfolding send push
  tells = record {
    local = record {
      machine = λ n u m v e p k d. simp views (p k d);
      pool = λ n u m j r p k d. simp views (p k d);
      send = λ u x q p k d. cond_elim (λ w. told_at w k d ≡ told_at t k d) (eqb (machine_at u x.to).alive 1) _ u (simp views (p k d)) (p k d);
      less = λ u p. p;
    };
    job = λ n u j v p k d. simp views (p k d);
  }

  pub told_delivered : (k m d : ℕ) → told_at (delivered t k) m d ≡ told_at t m d
  unfolding delivered remove_at
  told_delivered k = closed_handle Tells tells _ _ (λ m d. simp views)
