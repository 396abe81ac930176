-- The counts of check 9 through every accepted event. The number of open jobs stays the full recount through the update of a job (`recount_job` in the
-- crate `table`), and no other update touches either.
-- Assumes nothing.
use Prim.Native.Nat.{ℕ}
use mathlib.Core.Path.{◌≡◌, ◌∙◌}
use lib.Dec.{eqb}
use lib.ListN.{length, length-set}
use Rattle.lists.proofs.Cases.{cond_elim}
use Rattle.table.specs.declared.Table.{Table}
use Rattle.table.specs.Views.{machine_at, parts}
use Rattle.table.specs.Messages.{push, remove_at, keep_messages, send}
use Rattle.table.specs.Parts.{recount}
use Rattle.table.proofs.Views.{Sized}
use Rattle.table.proofs.Open.{recount_job}
use Rattle.event_admit_deliver_die.specs.AdmitDeliverDie.{admitted, delivered, died}
use Rattle.event_steal.specs.Steal.{stolen}
use Rattle.event_start_done.specs.StartDone.{started, finished}
use Rattle.event_notice.specs.Notice.{noticed}
use Rattle.protocol_preservation.proofs.Ok.{Counts}
use Rattle.protocol_preservation.proofs.Closed.{Closed, closed_admitted, closed_stolen, closed_delivered, closed_started, closed_finished}
use Rattle.protocol_preservation.proofs.Closed.{closed_died, closed_noticed}

abbrev Kept : ℕ → Table → Type 0
Kept n t = (length t.jobs ≡ 64) × (t.open_jobs ≡ recount t)

kept : Closed Kept
unfolding parts recount send push keep_messages
kept = record {
  handling = record {
    local = record {
      machine = λ n t m v e p. p;
      pool = λ n t m j r p. p;
      send = λ t x q p. cond_elim (Kept 0) (eqb (machine_at t x.to).alive 1) _ t p p;
      less = λ t p. p;
    };
    job = λ n t j v p. (length-set t.jobs j v ∙ p.0, recount_job t j v p.1 p.0);
  };
  told = λ t m d r p. p;
  keep_messages = λ t f p. p;
}

counted : (u : Table) → Kept 0 u → Counts u
counted u p = record { open_jobs = p.1 }

module _ (t : Table) (s : Sized t) (c : Counts t) where
  now : Kept 0 t
  now = (s.jobs, c.open_jobs)

  pub counts_admitted : (a : ℕ) → Counts (admitted t a)
  counts_admitted a = counted _ (closed_admitted Kept kept t a now)

  pub counts_stolen : (a b : ℕ) → Counts (stolen t a b)
  counts_stolen a b = counted _ (closed_stolen Kept kept t a b (λ l. now) now)

  pub counts_delivered : (k : ℕ) → Counts (delivered t k)
  unfolding parts recount remove_at
  counts_delivered k = counted _ (closed_delivered Kept kept t k now)

  pub counts_started : (a b : ℕ) → Counts (started t a b)
  counts_started a b = counted _ (closed_started Kept kept t a b now)

  pub counts_finished : (a : ℕ) → Counts (finished t a)
  counts_finished a = counted _ (closed_finished Kept kept t a now)

  pub counts_died : (a : ℕ) → Counts (died t a)
  unfolding parts recount
  counts_died a = counted _ (closed_died Kept kept t a (λ u p. p) now)

  pub counts_noticed : (a b : ℕ) → Counts (noticed t a b)
  counts_noticed a b = counted _ (closed_noticed Kept kept t a b now)
