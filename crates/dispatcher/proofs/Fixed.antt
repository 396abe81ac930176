-- A part of the table that no one-part update writes, such as an entry's terms, is after every event, and along every run, what it was before. The
-- machine count is so after every event but Join, and therefore not along a run.
-- Assumes nothing.
use mathlib.Core.Path.{◌≡◌, refl, ◌∙◌}
use mathlib.Core.Bool.{false}
use mathlib.Core.List.{List}
use Prim.Native.Nat.{ℕ}
use lib.Dec.{eqb}
use Rattle.lists.proofs.Cases.{cond_elim}
use Rattle.table.specs.declared.Job.{Job}
use Rattle.table.specs.declared.Machine.{Machine}
use Rattle.table.specs.declared.Message.{Message}
use Rattle.table.specs.declared.Table.{Table}
use Rattle.table.specs.Views.{bond_at, machine_at, with_job, with_machine, with_pool, with_told, with_messages, with_machine_count}
use Rattle.table.specs.Messages.{remove_at, push, keep_messages, send}
use Rattle.table.proofs.Views.{bond_job, bond_machine, bond_pool, bond_told, bond_messages, bonds_job, bonds_machine, bonds_pool, bonds_told}
use Rattle.table.proofs.Views.{bonds_messages, machine_count_job, machine_count_machine, machine_count_pool, machine_count_told}
use Rattle.table.proofs.Views.{machine_count_messages, bond_machine_count, bonds_machine_count}
use Rattle.handler.specs.Handler.{handle}
use Rattle.event_admit_deliver_die.specs.AdmitDeliverDie.{admitted, delivered, died}
use Rattle.event_steal.specs.Steal.{stolen}
use Rattle.event_start_done.specs.StartDone.{started, finished}
use Rattle.event_notice.specs.Notice.{noticed}
use Rattle.event_join.specs.Join.{joined}
use Rattle.event_join.proofs.Cases.{Joining}
use Rattle.protocol_preservation.proofs.Closed.{Closed, closed_handle, closed_admitted, closed_stolen, closed_delivered, closed_started}
use Rattle.protocol_preservation.proofs.Closed.{closed_finished, closed_died, closed_noticed}
use Rattle.dispatcher.specs.Codes.{ADMIT, STEAL, DELIVER, START, DONE, DIE, NOTICE, JOIN}
use Rattle.dispatcher.specs.Step.{code_of, first_of, step_of, run_of}
use Rattle.dispatcher.proofs.Events.{Arms}
use Rattle.dispatcher.proofs.ByEvent.{Preserved, by_step, by_run}

-- no one-part update writes what f reads; whether that of the machine count does is left open
pub record Fixed {A : Type 0} (f : Table → A) : Type 0 where
  pub job : (t : Table) (j : ℕ) (v : Job) → f (with_job t j v) ≡ f t
  pub machine : (t : Table) (m : ℕ) (v : Machine) → f (with_machine t m v) ≡ f t
  pub pool : (t : Table) (m j r : ℕ) → f (with_pool t m j r) ≡ f t
  pub told : (t : Table) (m d r : ℕ) → f (with_told t m d r) ≡ f t
  pub messages : (t : Table) (n : ℕ) (l : List Message) → f (with_messages t n l) ≡ f t

-- the machine count, all terms, and the terms of entry j
pub fixed_machine_count : Fixed (λ t. t.machine_count)
fixed_machine_count =
    record {
      job = machine_count_job;
      machine = machine_count_machine;
      pool = machine_count_pool;
      told = machine_count_told;
      messages = machine_count_messages;
    }

fixed_bonds : Fixed (λ t. t.bonds)
fixed_bonds = record { job = bonds_job; machine = bonds_machine; pool = bonds_pool; told = bonds_told; messages = bonds_messages }

pub fixed_bond : (j : ℕ) → Fixed (λ t. bond_at t j)
fixed_bond j = record {
  job = λ t i v. bond_job t i v j;
  machine = λ t m v. bond_machine t m v j;
  pool = λ t m i r. bond_pool t m i r j;
  told = λ t m d r. bond_told t m d r j;
  messages = λ t n l. bond_messages t n l j;
}

module _ {A : Type 0} (f : Table → A) (h : Fixed f) where
  -- f is a of this table: the updates keep that
  abbrev Is : A → ℕ → Table → Type 0
  Is a n t = f t ≡ a

  fixed_closed : (a : A) → Closed (Is a)
  unfolding keep_messages send push
  fixed_closed a = record {
    handling = record {
      local = record {
        machine = λ n t m v e p. h.machine t m v ∙ p;
        pool = λ n t m j r p. h.pool t m j r ∙ p;
        send = λ t x q p. cond_elim (Is a 0) (eqb (machine_at t x.to).alive 1) _ t (h.messages t _ _ ∙ p) p;
        less = λ t p. p;
      };
      job = λ n t j v p. h.job t j v ∙ p;
    };
    told = λ t m d r p. h.told t m d r ∙ p;
    keep_messages = λ t q p. h.messages t _ _ ∙ p;
  }

  module _ (t : Table) where
    pub fixed_handle : (x : Message) → f (handle t x) ≡ f t
    fixed_handle x = closed_handle (Is (f t)) (fixed_closed (f t)).handling t x refl

    pub fixed_admitted : (a : ℕ) → f (admitted t a) ≡ f t
    fixed_admitted a = closed_admitted (Is (f t)) (fixed_closed (f t)) t a refl

    pub fixed_stolen : (a b : ℕ) → f (stolen t a b) ≡ f t
    fixed_stolen a b = closed_stolen (Is (f t)) (fixed_closed (f t)) t a b (λ l. refl) refl

    pub fixed_delivered : (k : ℕ) → f (delivered t k) ≡ f t
    unfolding remove_at
    fixed_delivered k = closed_delivered (Is (f t)) (fixed_closed (f t)) t k (h.messages t _ _)

    pub fixed_started : (a b : ℕ) → f (started t a b) ≡ f t
    fixed_started a b = closed_started (Is (f t)) (fixed_closed (f t)) t a b refl

    pub fixed_finished : (a : ℕ) → f (finished t a) ≡ f t
    fixed_finished a = closed_finished (Is (f t)) (fixed_closed (f t)) t a refl

    pub fixed_died : (a : ℕ) → f (died t a) ≡ f t
    fixed_died a = closed_died (Is (f t)) (fixed_closed (f t)) t a (λ u p. h.machine u a _ ∙ p) refl

    pub fixed_noticed : (a b : ℕ) → f (noticed t a b) ≡ f t
    fixed_noticed a b = closed_noticed (Is (f t)) (fixed_closed (f t)) t a b refl

  -- every accepted event but Join keeps it, whatever P is to follow from that
  pub fixed_arms : (P : Table → Type 0) (t : Table) (e : List ℕ)
      → ((u : Table) (k : ℕ) → code_of e ≡ k → eqb k JOIN ≡ false → f u ≡ f t → P u)
      → (code_of e ≡ JOIN → Joining t (first_of e) → P (joined t (first_of e))) → Arms P t e
  fixed_arms P t e kept joins = record {
    admit = λ c d. kept _ ADMIT c refl (fixed_admitted t _);
    steal = λ c d. kept _ STEAL c refl (fixed_stolen t _ _);
    deliver = λ c d. kept _ DELIVER c refl (fixed_delivered t _);
    start = λ c d. kept _ START c refl (fixed_started t _ _);
    done = λ c d. kept _ DONE c refl (fixed_finished t _);
    die = λ c d. kept _ DIE c refl (fixed_died t _);
    notice = λ c d. kept _ NOTICE c refl (fixed_noticed t _ _);
    join = joins;
  }

  -- ---- steps and runs, where the update of the machine count does not write it either

  module _ (count : (t : Table) (n : ℕ) → f (with_machine_count t n) ≡ f t) where
    fixed_joined : (t : Table) (a : ℕ) → f (joined t a) ≡ f t
    unfolding joined
    fixed_joined t a = count _ _ ∙ h.machine t a _

    fixed_preserved : (a : A) → Preserved (λ t. f t ≡ a)
    fixed_preserved a t e p = fixed_arms (λ u. f u ≡ a) t e (λ u k c n same. same ∙ p) (λ c d. fixed_joined t _ ∙ p)

    pub fixed_step : (t : Table) (e : List ℕ) → f (step_of t e).table ≡ f t
    fixed_step t e = by_step (λ u. f u ≡ f t) (fixed_preserved (f t)) t refl e

    fixed_run : (t : Table) (es : List (List ℕ)) → f (run_of t es) ≡ f t
    fixed_run t es = by_run (λ u. f u ≡ f t) (fixed_preserved (f t)) t es refl

-- ---- the terms

pub step_bonds : (t : Table) (e : List ℕ) → (step_of t e).table.bonds ≡ t.bonds
step_bonds t e = fixed_step (λ u. u.bonds) fixed_bonds bonds_machine_count t e

pub bond_run : (t : Table) (es : List (List ℕ)) (j : ℕ) → bond_at (run_of t es) j ≡ bond_at t j
bond_run t es j = fixed_run (λ u. bond_at u j) (fixed_bond j) (λ u n. bond_machine_count u n j) t es
