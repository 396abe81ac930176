-- Demand 3 of document 01, for every accepted book and every list of events.
-- Assumes nothing.
use Prim.Native.Nat.{ℕ}
use mathlib.Core.Path.{◌≡◌, refl, sym, ◌∙◌}
use mathlib.Core.List.{List, ◌++◌}
use native.Mathlib.Omega.{arith}
use Rattle.book.specs.Book.{book_verdict}
use Rattle.table.specs.declared.Table.{Table}
use Rattle.table.specs.Parts.{PRICED}
use Rattle.table.specs.Views.{job_at}
use Rattle.table_opening.specs.Opening.{open_of}
use Rattle.theorem_invariant.proofs.State.{Invariant, valid}
use Rattle.theorem_invariant.proofs.Keeps.{invariant_run}
use Rattle.dispatcher.specs.Step.{run_of, answers_of}
use Rattle.dispatcher.proofs.Runs.{run_append, answers_length}
use Rattle.claims.specs.Claims.{Demand3, RunsAgree}
use Rattle.claims.proofs.Runs.{answered}
use Rattle.claims.proofs.History.{settled}
use Rattle.claims.proofs.Shown.{Start, shown}
use Rattle.claims.proofs.Further.{job_64, further}
use Rattle.claims.proofs.Start.{start}

-- a job that is priced after some events is untouched by later ones
stays : (t : Table) (es later : List (List ℕ)) (j : ℕ) → Invariant t → (job_at (run_of t es) j).state ≡ PRICED
    → job_at (run_of t (es ++ later)) j ≡ job_at (run_of t es) j
stays t es later j w e =
    let x = invariant_run t es w in
    rw (run_append t es later) (settled j (job_64 (run_of t es) j x (λ z. omega arith)) (run_of t es) later x e).job

pub demand_3 : (book : List ℕ) → book_verdict book ≡ 0 → (events : List (List ℕ))
    → Demand3 book events (answers_of (open_of book).table events) (run_of (open_of book).table events)
demand_3 book accepted events =
    let t = (open_of book).table in
    let s : Start book t = start book accepted in
    record {
      each = answers_length t events;
      answers = λ front e back split. rw split (answered t (valid t s.invariant) front e back);
      returned = refl;
      shown = λ j l. shown book t events s j l;
      stays = λ later j e. stays t events later j s.invariant e;
      further = further (run_of t events) (invariant_run t events s.invariant);
    }

-- two runs over one book give a bond that both have priced the same 64 bits: those of one machine
pub runs_agree : (book : List ℕ) → book_verdict book ≡ 0 → RunsAgree book
runs_agree book accepted = record {
  price = λ events others j l a b. ((demand_3 book accepted events).shown j l).serial a ∙ sym (((demand_3 book accepted others).shown j l).serial b);
}
