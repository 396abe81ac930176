-- What the table after a list of events shows of one job, where the first event is given a table of the invariant that has the book's terms, no job
-- admitted and no machine dead.
-- Assumes nothing.
use Prim.Native.Nat.{ℕ, ◌+◌, ◌≤◌, ◌<◌}
use mathlib.Core.Path.{◌≡◌, sym, ap, ◌∙◌}
use mathlib.Core.List.{List}
use native.Mathlib.Omega.{arith}
use lib.ListN.{get_or}
use Rattle.lists.proofs.Scans.{tabulate_at}
use Rattle.pricer.specs.Price.{price_bits}
use Rattle.book.specs.Parts.{entry_count_of, bond_of}
use Rattle.table.specs.declared.Job.{Job}
use Rattle.table.specs.Parts.{NOT_ADMITTED, PRICED}
use Rattle.table.specs.declared.Table.{Table}
use Rattle.table.specs.Views.{bond_at, job_at}
use Rattle.theorem_invariant.proofs.State.{Invariant}
use Rattle.dispatcher.proofs.Fixed.{bond_run}
use Rattle.theorem_invariant.proofs.Keeps.{invariant_run}
use Rattle.dispatcher.specs.Step.{run_of}
use Rattle.claims.specs.History.{count_of, admits, kills, serial_of}
use Rattle.claims.specs.Claims.{Shown}
use Rattle.claims.proofs.History.{new_run}
use Rattle.claims.proofs.Deaths.{deaths, max_replica_run}

-- ---- one machine, bond after bond

serial_at : (book : List ℕ) (j : ℕ) → j < entry_count_of book → get_or (serial_of book) j 0 ≡ price_bits (bond_of book j)
unfolding serial_of
serial_at book j l = tabulate_at (λ i. price_bits (bond_of book i)) 0 0 (entry_count_of book) j 0 l

-- ---- the job

-- what is asked of the table that the first event is given
pub record Start (book : List ℕ) (t : Table) : Type 0 where
  pub invariant : Invariant t
  pub new : (j : ℕ) → j < 64 → (job_at t j).state ≡ NOT_ADMITTED
  pub bond : (j : ℕ) → j < 64 → bond_at t j ≡ bond_of book j
  pub none : deaths t ≡ 0
  pub entry_count : entry_count_of book ≤ 64

module _ (book : List ℕ) (t : Table) (es : List (List ℕ)) (s : Start book t) (j : ℕ) (entry : j < entry_count_of book) where
  abbrev u : Table
  u = run_of t es

  w : Invariant u
  w = invariant_run t es s.invariant

  l : j < 64
  l = omega (arith, entry, s.entry_count)

  right : (job_at u j).state ≡ PRICED → (job_at u j).price ≡ get_or (serial_of book) j 0
  right e = w.prices.shown j l e ∙ ap price_bits (bond_run t es j ∙ s.bond j l) ∙ sym (serial_at book j entry)

  few : (job_at u j).replica ≤ 1 + count_of kills t es
  few = omega (arith, (w.facts.job j l).replica, max_replica_run t es s.invariant s.none)

  pub shown : Shown book t es j (job_at u j)
  shown =
      let r = new_run j l t es s.invariant (s.new j l) in
      let n : 0 + count_of (admits j) t es ≡ count_of (admits j) t es = omega arith in
      record {
        state = rw n at r.state;
        admitted = rw n at r.admitted;
        once = rw n at r.once;
        price = r.price;
        serial = right;
        replica = r.replica;
        unnumbered = λ e. ap (λ (v : Job). v.replica) ((w.facts.job j l).none e);
        bounded = few;
      }
