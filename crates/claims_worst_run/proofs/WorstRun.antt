-- Over every accepted book of at least one entry the run that copies most is accepted whole and drives the replica number of job 0 to k + 1: by induction
-- on the deaths, over what is seen of the table before each. And no run has a replica number above 1 + its deaths.
-- Assumes nothing.
use Prim.Native.Nat.{ℕ, zero, suc, ◌+◌, ◌≤◌, ◌<◌}
use mathlib.Core.Path.{◌≡◌, ap, ◌∙◌}
use mathlib.Core.List.{List, [], ◌∷◌}
use native.Mathlib.Omega.{arith}
use lib.ListN.{replicate, get_or}
use Rattle.lists.proofs.Count.{every_at}
use Rattle.book.specs.Book.{book_verdict}
use Rattle.book.specs.Parts.{machine_count_of, entry_count_of}
use Rattle.table.specs.declared.Job.{Job}
use Rattle.table.specs.declared.Table.{Table}
use Rattle.table.specs.Views.{idle_machine, no_machine, no_message, job_at, machine_at, flight}
use Rattle.table.specs.Pools.{enter}
use Rattle.table.specs.Parts.{opened, accept}
use Rattle.table.proofs.Views.{views, job_same, length_flight}
use Rattle.table.proofs.Messages.{message_flight}
use Rattle.table_opening.specs.Opening.{fresh_of, open_of}
use Rattle.table_opening.proofs.Counts.{machine_count_most}
use Rattle.table_opening.proofs.Shown.{machine_count_fresh, entry_count_fresh, job_fresh, machine_fresh, flight_fresh, opened_table}
use Rattle.protocol_preservation.proofs.Facts.{MessageFacts}
use Rattle.event_admit_deliver_die.specs.AdmitDeliverDie.{admitted}
use Rattle.dispatcher.specs.Codes.{ADMIT}
use Rattle.dispatcher.specs.Step.{event, step_of, run_of}
use Rattle.dispatcher.proofs.Leads.{Leads, leads_here, leads_one, leads_map, leads_then}
use Rattle.theorem_invariant.proofs.State.{Invariant}
use Rattle.theorem_invariant.proofs.Keeps.{invariant_run}
use Rattle.theorem_drain.proofs.AcceptedInvariant.{accepted_invariant}
use Rattle.theorem_drain.proofs.Steps.{accepts_admit}
use Rattle.claims.proofs.Start.{start}
use Rattle.claims.proofs.Deaths.{max_replica_run}
use Rattle.worst_run.specs.Worst.{death_of, deaths_to, worst_run}
use Rattle.worst_run.proofs.Bytes.{length_run}
use Rattle.worst_run.proofs.Numbers.{fits}
use Rattle.worst_run.proofs.ReadBack.{read_back}
use Rattle.claims_worst_run.specs.WorstRun.{Reaches, WorstRun}
use Rattle.claims_worst_run.proofs.Death.{At, death}
use Rattle.claims_worst_run.proofs.Deaths.{deaths_run}

-- after k deaths: job 0 is open on the root, with replica number k + 1; the root and the machines after k are as they were opened, and nothing is in
-- flight
record Stage (n k : ℕ) (t : Table) : Type 0 where
  invariant : Invariant t
  job : job_at t 0 ≡ opened (suc k)
  root : machine_at t 0 ≡ idle_machine 1
  later : (m : ℕ) → k < m → m < n → machine_at t m ≡ idle_machine 1
  flight : flight t ≡ []

-- ---- one death more

module _ (n k : ℕ) (high : suc k < n) where
  before : (t : Table) → Stage n k t → At n (suc k) (opened (suc k)) (idle_machine 1) (idle_machine 1) [] t
  before t s = record {
    invariant = s.invariant;
    seen = record {
      sized = s.invariant.sized;
      job = s.job;
      root = s.root;
      thief = s.later (suc k) (omega arith) high;
      later = λ m g h. s.later m (omega arith) h;
      flight = s.flight;
    };
  }

  after : (t : Table) → At n (suc k) (opened (suc k + 1)) (idle_machine 1) no_machine [] t → Stage n (suc k) t
  after t p =
      let s = p.seen in
      let e : suc k + 1 ≡ suc (suc k) = omega arith in
      record { invariant = p.invariant; job = s.job ∙ ap opened e; root = s.root; later = s.later; flight = s.flight }

  next : (t : Table) → n ≤ 16 → Stage n k t → Leads (Stage n (suc k)) t (death_of (suc k))
  next t most s = leads_map (Stage n (suc k)) after (death (omega arith) (omega arith) (suc k) (λ e. omega arith) (before t s))

-- "Machines 1 to k go in turn."
in_turn : (n : ℕ) → n ≤ 16 → (k : ℕ) → k < n → (t : Table) → Stage n 0 t → Leads (Stage n k) t (deaths_to k)
unfolding deaths_to
in_turn n most zero h t s = leads_here (Stage n 0) t s
in_turn n most (suc k) h t s = leads_then (in_turn n most k (omega arith) t s) (λ u p. next n k h u most p)

-- ---- from the fresh table

admitted_stage : (n : ℕ) (t : Table) → Invariant t → Invariant (admitted t 0) → ((m : ℕ) → m < n → machine_at t m ≡ idle_machine 1) → 0 < n
    → flight t ≡ [] → Stage n 0 (admitted t 0)
unfolding admitted enter
admitted_stage n t w u machines some none = record {
  invariant = u;
  job = simp views (job_same t w.sized 0 (opened 1) (omega arith));
  root = simp views (machines 0 some);
  later = λ m g h. simp views (machines m h);
  flight = simp views none;
}

module _ (book : List ℕ) (ok : book_verdict book ≡ 0) (some : 1 ≤ entry_count_of book) where
  invariant_fresh : Invariant (fresh_of book)
  invariant_fresh = rw (opened_table book ok) at (start book ok).invariant

  first : Leads (Stage (machine_count_of book) 0) (fresh_of book) (event ADMIT 0 0 ∷ [])
  first =
      let n = machine_count_of book in
      let t = fresh_of book in
      let u = admitted t 0 in
      let w = invariant_fresh in
      let e : step_of t (event ADMIT 0 0) ≡ accept u =
      accepts_admit t w 0 (omega (arith, entry_count_fresh book)) (ap (λ (v : Job). v.state) (job_fresh book 0)) in
      leads_one (Stage n 0) t u (event ADMIT 0 0) e
      (admitted_stage n t w (accepted_invariant t u (event ADMIT 0 0) w e) (machine_fresh book)
      (omega (arith, w.facts.machine_count_some, machine_count_fresh book)) (flight_fresh book))

  run_fresh : (k : ℕ) → k < machine_count_of book → Leads (Stage (machine_count_of book) k) (fresh_of book) (worst_run k)
  unfolding worst_run
  run_fresh k h = leads_then first (λ t s. in_turn (machine_count_of book) (machine_count_most book) k h t s)

  reaches : (k : ℕ) → k < machine_count_of book → Reaches book k (worst_run k)
  unfolding opened
  reaches k h =
      let t = (open_of book).table in
      let n = length_run k in
      let w : Leads (Stage (machine_count_of book) k) t (worst_run k) = rw (opened_table book ok) (run_fresh k h) in
      let v = w.there.job in
      record {
        count = n;
        accepted = w.accepted ∙ ap (λ (i : ℕ). replicate i 0) n;
        deaths = deaths_run t k w.accepted;
        state = ap (λ (x : Job). x.state) v;
        replica = ap (λ (x : Job). x.replica) v ∙ omega arith;
      }

-- ---- the claim

pub worst_run_lem : (book : List ℕ) → book_verdict book ≡ 0 → WorstRun book
worst_run_lem book ok = record {
  reached = λ k buffer some z. rw (read_back.read (machine_count_of book) k buffer z).front (reaches book ok some k (fits (machine_count_of book) k _ z).below);
  most = λ k events few.
      let t = (open_of book).table in
      let s = start book ok in
      let u = run_of t events in
      let w = invariant_run t events s.invariant in
      let top = max_replica_run t events s.invariant s.none in
      record {
        job = λ j l. omega (arith, (w.facts.job j l).replica, top);
        pool = λ m j l h. omega (arith, w.facts.pool m j l h, top);
        reserved = λ m l. omega (arith, (w.facts.machine m l).reserved_replica, top);
        running = λ m l. omega (arith, (w.facts.machine m l).running_replica, top);
        message = λ i l.
            let x : MessageFacts u _ = every_at (MessageFacts u) (flight u) i no_message (omega (arith, length_flight u w.sized)) w.facts.message in
            let y : (get_or (flight u) i no_message).replica ≤ k + 1 = omega (arith, x.replica, top) in
            rw (message_flight u w.sized i l) at y;
      };
}
