-- Done and Deliver at a machine that runs a copy, with nothing else in flight: after these two events it runs none, its job is not open, and no other
-- machine and no other job has changed.
-- Assumes nothing.
use mathlib.Core.Path.{◌≡◌, refl, sym, ap, ◌∙◌}
use mathlib.Core.Logic.{◌≢◌}
use mathlib.Core.List.{List, [], ◌∷◌, ◌++◌}
use Prim.Native.Nat.{ℕ, ◌<◌}
use native.Mathlib.Omega.{arith}
use lib.Dec.{eqb}
use lib.ListN.{get_or, length}
use borrow.Author.Tests.{eq-eqb, eqb-false}
use Rattle.pricer.specs.Price.{price_bits}
use Rattle.table.specs.declared.Job.{Job}
use Rattle.table.specs.declared.Machine.{Machine}
use Rattle.table.specs.declared.Message.{Message}
use Rattle.table.specs.declared.Table.{Table}
use Rattle.table.specs.Views.{no_message, bond_at, job_at, machine_at, told_at, message_at, flight, with_job, with_machine}
use Rattle.table.specs.Messages.{push, remove_at, send}
use Rattle.table.specs.Parts.{priced, running, result, accept, RESULT, OPEN}
use Rattle.table.proofs.Views.{Sized, views, sized_machine, machine_same, machine_other, machine_messages, told_messages, job_messages, job_same}
use Rattle.table.proofs.Views.{job_other, length_flight}
use Rattle.table.proofs.Messages.{flight_push, sized_remove_at, message_flight}
use Rattle.handler_root.specs.Root.{on_result}
use Rattle.handler.specs.Handler.{handle}
use Rattle.event_admit_deliver_die.specs.AdmitDeliverDie.{delivered}
use Rattle.event_start_done.specs.StartDone.{finished}
use Rattle.lists.proofs.Cases.{by_bool, by_eq}
use Rattle.protocol_preservation.proofs.Sizes.{used_remove_at}
use Rattle.theorem_invariant.proofs.State.{Invariant}
use Rattle.theorem_invariant.proofs.About.{alive_running}
use Rattle.dispatcher.proofs.Fixed.{fixed_machine_count, fixed_delivered, fixed_finished}
use Rattle.dispatcher.specs.Codes.{DELIVER, DONE}
use Rattle.dispatcher.specs.Step.{event, step_of}
use Rattle.theorem_drain.proofs.Reach.{Reach, reach_here, reach_step}
use Rattle.theorem_drain.proofs.Steps.{accepts_deliver, accepts_done}
use Rattle.theorem_drain.proofs.AcceptedInvariant.{accepted_invariant}
use Rattle.theorem_drain.proofs.Deliveries.{Drained, informed_same, flight_empty}

-- u is the table once machine a's running copy of t is priced
pub record Finished (t : Table) (a : ℕ) (u : Table) : Type 0 where
  pub drained : Drained u
  pub idle : (machine_at u a).running_replica ≡ 0
  pub others : (m : ℕ) → m ≢ a → machine_at u m ≡ machine_at t m
  pub none_open : (job_at u (machine_at t a).running_job).state ≢ OPEN
  pub jobs : (j : ℕ) → j ≢ (machine_at t a).running_job → job_at u j ≡ job_at t j

handle_result : (s : Table) (x : Message) → x.kind ≡ RESULT → handle s x ≡ on_result s x
unfolding handle
handle_result s x e =
    let is : (c : ℕ) → eqb x.kind c ≡ eqb 9 c = λ c. ap (λ (k : ℕ). eqb k c) e in
    rw (is 1, is 2, is 3, is 4, is 5, is 6, is 7, is 8, is 9, handle)

-- a RESULT leaves the job not open, and every other part as it was
module _ (s : Table) (x : Message) (z : Sized s) (jl : x.job < 64) where
  result_none_open : (job_at (on_result s x) x.job).state ≢ OPEN
  unfolding on_result
  result_none_open =
      by_bool (eqb (job_at s x.job).state OPEN)
      (λ e. rw (e, on_result) (rw (job_same s z x.job (priced (job_at s x.job) x.price) jl)
      (unfold priced in λ (d : ◌≡◌ {A = ℕ} 2 1). omega arith)))
      (λ e. rw (e, on_result) (eqb-false (job_at s x.job).state OPEN e))

  result_other : (j : ℕ) → j ≢ x.job → job_at (on_result s x) j ≡ job_at s j
  unfolding on_result
  result_other j n = by_bool (eqb (job_at s x.job).state OPEN)
      (λ e. rw (e, on_result) (job_other s x.job j (priced (job_at s x.job) x.price) n)) (λ e. rw (e, on_result))

  -- a view that no job's update changes
  result_same : {A : Type 0} (f : Table → A) → ((v : Job) → f (with_job s x.job v) ≡ f s) → f (on_result s x) ≡ f s
  unfolding on_result
  result_same f h =
      by_bool (eqb (job_at s x.job).state OPEN) (λ e. rw (e, on_result) (h (priced (job_at s x.job) x.price))) (λ e. rw (e, on_result))

module _ (t : Table) (a : ℕ) (q : Drained t) (al : a < 16) (runs : (machine_at t a).running_replica ≢ 0) where
  y : Message
  y = result a (machine_at t a).running_job (machine_at t a).running_replica (price_bits (bond_at t (machine_at t a).running_job))

  r : Table
  r = with_machine t a (running (machine_at t a) 0 0)

  lives : (machine_at t a).alive ≡ 1
  lives =
      let f = q.invariant.facts.machine a al in
      by_eq (machine_at t a).alive 1 (λ e. e) (λ e. absurd (runs (ap (λ (n : Machine). n.running_replica) (f.dead (omega (arith, f.alive))))))

  r_sized : Sized r
  unfolding r
  r_sized = sized_machine t a (running (machine_at t a) 0 0) q.invariant.sized

  r_used : r.in_flight ≡ 0
  unfolding r
  r_used = simp views q.empty

  r_machine : machine_at r a ≡ running (machine_at t a) 0 0
  unfolding r
  r_machine = machine_same t q.invariant.sized a (running (machine_at t a) 0 0) al

  r_other : (m : ℕ) → m ≢ a → machine_at r m ≡ machine_at t m
  unfolding r
  r_other m e = machine_other t a m (running (machine_at t a) 0 0) e

  r_alive : (m : ℕ) → (machine_at r m).alive ≡ (machine_at t m).alive
  r_alive m =
      by_eq m a
      (λ e. rw e (ap (λ (v : Machine). v.alive) r_machine ∙ alive_running (machine_at t a) 0 0))
      (λ e. ap (λ (v : Machine). v.alive) (r_other m e))

  -- the root lives: the RESULT is stored
  done : finished t a ≡ push r y
  unfolding finished send r y result
  done = rw (eq-eqb (machine_at (with_machine t a (running (machine_at t a) 0 0)) 0).alive 1 (unfold r in (r_alive 0 ∙ q.invariant.facts.root)))

  p_machine : (m : ℕ) → machine_at (finished t a) m ≡ machine_at r m
  p_machine m = ap (λ (v : Table). machine_at v m) done ∙ unfold push in simp views

  p_job : (j : ℕ) → job_at (finished t a) j ≡ job_at t j
  p_job j = ap (λ (v : Table). job_at v j) done ∙ unfold push r in simp views

  p_told : (m d : ℕ) → told_at (finished t a) m d ≡ told_at t m d
  p_told m d = ap (λ (v : Table). told_at v m d) done ∙ unfold push r in simp views

  p_flight : flight (finished t a) ≡ y ∷ []
  p_flight = ap flight done ∙ flight_push r r_sized y (omega (arith, r_used)) ∙ ap (λ (l : List Message). l ++ y ∷ []) (flight_empty r r_used)

  y_parts : (y.kind ≡ RESULT) × (y.job ≡ (machine_at t a).running_job)
  unfolding y result
  y_parts = (refl, refl)

  module _ (w : Invariant (finished t a)) where
    p_used : (finished t a).in_flight ≡ 1
    p_used = sym (length_flight (finished t a) w.sized) ∙ ap length p_flight

    p_first : message_at (finished t a) 0 ≡ y
    p_first = sym (message_flight (finished t a) w.sized 0 (omega (arith, p_used))) ∙ ap (λ (l : List Message). get_or l 0 no_message) p_flight

    abbrev s : Table
    s = remove_at (finished t a) 0

    s_sized : Sized s
    s_sized = sized_remove_at (finished t a) w.sized 0 (omega (arith, p_used))

    abbrev u : Table
    u = delivered (finished t a) 0

    u_is : u ≡ on_result s y
    unfolding delivered
    u_is = ap (handle s) p_first ∙ handle_result s y y_parts.0

    y_job : y.job < 64
    y_job = rw y_parts.1 (q.invariant.facts.machine a al).running_job

    u_machine : (m : ℕ) → machine_at u m ≡ machine_at r m
    unfolding remove_at
    u_machine m = ap (λ (v : Table). machine_at v m) u_is ∙ result_same s y s_sized y_job (λ v. machine_at v m) (λ v. simp views)
        ∙ machine_messages (finished t a) _ _ m ∙ p_machine m

    u_told : (m d : ℕ) → told_at u m d ≡ told_at t m d
    unfolding remove_at
    u_told m d = ap (λ (v : Table). told_at v m d) u_is ∙ result_same s y s_sized y_job (λ v. told_at v m d) (λ v. simp views)
        ∙ told_messages (finished t a) _ _ m d ∙ p_told m d

    u_empty : u.in_flight ≡ 0
    u_empty = ap (λ (v : Table). v.in_flight) u_is ∙ result_same s y s_sized y_job (λ v. v.in_flight) (λ v. simp views)
        ∙ omega (arith, used_remove_at (finished t a) 0, p_used)

    u_jobs : (j : ℕ) → j ≢ (machine_at t a).running_job → job_at u j ≡ job_at t j
    unfolding remove_at
    u_jobs j e =
        ap (λ (v : Table). job_at v j) u_is ∙ result_other s y s_sized y_job j (λ d. e (d ∙ y_parts.1)) ∙ job_messages (finished t a) _ _ j ∙ p_job j

    u_none_open : (job_at u (machine_at t a).running_job).state ≢ OPEN
    u_none_open e =
        result_none_open s y s_sized y_job (ap (λ (v : Table). (job_at v y.job).state) (sym u_is) ∙ ap (λ (j : ℕ). (job_at u j).state) y_parts.1 ∙ e)

    u_finished : Invariant u → Finished t a u
    u_finished wu = record {
      drained = record {
        invariant = wu;
        informed = informed_same t u (fixed_delivered (λ v. v.machine_count) fixed_machine_count (finished t a) 0
            ∙ fixed_finished (λ v. v.machine_count) fixed_machine_count t a)
            (λ m. ap (λ (v : Machine). v.alive) (u_machine m) ∙ r_alive m) u_told q.informed;
        empty = u_empty;
      };
      idle = ap (λ (v : Machine). v.running_replica) (u_machine a ∙ r_machine) ∙ unfold running in refl;
      others = λ m e. u_machine m ∙ r_other m e;
      none_open = u_none_open;
      jobs = u_jobs;
    }

-- the two events
pub finishes : (t : Table) (a : ℕ) → Drained t → a < 16 → (machine_at t a).running_replica ≢ 0 → Reach (Finished t a) t 2
finishes t a q al runs =
    let p = finished t a in
    let step : step_of t (event DONE a 0) ≡ accept p = accepts_done t q.invariant a al (lives t a q al runs) runs (omega (arith, q.empty)) in
    let w : Invariant p = accepted_invariant t p (event DONE a 0) q.invariant step in
    let x = message_at p 0 in
    let u = delivered p 0 in
    let next : step_of p (event DELIVER x.from x.to) ≡ accept u = accepts_deliver p w (omega (arith, p_used t a q al runs w)) in
    reach_step (Finished t a) t p (event DONE a 0) 1 step refl
    (reach_step (Finished t a) p u (event DELIVER x.from x.to) 0 next refl
    (reach_here (Finished t a) u 0 (u_finished t a q al runs w (accepted_invariant p u (event DELIVER x.from x.to) w next))))
