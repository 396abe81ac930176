-- The seven events of the death of machine i are accepted, from a table where job 0 is on the root with replica number r, nothing is in flight, and root
-- and i have no copy and no wait: after them the replica number is r + 1, and i is dead. What the events need and do not change is the invariant's.
-- Assumes nothing.
use Prim.Native.Nat.{ℕ, ◌+◌, ◌≤◌, ◌<◌}
use mathlib.Core.Path.{◌≡◌, refl, ap, ◌∙◌}
use mathlib.Core.Logic.{◌≢◌}
use mathlib.Core.List.{List, [], ◌∷◌}
use native.Mathlib.Omega.{arith}
use lib.Dec.{eqb}
use borrow.Author.Tests.{eqb-true}
use Rattle.lists.proofs.Cases.{by_bool}
use Rattle.lists.proofs.Count.{ind}
use Rattle.table.specs.declared.Job.{Job}
use Rattle.table.specs.declared.Machine.{Machine}
use Rattle.table.specs.declared.Message.{Message}
use Rattle.table.specs.declared.Table.{Table}
use Rattle.table.specs.Views.{idle_machine, no_machine, machine_at, pool_at, told_at}
use Rattle.table.specs.Messages.{remove_at}
use Rattle.table.specs.Parts.{opened, moved, reserve, waiting, message, accept}
use Rattle.table.proofs.Views.{views}
use Rattle.handler.specs.Handler.{handle}
use Rattle.event_steal.specs.Steal.{stolen}
use Rattle.event_notice.specs.Notice.{noticed}
use Rattle.event_admit_deliver_die.specs.AdmitDeliverDie.{died}
use Rattle.dispatcher.specs.Codes.{STEAL, DELIVER, DIE, NOTICE}
use Rattle.dispatcher.specs.Step.{event, step_of}
use Rattle.dispatcher.proofs.Leads.{Leads, leads_one, leads_then}
use Rattle.theorem_invariant.proofs.State.{Invariant, dead, has, held, reserves_job, runs_job, result_from}
use Rattle.theorem_drain.proofs.AcceptedInvariant.{accepted_invariant}
use Rattle.theorem_drain.proofs.Steps.{accepts_steal, accepts_deliver, accepts_die, accepts_notice, untold_alive}
use Rattle.worst_run.specs.Worst.{death_of}
use Rattle.claims_worst_run.proofs.Seen.{Seen, seen_used, seen_some, seen_first, seen_delivered, seen_taken}
use Rattle.claims_worst_run.proofs.Handled.{fish, req, auth, schedule, ack, seen_stolen, seen_fish, seen_req, seen_auth, seen_schedule}
use Rattle.claims_worst_run.proofs.Handled.{seen_died, seen_noticed}

-- the invariant, and what is seen
pub record At (n i : ℕ) (v : Job) (a b : Machine) (l : List Message) (t : Table) : Type 0 where
  pub invariant : Invariant t
  pub seen : Seen n i v a b l t

-- what a delivery leaves as it was before the message is handled
pool_taken : (t : Table) → pool_at (remove_at t 0) 0 0 ≡ pool_at t 0 0
unfolding remove_at
pool_taken t = simp views

told_taken : (t : Table) (d : ℕ) → told_at (remove_at t 0) 0 d ≡ told_at t 0 d
unfolding remove_at
told_taken t d = simp views

alive_of : (t : Table) (m : ℕ) {c : Machine} → machine_at t m ≡ c → (machine_at t m).alive ≡ c.alive
alive_of t m e = ap (λ (n : Machine). n.alive) e

module _ {n i : ℕ} (low : 0 < i) (high : i < 16) (r : ℕ) (some : r ≢ 0) where
  -- the accepted event, the invariant after it, and what is seen after it
  one : {v : Job} {a b : Machine} {l : List Message} {w : Job} {c d : Machine} {k : List Message} {t : Table} (u : Table) (e : List ℕ)
      → At n i v a b l t → step_of t e ≡ accept u → Seen n i w c d k u → Leads (At n i w c d k) t (e ∷ [])
  one {w = w} {c} {d} {k} {t} u e p s x =
      leads_one (At n i w c d k) t u e s (record { invariant = accepted_invariant t u e p.invariant s; seen = x })

  -- the one message in flight is delivered
  taken : {v : Job} {a b : Machine} {x : Message} {t : Table} → At n i v a b (x ∷ []) t
      → step_of t (event DELIVER x.from x.to) ≡ accept (handle (remove_at t 0) x)
  taken {t = t} p =
      let s = p.seen in
      rw (seen_first low high s) at (accepts_deliver t p.invariant (seen_some low high s))
      ∙ ap (λ (u : Table). accept u) (seen_delivered low high s)

  -- the root's pool has the copy: an open job on the root, which reserves and runs nothing
  pooled : {b : Machine} {t : Table} → At n i (opened r) (idle_machine 1) b (fish i ∷ []) t → pool_at t 0 0 ≡ r
  unfolding held has dead reserves_job runs_job result_from message opened
  pooled {b} {t} p =
      let s = p.seen in
      let h = p.invariant.transfer.on 0 (omega arith) (ap (λ (v : Job). v.state) s.job) (ap (λ (v : Job). v.moving) s.job) in
      let g : 1 ≤ ind (eqb (pool_at t 0 0) r) = omega (arith, rw (s.job, s.flight, s.root) at h) in
      by_bool (eqb (pool_at t 0 0) r) (λ e. eqb-true (pool_at t 0 0) r e) (λ e. absurd (omega (arith, ap ind e)))

  -- the root does not know yet: it knows of no death at an open job's place
  unheard : {a b : Machine} {l : List Message} {t : Table} → At n i (moved (opened r) 0 i) a b l t → told_at t 0 i ≡ 0
  unfolding moved opened
  unheard p =
      let v = p.seen.job in
      rw v at ((p.invariant.untold.placed 0 (omega arith)).thief (ap (λ (x : Job). x.state) v) (ap (λ (x : Job). x.moving) v))

  -- the job's place is among the machines of the table
  place : {a b : Machine} {l : List Message} {t : Table} → At n i (moved (opened r) 0 i) a b l t → i < t.machine_count
  unfolding moved opened
  place p = rw p.seen.job at (p.invariant.facts.job 0 (omega arith)).thief_in

  -- ---- the seven events, one by one

  -- "the machine steals from the root"
  steals : {v : Job} {t : Table} → At n i v (idle_machine 1) (idle_machine 1) [] t
      → Leads (At n i v (idle_machine 1) (waiting (idle_machine 1) 1) (fish i ∷ [])) t (event STEAL i 0 ∷ [])
  steals {t = t} p =
      let s = p.seen in
      let w = p.invariant in
      one (stolen t i 0) (event STEAL i 0) p
      (accepts_steal t w i 0 high (omega (arith, w.facts.machine_count_some)) (alive_of t i s.thief) (λ e. omega arith)
      (ap (λ (m : Machine). m.waits) s.thief) (untold_alive t w i 0 high (omega arith) (alive_of t 0 s.root)) (omega (arith, seen_used low high s)))
      (seen_stolen low high r s)

  -- "its FISH, REQ, AUTH and SCHEDULE are delivered"
  fishes : {b : Machine} {t : Table} → At n i (opened r) (idle_machine 1) b (fish i ∷ []) t
      → Leads (At n i (opened r) (reserve (idle_machine 1) 0 r i) b (req i r ∷ [])) t (event DELIVER i 0 ∷ [])
  unfolding message
  fishes {t = t} p =
      one (handle (remove_at t 0) (fish i)) (event DELIVER i 0) p (taken p)
      (seen_fish low high r (seen_taken low high p.seen) (pool_taken t ∙ pooled p) some)

  asks : {b : Machine} {t : Table} → b.alive ≡ 1 → At n i (opened r) (reserve (idle_machine 1) 0 r i) b (req i r ∷ []) t
      → Leads (At n i (moved (opened r) 0 i) (reserve (idle_machine 1) 0 r i) b (auth i r ∷ [])) t (event DELIVER 0 0 ∷ [])
  unfolding message reserve
  asks {t = t} e p =
      one (handle (remove_at t 0) (req i r)) (event DELIVER 0 0) p (taken p)
      (seen_req low high r (seen_taken low high p.seen)
      (told_taken t i ∙ untold_alive t p.invariant 0 i (omega arith) high (alive_of t i p.seen.thief ∙ e)) refl)

  authorises : {v : Job} {b : Machine} {t : Table} → b.alive ≡ 1 → At n i v (reserve (idle_machine 1) 0 r i) b (auth i r ∷ []) t
      → Leads (At n i v (idle_machine 1) b (schedule i r ∷ [])) t (event DELIVER 0 0 ∷ [])
  unfolding message
  authorises {t = t} e p =
      one (handle (remove_at t 0) (auth i r)) (event DELIVER 0 0) p (taken p) (seen_auth low high r (seen_taken low high p.seen) some e)

  schedules : {v : Job} {t : Table} → At n i v (idle_machine 1) (waiting (idle_machine 1) 1) (schedule i r ∷ []) t
      → Leads (At n i v (idle_machine 1) (idle_machine 1) (ack i r ∷ [])) t (event DELIVER 0 i ∷ [])
  unfolding message
  schedules {t = t} p =
      one (handle (remove_at t 0) (schedule i r)) (event DELIVER 0 i) p (taken p) (seen_schedule low high r (seen_taken low high p.seen))

  -- "it dies"
  dies : {v : Job} {t : Table} → At n i v (idle_machine 1) (idle_machine 1) (ack i r ∷ []) t
      → Leads (At n i v (idle_machine 1) no_machine (ack i r ∷ [])) t (event DIE i 0 ∷ [])
  dies {t = t} p =
      let s = p.seen in
      one (died t i) (event DIE i 0) p (accepts_die t p.invariant i high (λ e. omega arith) (alive_of t i s.thief)) (seen_died low high r s)

  -- "the root is told"
  hears : {t : Table} → At n i (moved (opened r) 0 i) (idle_machine 1) no_machine (ack i r ∷ []) t
      → Leads (At n i (opened (r + 1)) (idle_machine 1) no_machine []) t (event NOTICE 0 i ∷ [])
  hears {t} p =
      let s = p.seen in
      one (noticed t 0 i) (event NOTICE 0 i) p
      (accepts_notice t p.invariant i (place p) (rw s.thief (λ (e : ◌≡◌ {A = ℕ} 0 1). omega arith)) (unheard p))
      (seen_noticed low high r s)

  -- ---- the seven together

  pub death : {t : Table} → At n i (opened r) (idle_machine 1) (idle_machine 1) [] t
      → Leads (At n i (opened (r + 1)) (idle_machine 1) no_machine []) t (death_of i)
  unfolding death_of waiting
  death p =
      leads_then (steals p)
      (λ t1 p1. leads_then (fishes p1)
      (λ t2 p2. leads_then (asks refl p2)
      (λ t3 p3. leads_then (authorises refl p3)
      (λ t4 p4. leads_then (schedules p4)
      (λ t5 p5. leads_then (dies p5)
      (λ t6 p6. hears p6))))))
