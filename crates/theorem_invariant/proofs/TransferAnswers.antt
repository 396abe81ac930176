-- Clauses R, O, N, H and S through AUTH, DENIED and OBSOLETE.
-- Assumes nothing.
use mathlib.Core.Path.{◌≡◌, refl, sym, ap, ◌∙◌}
use mathlib.Core.Bool.{Bool, true, false, not, ◌&&◌, true≢false, false≢true}
use mathlib.Core.List.{◌∷◌}
use Prim.Native.Nat.{ℕ, ◌≤◌, ◌<◌}
use native.Mathlib.Omega.{arith}
use lib.Dec.{eqb}
use borrow.Author.Tests.{eq-eqb, eqb-true}
use Rattle.table.specs.declared.Job.{Job}
use Rattle.table.specs.declared.Machine.{Machine}
use Rattle.table.specs.declared.Message.{Message}
use Rattle.table.specs.declared.Table.{Table}
use Rattle.table.specs.Views.{job_at, machine_at, told_at, flight, with_machine}
use Rattle.table.specs.Messages.{send}
use Rattle.table.specs.Parts.{copy_is, reserves, release, message, REQ, AUTH, DENIED, OBSOLETE, SCHEDULE, NOWORK}
use Rattle.table.specs.Pools.{returned}
use Rattle.table.proofs.Views.{views, pool_machine}
use Rattle.handler_victim.specs.Victim.{no_work, on_auth, on_denied, on_obsolete}
use Rattle.lists.proofs.Cases.{by_bool, by_eq, and_left, and_right}
use Rattle.lists.proofs.Count.{ind}
use Rattle.theorem_invariant.proofs.Frame.{Frame, frame_refl, frame_machine, frame_returned, entered}
use Rattle.theorem_invariant.proofs.About.{about_answer, copy_eqs, alive_release}
use Rattle.theorem_invariant.proofs.State.{Transfer, Known, Ends, ReservationMatched, Received, is_answer, about, transfer, is_transfer}
use Rattle.theorem_invariant.proofs.State.{reserves_job, dead}
use Rattle.theorem_invariant.proofs.TransferLaws.{dead_is, transfer_eqs, ack_other, result_other, known_plain, places}
use Rattle.theorem_invariant.proofs.TransferFrame.{transfer_lost, transfer_passed, transfer_step}
use Rattle.theorem_invariant.proofs.TransferSend.{transfer_sends, transfer_swap}
use Rattle.theorem_invariant.proofs.TransferCopies.{has_release, has_returned, pools_returned}

-- the claim on a handler's table
abbrev pub TransferNow : Table → Type 0
TransferNow t = Transfer t (flight t)

-- the reserved copy is the one named: the test of another copy is a comparison with that
reserves_same : (n : Machine) (k q u a b : ℕ) → reserves n k q u ≡ true → reserves_job n a b ≡ eqb k a && eqb q b
unfolding reserves reserves_job
reserves_same n k q u a b e =
    let c = and_right (not (eqb n.reserved_replica 0)) (copy_is n.reserved_job n.reserved_replica n.reserved_thief k q u) e in
    let es = copy_eqs _ _ _ k q u c in
    rw (and_left (not (eqb n.reserved_replica 0)) _ e) (ap (λ (m : ℕ). eqb m a && eqb n.reserved_replica b) es.0
    ∙ ap (λ (m : ℕ). eqb k a && eqb m b) es.1)

-- a SCHEDULE says what the AUTH before it said
known_schedule : (s : Table) (x : Message) → x.kind ≡ AUTH → Known s x → Known s (message SCHEDULE x.to x.thief x.job x.replica 0)
unfolding message
known_schedule s x k3 k = record {
  cap = k.cap;
  old = λ (e : ◌≡◌ {A = ℕ} 6 5). absurd (omega arith);
  ends =
      λ a c. record {
        auth = λ (e : ◌≡◌ {A = ℕ} 6 3). absurd (omega arith);
        schedule = λ e. (k.ends a c).auth k3;
        ack = λ (e : ◌≡◌ {A = ℕ} 6 7). absurd (omega arith);
      };
}

about_own : (x : Message) → is_answer x.kind ≡ true → eqb x.kind REQ ≡ false → about x.to x.thief x.job x.replica x ≡ true
unfolding copy_is
about_own x ans nr =
    about_answer x.to x.thief x.job x.replica x nr ans
    ∙ rw (eq-eqb x.to x.to refl, eq-eqb x.job x.job refl, eq-eqb x.replica x.replica refl, eq-eqb x.thief x.thief refl)

module _ (s : Table) (x : Message) (h : Received s x) (c : ReservationMatched s (x ∷ flight s))
    (cap : (m : ℕ) → m < 16 → (machine_at s m).reserved_replica ≤ (job_at s (machine_at s m).reserved_job).replica)
    (g : Transfer s (x ∷ flight s)) where
  abbrev Matches : Bool → Type 0
  Matches v = reserves (machine_at s x.to) x.job x.replica x.thief ≡ v

  released : Frame s (with_machine s x.to (release (machine_at s x.to)))
  released = frame_machine s s (frame_refl s h.sized) x.to (release (machine_at s x.to)) (alive_release (machine_at s x.to))

  -- ---- AUTH: the copy is on its way
  auths : x.kind ≡ AUTH → Matches true
      → TransferNow (send (with_machine s x.to (release (machine_at s x.to))) (message SCHEDULE x.to x.thief x.job x.replica 0))
  auths k3 m =
      let n = machine_at s x.to in
      let u = with_machine s x.to (release n) in
      let y = message SCHEDULE x.to x.thief x.job x.replica 0 in
      let tx : (j r : ℕ) → transfer j r x ≡ eqb x.job j && eqb x.replica r = λ j r. unfold transfer is_transfer in rw k3 in
      let ty : (j r : ℕ) → transfer j r y ≡ eqb x.job j && eqb x.replica r = λ j r. unfold transfer is_transfer message in refl in
      let t : Transfer u (y ∷ flight s) =
      transfer_step s u x y (flight s) (places s h.facts) (λ j. simp views) released.alive (λ m j a e. simp pool_machine (g.pools m j a e))
      (known_schedule s x k3 g.known.0)
      (λ j a e. ty j (job_at s j).replica ∙ sym (tx j (job_at s j).replica))
      (λ j p a e o f.
      let r = (job_at s j).replica in
      omega (
        arith,
        has_release s x.to p j r n refl (reserves_same n x.job x.replica x.thief j r m ∙ sym (tx j r) ∙ f),
        ap ind (result_other AUTH j p x k3 refl),
      ))
      (λ j p a e o f. absurd (true≢false (sym f ∙ ack_other SCHEDULE j (job_at s j).replica p y (unfold message in refl) refl)))
      g in
      transfer_sends s u y released (λ e. h.room) h.facts.root (unfold message in λ e. absurd (false≢true e)) t

  -- no match: the thief is dead
  auth_idle : x.kind ≡ AUTH → Matches false → TransferNow s
  auth_idle k3 m =
      let w = h.message in
      transfer_lost s x (flight s)
      (λ j a o e.
      let es = transfer_eqs j (job_at s j).replica x e in
      let job : job_at s x.job ≡ job_at s j = ap (job_at s) es.1 in
      let en : Ends s x = g.known.0.ends (rw job o) (rw job es.2) in
      let own : about x.to x.thief x.job x.replica x ≡ true = about_own x (unfold is_answer in rw k3) (rw k3) in
      by_eq (told_at s x.to x.thief) 0
      (λ z. absurd (omega (arith, ap ind own, ap ind m, c x.to x.thief x.job x.replica w.to w.thief w.alive z)))
      (λ z.
      let gone : (machine_at s x.thief).alive ≡ 0 = h.facts.told_dead x.to x.thief w.to w.thief z in
      omega (arith, dead_is s x.thief (λ f. omega arith), ap (dead s) (sym (ap (λ (b : Job). b.thief) job) ∙ (en.auth k3).1))))
      (λ j p o. result_other AUTH j p x k3 refl)
      g

  pub transfer_auth : x.kind ≡ AUTH → TransferNow (on_auth s x)
  unfolding on_auth
  transfer_auth k3 = by_bool (reserves (machine_at s x.to) x.job x.replica x.thief) (λ m. rw (m, on_auth) (auths k3 m))
      (λ m. rw (m, on_auth) (auth_idle k3 m))

  -- ---- DENIED: the copy returns to the pool
  denies : x.kind ≡ DENIED → TransferNow (no_work (returned s x.to) x.to x.thief)
  unfolding no_work
  denies k4 =
      let b = x.to in
      let u = returned s b in
      let y = message NOWORK b x.thief 0 0 0 in
      let f : Frame s u = frame_returned s b h.sized in
      let hj : (machine_at s b).reserved_job < 64 = (h.facts.machine b h.message.to).reserved_job in
      let hr = cap b h.message.to in
      let t : Transfer u (y ∷ flight s) =
      transfer_swap s u x y (flight s) DENIED NOWORK k4 (unfold message in refl) (unfold is_transfer in refl) (unfold is_transfer in refl) refl refl
      (places s h.facts) (λ j. unfold returned in simp (views, entered)) f.alive
      (pools_returned s b h.sized h.message.to hj hr g.pools)
      (known_plain s y NOWORK (unfold message in refl) (unfold is_transfer in refl) refl (unfold message in omega arith))
      (λ j p a e o. omega (arith, has_returned s b h.sized h.message.to hj hr g.pools j p a)) g in
      transfer_sends s u y f (λ e. h.room) h.facts.root (unfold message in λ e. absurd (false≢true e)) t

  pub transfer_denied : x.kind ≡ DENIED → TransferNow (on_denied s x)
  unfolding on_denied
  transfer_denied k4 =
      by_bool (reserves (machine_at s x.to) x.job x.replica x.thief)
      (λ m. rw (m, on_denied) (denies k4))
      (λ m. rw (m, on_denied) (transfer_passed s x (flight s) DENIED k4 (unfold is_transfer in refl) refl g))

  -- ---- OBSOLETE: the copy that goes is not the current one of an open job
  discards : x.kind ≡ OBSOLETE → Matches true → TransferNow (no_work (with_machine s x.to (release (machine_at s x.to))) x.to x.thief)
  unfolding no_work
  discards k5 m =
      let n = machine_at s x.to in
      let u = with_machine s x.to (release n) in
      let y = message NOWORK x.to x.thief 0 0 0 in
      let t : Transfer u (y ∷ flight s) =
      transfer_swap s u x y (flight s) OBSOLETE NOWORK k5 (unfold message in refl) (unfold is_transfer in refl) (unfold is_transfer in refl) refl refl
      (places s h.facts) (λ j. simp views) released.alive (λ m j a e. simp pool_machine (g.pools m j a e))
      (known_plain s y NOWORK (unfold message in refl) (unfold is_transfer in refl) refl (unfold message in omega arith))
      (λ j p a e o.
      let r = (job_at s j).replica in
      by_bool (reserves_job n j r)
      (λ f.
      let es : eqb x.job j && eqb x.replica r ≡ true = sym (reserves_same n x.job x.replica x.thief j r m) ∙ f in
      let ej : x.job ≡ j = eqb-true _ _ (and_left (eqb x.job j) (eqb x.replica r) es) in
      let er : x.replica ≡ r = eqb-true _ _ (and_right (eqb x.job j) (eqb x.replica r) es) in
      let lt : x.replica < (job_at s j).replica = rw ej at (g.known.0.old k5 (rw ej o)) in
      absurd (omega arith))
      (λ f. omega (arith, has_release s x.to p j r n refl f)))
      g in
      transfer_sends s u y released (λ e. h.room) h.facts.root (unfold message in λ e. absurd (false≢true e)) t

  pub transfer_obsolete : x.kind ≡ OBSOLETE → TransferNow (on_obsolete s x)
  unfolding on_obsolete
  transfer_obsolete k5 =
      by_bool (reserves (machine_at s x.to) x.job x.replica x.thief)
      (λ m. rw (m, on_obsolete) (discards k5 m))
      (λ m. rw (m, on_obsolete) (transfer_passed s x (flight s) OBSOLETE k5 (unfold is_transfer in refl) refl g))
