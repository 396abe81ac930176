-- Clauses R, O, N, H and S through FISH, SCHEDULE and NOWORK: a copy leaves a pool, or enters one.
-- Assumes nothing.
use mathlib.Core.Path.{◌≡◌, refl, sym, ap, ◌∙◌}
use mathlib.Core.Bool.{true, not, ◌&&◌, false≢true}
use mathlib.Core.List.{◌∷◌}
use Prim.Native.Nat.{ℕ, ◌≤◌, ◌<◌}
use native.Mathlib.Omega.{arith}
use lib.Dec.{eqb, leb}
use borrow.Author.Tests.{eqb-true, leb-false, not-false}
use Rattle.table.specs.declared.Message.{Message}
use Rattle.table.specs.declared.Table.{Table}
use Rattle.table.specs.Views.{job_at, machine_at, pool_at, flight, with_machine, with_pool}
use Rattle.table.specs.Pools.{enter, lowest}
use Rattle.table.specs.Parts.{reserve, waiting, message, FISH, REQ, SCHEDULE, ACK, NOWORK}
use Rattle.table.proofs.Views.{views, pool_machine, flight_machine}
use Rattle.handler_victim.specs.Victim.{no_work, grant, on_fish}
use Rattle.handler_thief.specs.Thief.{on_schedule, on_no_work}
use Rattle.lists.proofs.Cases.{by_bool, and_left, and_right}
use Rattle.lists.proofs.Count.{ind}
use Rattle.theorem_invariant.proofs.Frame.{Frame, frame_refl, frame_machine, frame_pool, frame_enter, machine_enter, entered}
use Rattle.theorem_invariant.proofs.About.{alive_reserve, alive_waiting}
use Rattle.theorem_invariant.proofs.State.{Transfer, Known, Received, transfer, is_transfer, ack_from}
use Rattle.theorem_invariant.proofs.TransferLaws.{result_other, known_plain, places}
use Rattle.theorem_invariant.proofs.TransferFrame.{transfer_passed, transfer_step}
use Rattle.theorem_invariant.proofs.TransferSend.{transfer_sends, transfer_swap, transfer_table}
use Rattle.theorem_invariant.proofs.TransferCopies.{has_waiting, has_by_pool, has_enter, pools_enter, pools_emptied, enter_pool, has_taken}
use Rattle.theorem_invariant.proofs.TransferCopies.{reserves_taken, reserves_job_none}
use Rattle.theorem_invariant.proofs.TransferAnswers.{TransferNow}

-- an ACK says what the SCHEDULE before it said
known_ack : (s : Table) (x : Message) → x.kind ≡ SCHEDULE → Known s x → Known s (message ACK x.to 0 x.job x.replica 0)
unfolding message
known_ack s x k6 k = record {
  cap = k.cap;
  old = λ (e : ◌≡◌ {A = ℕ} 7 5). absurd (omega arith);
  ends =
      λ a c. record {
        auth = λ (e : ◌≡◌ {A = ℕ} 7 3). absurd (omega arith);
        schedule = λ (e : ◌≡◌ {A = ℕ} 7 6). absurd (omega arith);
        ack = λ e. ((k.ends a c).schedule k6).1;
      };
}

ack_eqs : (j r p b i q : ℕ) → ack_from j r p (message ACK b 0 i q 0) ≡ true → (b ≡ p) × (i ≡ j) × (q ≡ r)
unfolding ack_from message
ack_eqs j r p b i q e =
    let f = and_right (eqb b p) (eqb i j && eqb q r) e in (
      eqb-true b p (and_left (eqb b p) (eqb i j && eqb q r) e),
      eqb-true i j (and_left (eqb i j) (eqb q r) f),
      eqb-true q r (and_right (eqb i j) (eqb q r) f),
    )

module _ (s : Table) (x : Message) (h : Received s x) (g : Transfer s (x ∷ flight s)) where
  -- ---- FISH: from the pool to the reserved copy
  grants : (i : ℕ) → x.kind ≡ FISH → i < 64 → (machine_at s x.to).reserved_replica ≡ 0 → TransferNow (grant s x.to x.from i)
  unfolding grant
  grants i k1 il free =
      let b = x.to in
      let n = machine_at s b in
      let r₀ = pool_at s b i in
      let q = with_pool s b i 0 in
      let v = reserve n i r₀ x.from in
      let u = with_machine q b v in
      let y = message REQ b 0 i r₀ x.from in
      let w = h.message in
      let va : v.alive ≡ n.alive = alive_reserve n i r₀ x.from in
      let f : Frame s u = frame_machine s q (frame_pool s s (frame_refl s h.sized) b i 0) b v va in
      let t : Transfer u (y ∷ flight s) =
      transfer_swap s u x y (flight s) FISH REQ k1 (unfold message in refl) (unfold is_transfer in refl) (unfold is_transfer in refl) refl refl
      (places s h.facts) (λ j. simp views) f.alive
      (λ m j a c. rw pool_machine (pools_emptied s b i h.sized w.to il g.pools m j a c))
      (known_plain s y REQ (unfold message in refl) (unfold is_transfer in refl) refl (unfold message in g.pools b i w.to il))
      (λ j p a c o.
      let r = (job_at s j).replica in
      let r1 : 1 ≤ r = (h.facts.job j a).some (λ e. omega arith) in
      omega (arith, has_taken s b i v j r p h.sized w.to il a r1 va (reserves_taken n i r₀ x.from j r r1 (reserves_job_none n j r free))))
      g in
      transfer_sends s u y f (λ e. h.room) h.facts.root (unfold message in λ e. refl) t

  fish_none : x.kind ≡ FISH → TransferNow (no_work s x.to x.from)
  unfolding no_work
  fish_none k1 =
      let y = message NOWORK x.to x.from 0 0 0 in
      transfer_sends s s y (frame_refl s h.sized) (λ e. h.room) h.facts.root (unfold message in λ e. absurd (false≢true e))
      (transfer_swap s s x y (flight s) FISH NOWORK k1 (unfold message in refl) (unfold is_transfer in refl) (unfold is_transfer in refl) refl refl
      (places s h.facts) (λ j. refl) (λ k. refl) g.pools
      (known_plain s y NOWORK (unfold message in refl) (unfold is_transfer in refl) refl (unfold message in omega arith)) (λ j p a c o. omega arith) g)

  pub transfer_fish : x.kind ≡ FISH → TransferNow (on_fish s x)
  unfolding on_fish
  transfer_fish k1 =
      by_bool (not (eqb (machine_at s x.to).reserved_replica 0))
      (λ a. rw (a, on_fish) (fish_none k1))
      (λ a. by_bool (leb 64 (lowest s x.to))
      (λ e. rw (a, e, on_fish) (fish_none k1))
      (λ e. rw (a, e, on_fish) (grants (lowest s x.to) k1 (leb-false 64 (lowest s x.to) e)
      (eqb-true (machine_at s x.to).reserved_replica 0 (not-false (eqb (machine_at s x.to).reserved_replica 0) a)))))

  -- ---- SCHEDULE: the copy enters the pool, and its ACK is on its way
  pub transfer_schedule : x.kind ≡ SCHEDULE → TransferNow (on_schedule s x)
  unfolding on_schedule
  transfer_schedule k6 =
      let b = x.to in
      let n = machine_at s b in
      let q = enter s b x.job x.replica in
      let u = with_machine q b (waiting n 0) in
      let y = message ACK b 0 x.job x.replica 0 in
      let w = h.message in
      let k = g.known.0 in
      let f : Frame s u = frame_machine s q (frame_enter s s (frame_refl s h.sized) b x.job x.replica) b (waiting n 0) (alive_waiting n 0) in
      let tx : (j r : ℕ) → transfer j r x ≡ eqb x.job j && eqb x.replica r = λ j r. unfold transfer is_transfer in rw k6 in
      let ty : (j r : ℕ) → transfer j r y ≡ eqb x.job j && eqb x.replica r = λ j r. unfold transfer is_transfer message in refl in
      let t : Transfer u (y ∷ flight s) =
      transfer_step s u x y (flight s) (places s h.facts) (λ j. simp (views, entered)) f.alive
      (λ m j a c. rw pool_machine (pools_enter s b x.job x.replica h.sized w.to w.job k.cap g.pools m j a c))
      (known_ack s x k6 k)
      (λ j a c. ty j (job_at s j).replica ∙ sym (tx j (job_at s j).replica))
      (λ j p a c o e.
      let r = (job_at s j).replica in
      omega (
        arith,
        has_enter s b x.job x.replica j r p h.sized w.to w.job a (λ f. rw f k.cap),
        has_waiting q b p j r 0 n (machine_enter s b x.job x.replica b),
        ap ind (result_other SCHEDULE j p x k6 refl),
      ))
      (λ j p a c o e.
      let r = (job_at s j).replica in
      let es = ack_eqs j r p b x.job x.replica e in
      let po : pool_at s b x.job ≤ x.replica = rw (es.1, es.2) (g.pools b j w.to a) in
      let pu : pool_at u p j ≡ r = pool_machine q b (waiting n 0) p j ∙ ap (λ (m : ℕ). pool_at q m j) (sym es.0) ∙ ap (pool_at q b) (sym es.1)
      ∙ enter_pool s b x.job x.replica h.sized w.to w.job po ∙ es.2 in
      has_by_pool u j r p pu)
      g in
      transfer_sends s u y f (λ e. h.room) h.facts.root (unfold message in λ e. refl) t

  -- ---- NOWORK
  pub transfer_nowork : x.kind ≡ NOWORK → TransferNow (on_no_work s x)
  unfolding on_no_work
  transfer_nowork k8 =
      let b = x.to in
      let n = machine_at s b in
      let u = with_machine s b (waiting n 0) in
      let f : Frame s u = frame_machine s s (frame_refl s h.sized) b (waiting n 0) (alive_waiting n 0) in
      simp flight_machine
      (transfer_table s u (flight s) (places s h.facts) (λ j. simp views) f.alive (λ m j a c. rw pool_machine (g.pools m j a c))
      (λ j p a c o. omega (arith, has_waiting s b p j (job_at s j).replica 0 n refl))
      (transfer_passed s x (flight s) NOWORK k8 (unfold is_transfer in refl) refl g))
