-- Clauses D1, F, D2, R (reserved and running copies) and P through the nine handlers, and so through Deliver.
-- Assumes nothing.
use mathlib.Core.Path.{◌≡◌, refl, sym, ◌∙◌}
use mathlib.Core.Logic.{◌≢◌}
use mathlib.Core.Bool.{Bool, true, false, not, ◌&&◌, ◌||◌, true≢false}
use mathlib.Core.List.{List, ◌∷◌}
use Prim.Native.Nat.{ℕ, ◌≤◌, ◌<◌}
use native.Mathlib.Omega.{arith}
use lib.Dec.{eqb, leb}
use borrow.Author.Tests.{eqb-true, leb-false}
use Rattle.lists.proofs.Cases.{by_bool}
use Rattle.lists.proofs.Count.{Every}
use Rattle.table.specs.declared.Machine.{Machine}
use Rattle.table.specs.declared.Message.{Message}
use Rattle.table.specs.declared.Table.{Table}
use Rattle.table.specs.Views.{job_at, machine_at, pool_at, told_at, message_at, flight, with_job, with_machine, with_pool}
use Rattle.table.specs.Pools.{enter, lowest, returned}
use Rattle.table.specs.Messages.{remove_at, send}
use Rattle.table.specs.Parts.{moved, placed, priced, reserve, release, waiting, reserves, message, REQ, AUTH, DENIED, OBSOLETE, SCHEDULE, ACK, NOWORK}
use Rattle.table.specs.Parts.{OPEN, PRICED}
use Rattle.table.proofs.Views.{views, machine_same, machine_other, machine_pool, flight_job}
use Rattle.handler_victim.specs.Victim.{no_work, grant, on_fish, on_auth, on_denied, on_obsolete}
use Rattle.handler_thief.specs.Thief.{on_schedule, on_no_work}
use Rattle.handler_root.specs.Root.{reply, on_req, on_ack, on_result}
use Rattle.handler.specs.Handler.{handle}
use Rattle.event_admit_deliver_die.specs.AdmitDeliverDie.{delivered}
use Rattle.theorem_invariant.proofs.State.{Untold, Sender, Copies, Received, Invariant, is_answer}
use Rattle.theorem_invariant.proofs.Received.{received}
use Rattle.handler.proofs.Cases.{by_kind}
use Rattle.theorem_invariant.proofs.Frame.{Frame, frame_refl, frame_job, frame_machine, frame_pool, frame_enter, frame_returned}
use Rattle.theorem_invariant.proofs.Frame.{machine_returned, machine_returned_other, machine_enter, job_enter}
use Rattle.theorem_invariant.proofs.About.{alive_reserve, alive_release, alive_waiting}
use Rattle.theorem_invariant.proofs.UntoldFrame.{untold_machine, untold_job, untold_list, untold_sends, untold_takes, copies_release}
use Rattle.theorem_invariant.proofs.UntoldFrame.{copies_waiting, copies_reserve, living_untold, sender_message}

module _ (s : Table) (x : Message) (h : Received s x) (pools : (m j : ℕ) → m < 16 → j < 64
    → pool_at s m j ≤ (job_at s j).replica) (d : Untold s (x ∷ flight s)) where
  abbrev UntoldNow : Table → Type 0
  UntoldNow t = Untold t (flight t)

  here : Frame s s
  here = frame_refl s h.sized

  own_copies : Copies s x.to (machine_at s x.to)
  own_copies = d.copies x.to h.message.to

  -- a message of the receiver to a machine o
  from_own : (k o j r th : ℕ) → is_answer k ≡ false → o < 16 → Sender s (message k x.to o j r th)
  from_own k o j r th n l = sender_message s k x.to o j r th (λ e. absurd (true≢false (sym e ∙ n)))
      (living_untold s h.facts o x.to l h.message.to h.message.alive)

  -- nothing is sent
  gone : UntoldNow s
  gone = untold_list s (x ∷ flight s) (flight s) d.sender.1 d

  -- u differs from s in pools and in the receiver's record, which is v; a message may be sent
  module _ (u : Table) (v : Machine) (f : Frame s u) (jobs : (j : ℕ) → job_at u j ≡ job_at s j)
      (own : machine_at u x.to ≡ v) (other : (m : ℕ) → m ≢ x.to → machine_at u m ≡ machine_at s m) (c : Copies s x.to v) where
    stays : (k : List Message) → Every (Sender s) k → Untold u k
    stays k e = untold_machine s u (x ∷ flight s) k x.to v f.told jobs own other c e d

    sent : (y : Message) → Sender s y → UntoldNow (send u y)
    sent y e = untold_sends u y f.sized (λ e. omega (arith, f.used, h.room)) (rw f.flight (stays (y ∷ flight s) (e, d.sender.1)))

  -- the same where no pool changed
  module _ (v : Machine) (alive : v.alive ≡ (machine_at s x.to).alive) (c : Copies s x.to v) where
    sent_own : (y : Message) → Sender s y → UntoldNow (send (with_machine s x.to v) y)
    sent_own =
        sent (with_machine s x.to v) v (frame_machine s s here x.to v alive) (λ j. simp views)
        (machine_same s h.sized x.to v h.message.to) (λ m e. machine_other s x.to m v e) c

  sent_back : (k o j r : ℕ) → is_answer k ≡ false → o < 16 → UntoldNow (send (returned s x.to) (message k x.to o j r 0))
  sent_back k o j r n l =
      sent (returned s x.to) (release (machine_at s x.to)) (frame_returned s x.to h.sized)
      (unfold returned in λ i. simp (views, job_enter))
      (machine_returned s x.to h.sized h.message.to) (λ m e. machine_returned_other s x.to m e)
      (copies_release s x.to (machine_at s x.to) own_copies.running) (message k x.to o j r 0) (from_own k o j r 0 n l)

  released : (k o j r : ℕ) → is_answer k ≡ false → o < 16
      → UntoldNow (send (with_machine s x.to (release (machine_at s x.to))) (message k x.to o j r 0))
  released k o j r n l =
      sent_own (release (machine_at s x.to)) (alive_release (machine_at s x.to))
      (copies_release s x.to (machine_at s x.to) own_copies.running)
      (message k x.to o j r 0) (from_own k o j r 0 n l)

  -- ---- FISH

  refuses : UntoldNow (no_work s x.to x.from)
  unfolding no_work
  refuses =
      let y = message NOWORK x.to x.from 0 0 0 in
      untold_sends s y h.sized (λ e. h.room)
      (untold_list s (x ∷ flight s) (y ∷ flight s) (from_own NOWORK x.from 0 0 0 (unfold is_answer in refl) h.message.from, d.sender.1) d)

  grants : (j : ℕ) → j < 64 → UntoldNow (grant s x.to x.from j)
  unfolding grant
  grants j l =
      let b = x.to in
      let r = pool_at s b j in
      let v = reserve (machine_at s b) j r x.from in
      let p = with_pool s b j 0 in
      let f : Frame s p = frame_pool s s here b j 0 in
      sent (with_machine p b v) v (frame_machine s p f b v (alive_reserve (machine_at s b) j r x.from)) (λ i. simp views)
      (machine_same p f.sized b v h.message.to) (λ m e. machine_other p b m v e ∙ machine_pool s b j 0 m)
      (copies_reserve s b (machine_at s b) j r x.from (pools b j h.message.to l) d.sender.0.untold own_copies)
      (message REQ b 0 j r x.from) (from_own REQ 0 j r x.from (unfold is_answer in refl) (omega arith))

  untold_fish : UntoldNow (on_fish s x)
  unfolding on_fish
  untold_fish =
      by_bool (not (eqb (machine_at s x.to).reserved_replica 0))
      (λ a. rw (a, on_fish) refuses)
      (λ a. by_bool (leb 64 (lowest s x.to))
      (λ b. rw (a, b, on_fish) refuses)
      (λ b. rw (a, b, on_fish) (grants (lowest s x.to) (leb-false _ _ b))))

  -- ---- REQ

  -- the root's answer
  from_root : (k : ℕ) → Sender s (message k 0 x.from x.job x.replica x.thief)
  from_root k = sender_message s k 0 x.from x.job x.replica x.thief (λ e. refl)
      (living_untold s h.facts x.from 0 h.message.from (omega arith) h.facts.root)

  untold_reply : (k : ℕ) → UntoldNow (reply s x k)
  unfolding reply
  untold_reply k =
      let y = message k 0 x.from x.job x.replica x.thief in
      untold_sends s y h.sized (λ e. h.room) (untold_list s (x ∷ flight s) (y ∷ flight s) (from_root k, d.sender.1) d)

  -- the job moves, between machines of which the root was not told
  untold_moves : told_at s 0 x.from ≡ 0 → told_at s 0 x.thief ≡ 0
      → UntoldNow (reply (with_job s x.job (moved (job_at s x.job) x.from x.thief)) x AUTH)
  unfolding reply moved
  untold_moves e g =
      let v = moved (job_at s x.job) x.from x.thief in
      let y = message AUTH 0 x.from x.job x.replica x.thief in
      let f : Frame s (with_job s x.job v) = frame_job s s here x.job v in
      untold_sends (with_job s x.job v) y f.sized (λ e. omega (arith, f.used, h.room))
      (rw f.flight (untold_job s (x ∷ flight s) (y ∷ flight s) x.job v h.sized h.message.job (omega arith)
      (record { holder = λ i. e; thief = λ i n. g }) (from_root AUTH, d.sender.1) d))

  -- what came to the root came from a machine of which it was not told
  sender_told : x.to ≡ 0 → told_at s 0 x.from ≡ 0
  sender_told e = rw e at d.sender.0.untold

  untold_req : x.kind ≡ REQ → UntoldNow (on_req s x)
  unfolding on_req
  untold_req k =
      by_bool (eqb (job_at s x.job).state PRICED || not (eqb (job_at s x.job).replica x.replica))
      (λ a. rw (a, on_req) (untold_reply OBSOLETE))
      (λ a. by_bool (not (eqb (told_at s 0 x.thief) 0) || not (eqb (job_at s x.job).moving 0))
      (λ b. rw (a, b, on_req) (untold_reply DENIED))
      (λ b. rw (a, b, on_req) (untold_moves (sender_told (h.message.root (rw k)))
      (thief_told (eqb (told_at s 0 x.thief) 0) (eqb (job_at s x.job).moving 0) refl b))))
    where
      thief_told : (p q : Bool) → eqb (told_at s 0 x.thief) 0 ≡ p → not p || not q ≡ false → told_at s 0 x.thief ≡ 0
      thief_told true q e g = eqb-true _ _ e
      thief_told false q e g = absurd (true≢false g)

  -- ---- AUTH, DENIED, OBSOLETE

  untold_auth : UntoldNow (on_auth s x)
  unfolding on_auth
  untold_auth =
      by_bool (reserves (machine_at s x.to) x.job x.replica x.thief)
      (λ a. rw (a, on_auth) (released SCHEDULE x.thief x.job x.replica (unfold is_answer in refl) h.message.thief))
      (λ a. rw (a, on_auth) gone)

  untold_denied : UntoldNow (on_denied s x)
  unfolding on_denied no_work
  untold_denied =
      by_bool (reserves (machine_at s x.to) x.job x.replica x.thief)
      (λ a. rw (a, on_denied) (sent_back NOWORK x.thief 0 0 (unfold is_answer in refl) h.message.thief))
      (λ a. rw (a, on_denied) gone)

  untold_obsolete : UntoldNow (on_obsolete s x)
  unfolding on_obsolete no_work
  untold_obsolete =
      by_bool (reserves (machine_at s x.to) x.job x.replica x.thief)
      (λ a. rw (a, on_obsolete) (released NOWORK x.thief 0 0 (unfold is_answer in refl) h.message.thief))
      (λ a. rw (a, on_obsolete) gone)

  -- ---- SCHEDULE, NOWORK

  untold_schedule : UntoldNow (on_schedule s x)
  unfolding on_schedule
  untold_schedule =
      let b = x.to in
      let v = waiting (machine_at s b) 0 in
      let p = enter s b x.job x.replica in
      let f : Frame s p = frame_enter s s here b x.job x.replica in
      sent (with_machine p b v) v (frame_machine s p f b v (alive_waiting (machine_at s b) 0)) (λ j. simp (views, job_enter))
      (machine_same p f.sized b v h.message.to) (λ m e. machine_other p b m v e ∙ machine_enter s b x.job x.replica m)
      (copies_waiting s b (machine_at s b) 0 own_copies)
      (message ACK b 0 x.job x.replica 0) (from_own ACK 0 x.job x.replica 0 (unfold is_answer in refl) (omega arith))

  untold_nowork : UntoldNow (on_no_work s x)
  unfolding on_no_work
  untold_nowork =
      let b = x.to in
      let v = waiting (machine_at s b) 0 in
      let f : Frame s (with_machine s b v) = frame_machine s s here b v (alive_waiting (machine_at s b) 0) in
      rw f.flight (stays (with_machine s b v) v f (λ j. simp views) (machine_same s h.sized b v h.message.to)
      (λ m e. machine_other s b m v e)
      (copies_waiting s b (machine_at s b) 0 own_copies) (flight s) d.sender.1)

  -- ---- ACK, RESULT

  untold_ack : x.kind ≡ ACK → UntoldNow (on_ack s x)
  unfolding on_ack placed
  untold_ack k =
      by_bool (eqb (job_at s x.job).state OPEN && eqb (job_at s x.job).replica x.replica)
      (λ a. rw (a, on_ack) (simp flight_job (untold_job s (x ∷ flight s) (flight s) x.job _ h.sized h.message.job (omega arith)
      (record { holder = λ e. sender_told (h.message.root (rw k)); thief = λ e (f : ◌≡◌ {A = ℕ} 0 1). absurd (omega arith) }) d.sender.1 d)))
      (λ a. rw (a, on_ack) gone)

  untold_result : UntoldNow (on_result s x)
  unfolding on_result priced
  untold_result =
      by_bool (eqb (job_at s x.job).state OPEN)
      (λ a. rw (a, on_result) (simp flight_job (untold_job s (x ∷ flight s) (flight s) x.job _ h.sized h.message.job (omega arith)
      (record { holder = λ (e : ◌≡◌ {A = ℕ} 2 1). absurd (omega arith); thief = λ (e : ◌≡◌ {A = ℕ} 2 1) f. absurd (omega arith) }) d.sender.1 d)))
      (λ a. rw (a, on_result) gone)

  pub untold_handle : UntoldNow (handle s x)
  untold_handle =
      by_kind (λ t. Untold t (flight t)) s x (λ n. absurd (n h.message.kind_least h.message.kind_most))
      (λ e. untold_fish) untold_req (λ e. untold_auth) (λ e. untold_denied) (λ e. untold_obsolete) (λ e. untold_schedule) untold_ack
      (λ e. untold_nowork) (λ e. untold_result)

pools_removed : (t : Table) (k : ℕ) → ((m j : ℕ) → m < 16 → j < 64 → pool_at t m j ≤ (job_at t j).replica) → (m j : ℕ) → m < 16 → j < 64
    → pool_at (remove_at t k) m j ≤ (job_at (remove_at t k) j).replica
unfolding remove_at
pools_removed t k p = simp views p

pub untold_delivered : (t : Table) (k : ℕ) → Invariant t → k < t.in_flight → Untold (delivered t k) (flight (delivered t k))
unfolding delivered
untold_delivered t k w l = untold_handle (remove_at t k) (message_at t k) (received t k w l) (pools_removed t k w.transfer.pools)
    (untold_takes t k w.sized l w.untold)
