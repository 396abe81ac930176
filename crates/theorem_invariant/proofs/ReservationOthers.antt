-- Clause C through REQ, SCHEDULE, ACK, NOWORK and RESULT: no reserved copy changes, and an answer counts as the REQ did.
-- Assumes nothing.
use mathlib.Core.Path.{◌≡◌, refl, sym, ap, ◌∙◌}
use mathlib.Core.Bool.{true, false, not, ◌&&◌, ◌||◌}
use mathlib.Core.List.{◌∷◌}
use Prim.Native.Nat.{ℕ}
use native.Mathlib.Omega.{arith}
use lib.Dec.{eqb}
use borrow.Author.Tests.{eqb-false}
use Rattle.lists.proofs.Cases.{by_bool}
use Rattle.lists.proofs.Count.{ind}
use Rattle.table.specs.declared.Job.{Job}
use Rattle.table.specs.declared.Message.{Message}
use Rattle.table.specs.declared.Table.{Table}
use Rattle.table.specs.Views.{job_at, machine_at, told_at, flight, with_job, with_machine}
use Rattle.table.specs.Pools.{enter}
use Rattle.table.specs.Parts.{moved, placed, priced, reserves, waiting, message, REQ, AUTH, DENIED, OBSOLETE, SCHEDULE, ACK, NOWORK, RESULT, OPEN}
use Rattle.table.specs.Parts.{PRICED}
use Rattle.table.proofs.Views.{views}
use Rattle.handler_root.specs.Root.{reply, on_req, on_ack, on_result}
use Rattle.handler_thief.specs.Thief.{on_schedule, on_no_work}
use Rattle.theorem_invariant.proofs.State.{ReservationMatched, Received, is_answer}
use Rattle.theorem_invariant.proofs.Frame.{Frame, frame_refl, frame_job, frame_machine, frame_enter, part_kept, machine_enter}
use Rattle.theorem_invariant.proofs.About.{plain, about_reply, reserves_waiting, alive_waiting, kind_message}
use Rattle.theorem_invariant.proofs.ReservationFrame.{SameReserved, reservation_frame, reservation_forget, reservation_sends}
use Rattle.theorem_invariant.proofs.ReservationFrame.{reservation_plain, reservation_unsent}

-- a job's update changes no machine
same_job : (s : Table) (j : ℕ) (v : Job) → SameReserved s (with_job s j v)
same_job s j v m k q th = simp views

module _ (s : Table) (x : Message) (h : Received s x) (c : ReservationMatched s (x ∷ flight s)) where
  here : Frame s s
  here = frame_refl s h.sized

  -- ---- REQ

  -- the root's answer, from a table u with the machines of s
  answers : (k : ℕ) (u : Table) → Frame s u → SameReserved s u → x.kind ≡ REQ → is_answer k ≡ true → eqb k REQ ≡ false
      → ReservationMatched (reply u x k) (flight (reply u x k))
  unfolding reply
  answers k u f re e a b =
      let y = message k 0 x.from x.job x.replica x.thief in
      reservation_sends u y f.sized (λ e. omega (arith, f.used, h.room)) (f.alive 0 ∙ h.facts.root)
      (λ d. absurd (eqb-false k REQ b (sym (kind_message k 0 x.from x.job x.replica x.thief) ∙ d)))
      (rw f.flight
      (reservation_frame s u (x ∷ flight s) (y ∷ flight s) f re (λ m th j q. omega (arith, ap ind (about_reply x k m th j q e a b))) c))

  pub reservation_req : x.kind ≡ REQ → ReservationMatched (on_req s x) (flight (on_req s x))
  unfolding on_req
  reservation_req e =
      by_bool (eqb (job_at s x.job).state PRICED || not (eqb (job_at s x.job).replica x.replica))
      (λ a. rw (a, on_req) (answers OBSOLETE s here (λ m j q th. refl) e (unfold is_answer in refl) refl))
      (λ a. by_bool (not (eqb (told_at s 0 x.thief) 0) || not (eqb (job_at s x.job).moving 0))
      (λ b. rw (a, b, on_req) (answers DENIED s here (λ m j q th. refl) e (unfold is_answer in refl) refl))
      (λ b. rw (a, b, on_req) (answers AUTH (with_job s x.job (moved (job_at s x.job) x.from x.thief)) (frame_job s s here x.job _)
      (same_job s x.job _) e (unfold is_answer in refl) refl)))

  -- ---- the others: the message is about no copy

  forgets : plain x.kind ≡ true → ReservationMatched s (flight s)
  forgets p = reservation_forget s x (flight s) p c

  pub reservation_ack : x.kind ≡ ACK → ReservationMatched (on_ack s x) (flight (on_ack s x))
  unfolding on_ack
  reservation_ack e =
      let k : ReservationMatched s (flight s) = forgets (unfold plain is_answer in rw e) in
      by_bool (eqb (job_at s x.job).state OPEN && eqb (job_at s x.job).replica x.replica)
      (λ a. rw (a, on_ack) (reservation_unsent s (with_job s x.job (placed (job_at s x.job) x.from)) (frame_job s s here x.job _)
      (same_job s x.job _) k))
      (λ a. rw (a, on_ack) k)

  pub reservation_result : x.kind ≡ RESULT → ReservationMatched (on_result s x) (flight (on_result s x))
  unfolding on_result
  reservation_result e =
      let k : ReservationMatched s (flight s) = forgets (unfold plain is_answer in rw e) in
      by_bool (eqb (job_at s x.job).state OPEN)
      (λ a. rw (a, on_result) (reservation_unsent s (with_job s x.job (priced (job_at s x.job) x.price)) (frame_job s s here x.job _)
      (same_job s x.job _) k))
      (λ a. rw (a, on_result) k)

  pub reservation_nowork : x.kind ≡ NOWORK → ReservationMatched (on_no_work s x) (flight (on_no_work s x))
  unfolding on_no_work
  reservation_nowork e =
      let b = x.to in
      let v = waiting (machine_at s b) 0 in
      reservation_unsent s (with_machine s b v) (frame_machine s s here b v (alive_waiting (machine_at s b) 0))
      (λ m j q th. part_kept (λ n. reserves n j q th) s s b v (λ k. refl) (reserves_waiting (machine_at s b) 0 j q th) m)
      (forgets (unfold plain is_answer in rw e))

  pub reservation_schedule : x.kind ≡ SCHEDULE → ReservationMatched (on_schedule s x) (flight (on_schedule s x))
  unfolding on_schedule
  reservation_schedule e =
      let b = x.to in
      let v = waiting (machine_at s b) 0 in
      let p = enter s b x.job x.replica in
      let y = message ACK b 0 x.job x.replica 0 in
      let f : Frame s p = frame_enter s s here b x.job x.replica in
      reservation_plain s (with_machine p b v) y (frame_machine s p f b v (alive_waiting (machine_at s b) 0))
      (λ m j q th. part_kept (λ n. reserves n j q th) s p b v (λ k. rw (machine_enter s b x.job x.replica k))
      (reserves_waiting (machine_at s b) 0 j q th) m)
      (λ e. h.room) h.facts.root (unfold plain is_answer message in refl) (forgets (unfold plain is_answer in rw e))
