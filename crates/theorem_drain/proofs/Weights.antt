-- What a handler sends weighs less than the message it handles.
-- Weights: FISH 5, REQ 4, AUTH 3, DENIED, OBSOLETE and SCHEDULE 2, ACK, NOWORK and RESULT 1.
-- Assumes nothing.
use mathlib.Core.Path.{◌≡◌, ap, ◌∙◌}
use mathlib.Core.Bool.{Bool, not, cond, ◌&&◌, ◌||◌}
use mathlib.Core.List.{List, [], ◌∷◌, ◌++◌}
use Prim.Native.Nat.{ℕ, ◌+◌, ◌*◌, ◌≤◌, ◌<◌}
use native.Mathlib.Omega.{arith}
use borrow.Author.Tests.{eqb-true}
use lib.Dec.{eqb, leb}
use lib.ListN.{length}
use Rattle.table.specs.declared.Message.{Message}
use Rattle.table.specs.declared.Table.{Table}
use Rattle.table.specs.Views.{job_at, machine_at, pool_at, told_at, flight, with_job, with_machine, with_pool}
use Rattle.table.specs.Pools.{enter, lowest, returned}
use Rattle.table.specs.Messages.{push, send}
use Rattle.table.specs.Needs.{RoomFor}
use Rattle.table.specs.Parts.{moved, placed, priced, reserve, release, waiting, reserves, message, FISH, REQ, AUTH, DENIED, OBSOLETE, SCHEDULE, ACK}
use Rattle.table.specs.Parts.{NOWORK, RESULT, OPEN, PRICED}
use Rattle.table.proofs.Messages.{flight_push}
use Rattle.handler_victim.specs.Victim.{no_work, grant, on_fish, on_auth, on_denied, on_obsolete}
use Rattle.handler_thief.specs.Thief.{on_schedule, on_no_work}
use Rattle.handler_root.specs.Root.{reply, on_req, on_ack, on_result}
use Rattle.handler.specs.Handler.{handle}
use Rattle.lists.proofs.Cases.{by_bool, cond_elim}
use Rattle.theorem_invariant.proofs.State.{Received}
use Rattle.theorem_invariant.proofs.Frame.{Frame, frame_refl, frame_job, frame_pool, frame_machine, frame_room, frame_enter, frame_returned}
use Rattle.theorem_invariant.proofs.About.{alive_reserve, alive_release, alive_waiting}
use Rattle.handler.proofs.Cases.{by_kind}

unfoldable pub weight_of : ℕ → ℕ
weight_of k = cond (eqb k FISH) 5 (cond (eqb k REQ) 4 (cond (eqb k AUTH) 3 (cond (eqb k DENIED || eqb k OBSOLETE || eqb k SCHEDULE) 2 1)))

-- of all messages of a list
abbrev pub weight : List Message → ℕ
weight [] = 0
weight (x ∷ xs) = weight_of x.kind + weight xs

weight_append : (xs : List Message) (y : Message) → weight (xs ++ y ∷ []) ≡ weight xs + weight_of y.kind
weight_append [] y = omega arith
weight_append (x ∷ xs) y = omega (arith, weight_append xs y)

-- every message weighs from 1 to 5
pub weight_range : (k : ℕ) → (1 ≤ weight_of k) × (weight_of k ≤ 5)
unfolding weight_of
weight_range k =
    by_bool (eqb k FISH) (λ a. rw a (omega arith, omega arith))
    (λ a. by_bool (eqb k REQ) (λ b. rw (a, b) (omega arith, omega arith))
    (λ b. by_bool (eqb k AUTH) (λ c. rw (a, b, c) (omega arith, omega arith))
    (λ c. by_bool (eqb k DENIED || eqb k OBSOLETE || eqb k SCHEDULE) (λ d. rw (a, b, c, d) (omega arith, omega arith))
    (λ d. rw (a, b, c, d) (omega arith, omega arith)))))

pub weight_most : (l : List Message) → weight l ≤ length l * 5
weight_most [] = omega arith
weight_most (x ∷ xs) = omega (arith, weight_most xs, (weight_range x.kind).1)

-- ---- after a handler

-- the messages of u weigh at most w more than those of s
abbrev Sent : ℕ → Table → Table → Type 0
Sent w s u = weight (flight u) ≤ w + weight (flight s)

-- u is the table after x was handled on s: they weigh less than those of s and x
abbrev Lighter : Table → Message → Table → Type 0
Lighter s x u = weight (flight u) < weight_of x.kind + weight (flight s)

-- nothing is sent
sends_nothing : (w : ℕ) (s u : Table) → Frame s u → Sent w s u
sends_nothing w s u f = rw f.flight (omega arith)

-- a message is sent
sent : (w : ℕ) (s u : Table) (y : Message) → Frame s u → RoomFor s y.to → weight_of y.kind ≤ w → Sent w s (send u y)
unfolding send
sent w s u y f room h =
    by_bool (eqb (machine_at u y.to).alive 1)
    (λ e.
    let fl : flight (push u y) ≡ flight s ++ y ∷ [] =
    flight_push u f.sized y (frame_room s u f y.to room (eqb-true _ 1 e)) ∙ ap (λ (l : List Message). l ++ y ∷ []) f.flight in
    rw (e, send, fl) (omega (arith, weight_append (flight s) y)))
    (λ e. rw (e, send) (sends_nothing w s u f))

cond_sent : (b : Bool) (w : ℕ) (s u v : Table) → Sent w s u → Sent w s v → Sent w s (cond b u v)
cond_sent b w s u v = cond_elim (Sent w s) b u v

module _ (s : Table) (x : Message) (h : Received s x) where
  own : Frame s s
  own = frame_refl s h.sized

  nothing : (w : ℕ) → Sent w s s
  nothing w = sends_nothing w s s own

  no_work_lem : (u : Table) (b th : ℕ) → Frame s u → Sent 1 s (no_work u b th)
  unfolding no_work message weight_of
  no_work_lem u b th f = sent 1 s u (message NOWORK b th 0 0 0) f (λ e. h.room) (omega arith)

  answered : (u : Table) (k : ℕ) → Frame s u → weight_of k ≤ 3 → Sent 3 s (reply u x k)
  unfolding reply message
  answered u k f l = sent 3 s u (message k 0 x.from x.job x.replica x.thief) f (λ e. h.room) l

  fish : Sent 4 s (on_fish s x)
  unfolding on_fish grant no_work message weight_of
  fish =
      let b = x.to in
      let j = lowest s b in
      let v = reserve (machine_at s b) j (pool_at s b j) x.from in
      let none : Sent 4 s (send s (message NOWORK b x.from 0 0 0)) =
      sent 4 s s (message NOWORK b x.from 0 0 0) own (λ e. h.room) (omega arith) in
      cond_sent (not (eqb (machine_at s b).reserved_replica 0)) 4 s _ _ none
      (cond_sent (leb 64 j) 4 s _ _ none
      (sent 4 s (with_machine (with_pool s b j 0) b v) (message REQ b 0 j (pool_at s b j) x.from)
      (frame_machine s _ (frame_pool s s own b j 0) b v (alive_reserve (machine_at s b) j (pool_at s b j) x.from))
      (λ e. h.room) (omega arith)))

  req : Sent 3 s (on_req s x)
  unfolding on_req weight_of
  req =
      let v = job_at s x.job in
      cond_sent (eqb v.state PRICED || not (eqb v.replica x.replica)) 3 s _ _ (answered s OBSOLETE own (omega arith))
      (cond_sent (not (eqb (told_at s 0 x.thief) 0) || not (eqb v.moving 0)) 3 s _ _ (answered s DENIED own (omega arith))
      (answered (with_job s x.job (moved v x.from x.thief)) AUTH (frame_job s s own x.job (moved v x.from x.thief)) (omega arith)))

  released : Frame s (with_machine s x.to (release (machine_at s x.to)))
  released = frame_machine s s own x.to (release (machine_at s x.to)) (alive_release (machine_at s x.to))

  auth : Sent 2 s (on_auth s x)
  unfolding on_auth message weight_of
  auth =
      cond_sent (reserves (machine_at s x.to) x.job x.replica x.thief) 2 s _ s
      (sent 2 s (with_machine s x.to (release (machine_at s x.to)))
      (message SCHEDULE x.to x.thief x.job x.replica 0) released (λ e. h.room) (omega arith))
      (nothing 2)

  denied : Sent 1 s (on_denied s x)
  unfolding on_denied
  denied =
      cond_sent (reserves (machine_at s x.to) x.job x.replica x.thief) 1 s _ s
      (no_work_lem (returned s x.to) x.to x.thief (frame_returned s x.to h.sized))
      (nothing 1)

  obsolete : Sent 1 s (on_obsolete s x)
  unfolding on_obsolete
  obsolete =
      cond_sent (reserves (machine_at s x.to) x.job x.replica x.thief) 1 s _ s
      (no_work_lem (with_machine s x.to (release (machine_at s x.to))) x.to x.thief released)
      (nothing 1)

  schedule : Sent 1 s (on_schedule s x)
  unfolding on_schedule message weight_of
  schedule =
      let b = x.to in
      sent 1 s (with_machine (enter s b x.job x.replica) b (waiting (machine_at s b) 0)) (message ACK b 0 x.job x.replica 0)
      (frame_machine s _ (frame_enter s s own b x.job x.replica) b (waiting (machine_at s b) 0) (alive_waiting (machine_at s b) 0))
      (λ e. h.room) (omega arith)

  ack : Sent 0 s (on_ack s x)
  unfolding on_ack
  ack =
      cond_sent (eqb (job_at s x.job).state OPEN && eqb (job_at s x.job).replica x.replica) 0 s _ s
      (sends_nothing 0 s _ (frame_job s s own x.job (placed (job_at s x.job) x.from)))
      (nothing 0)

  nowork : Sent 0 s (on_no_work s x)
  unfolding on_no_work
  nowork = sends_nothing 0 s _ (frame_machine s s own x.to (waiting (machine_at s x.to) 0) (alive_waiting (machine_at s x.to) 0))

  result : Sent 0 s (on_result s x)
  unfolding on_result
  result =
      cond_sent (eqb (job_at s x.job).state OPEN) 0 s _ s
      (sends_nothing 0 s _ (frame_job s s own x.job (priced (job_at s x.job) x.price)))
      (nothing 0)

  -- what is sent weighs less than the message handled
  less : (w k : ℕ) (u : Table) → x.kind ≡ k → w < weight_of k → Sent w s u → Lighter s x u
  less w k u e l r = rw e (omega (arith, r))

  pub lighter : Lighter s x (handle s x)
  unfolding weight_of
  lighter =
      by_kind (Lighter s x) s x (λ n. absurd (n h.message.kind_least h.message.kind_most))
      (λ e. less 4 FISH (on_fish s x) e (omega arith) fish)
      (λ e. less 3 REQ (on_req s x) e (omega arith) req)
      (λ e. less 2 AUTH (on_auth s x) e (omega arith) auth)
      (λ e. less 1 DENIED (on_denied s x) e (omega arith) denied)
      (λ e. less 1 OBSOLETE (on_obsolete s x) e (omega arith) obsolete)
      (λ e. less 1 SCHEDULE (on_schedule s x) e (omega arith) schedule)
      (λ e. less 0 ACK (on_ack s x) e (omega arith) ack)
      (λ e. less 0 NOWORK (on_no_work s x) e (omega arith) nowork)
      (λ e. less 0 RESULT (on_result s x) e (omega arith) result)
