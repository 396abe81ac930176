-- Clause X through the nine handlers, and so through Deliver: a price comes from a RESULT, and only Done sends one.
-- Assumes nothing.
use mathlib.Core.Path.{◌≡◌, refl, sym, ap, ◌∙◌}
use mathlib.Core.Bool.{false, not, ◌&&◌, ◌||◌}
use mathlib.Core.List.{List, ◌∷◌}
use Prim.Native.Nat.{ℕ, ◌<◌}
use native.Mathlib.Omega.{arith}
use lib.Dec.{eqb, leb}
use borrow.Author.Tests.{eqb-false}
use Rattle.pricer.specs.Price.{price_bits}
use Rattle.lists.proofs.Cases.{by_bool, by_eq}
use Rattle.lists.proofs.Count.{Every, every_append, every_map}
use Rattle.table.specs.declared.Job.{Job}
use Rattle.table.specs.declared.Machine.{Machine}
use Rattle.table.specs.declared.Message.{Message}
use Rattle.table.specs.declared.Table.{Table}
use Rattle.table.specs.Views.{bond_at, job_at, machine_at, pool_at, told_at, message_at, flight, with_job, with_machine, with_pool, with_messages}
use Rattle.table.specs.Pools.{enter, lowest, returned}
use Rattle.table.specs.Messages.{remove_at, send}
use Rattle.table.specs.Needs.{RoomFor}
use Rattle.table.specs.Parts.{moved, placed, priced, reserve, release, waiting, reserves, message, REQ, AUTH, DENIED, OBSOLETE, SCHEDULE, ACK, NOWORK}
use Rattle.table.specs.Parts.{RESULT, OPEN, PRICED}
use Rattle.table.proofs.Views.{Sized, views, job_same, job_other, flight_job, bond_messages}
use Rattle.handler_victim.specs.Victim.{no_work, grant, on_fish, on_auth, on_denied, on_obsolete}
use Rattle.handler_thief.specs.Thief.{on_schedule, on_no_work}
use Rattle.handler_root.specs.Root.{reply, on_req, on_ack, on_result}
use Rattle.handler.specs.Handler.{handle}
use Rattle.event_admit_deliver_die.specs.AdmitDeliverDie.{delivered}
use Rattle.theorem_invariant.proofs.State.{Prices, RightPrice, Received, Invariant}
use Rattle.theorem_invariant.proofs.Received.{received}
use Rattle.handler.proofs.Cases.{by_kind}
use Rattle.theorem_invariant.proofs.Flight.{Apart, sends, every_taken, takes}
use Rattle.theorem_invariant.proofs.Frame.{Frame, frame_refl, frame_job, frame_machine, frame_pool, frame_enter, frame_returned, job_enter}
use Rattle.theorem_invariant.proofs.About.{alive_reserve, alive_release, alive_waiting, kind_message}
use Rattle.dispatcher.proofs.Fixed.{fixed_bond, fixed_handle}

-- clause X of u and l, by the terms that s has
pub record PricesBy (s u : Table) (l : List Message) : Type 0 where
  pub sent : Every (RightPrice s) l
  pub shown : (j : ℕ) → j < 64 → (job_at u j).state ≡ PRICED → (job_at u j).price ≡ price_bits (bond_at s j)

-- u has the terms of s
pub prices_by : (s u : Table) (l : List Message) → ((j : ℕ) → bond_at u j ≡ bond_at s j) → PricesBy s u l → Prices u l
prices_by s u l e p = record {
  sent = every_map (RightPrice s) (RightPrice u) l (λ x f k. f k ∙ sym (ap price_bits (e x.job))) p.sent;
  shown = λ j h o. p.shown j h o ∙ sym (ap price_bits (e j));
}

pub by_prices : (s : Table) (l : List Message) → Prices s l → PricesBy s s l
by_prices s l p = record { sent = p.sent; shown = p.shown }

-- ---- by the terms of one table s
module _ (s : Table) where
  by_apart : Apart (PricesBy s)
  by_apart t n k l p = record { sent = p.sent; shown = simp views p.shown }

  -- a message that is no RESULT, or carries the right price, is sent
  pub by_send : (u : Table) (y : Message) → Sized u → RoomFor u y.to → RightPrice s y → PricesBy s u (flight u)
      → PricesBy s (send u y) (flight (send u y))
  by_send u y z room e p =
      sends (PricesBy s) by_apart u y z room
      (λ q. record { sent = every_append (RightPrice s) (flight u) y q.sent.1 q.sent.0; shown = q.shown })
      (λ d q. record { sent = q.sent.1; shown = q.shown })
      (record { sent = (e, p.sent); shown = p.shown })

  -- no job and no message is new
  pub by_frame : (u : Table) → Frame s u → ((j : ℕ) → job_at u j ≡ job_at s j) → PricesBy s s (flight s) → PricesBy s u (flight u)
  by_frame u f e p = record { sent = rw f.flight p.sent; shown = λ j h. rw (e j) (p.shown j h) }

  -- job i is v
  pub by_job : (i : ℕ) (v : Job) → Sized s → i < 64 → (v.state ≡ PRICED → v.price ≡ price_bits (bond_at s i)) → PricesBy s s (flight s)
      → PricesBy s (with_job s i v) (flight (with_job s i v))
  by_job i v z l e p = record {
    sent = rw (flight_job s i v) p.sent;
    shown = λ j h. by_eq j i (λ d. rw (d, job_same s z i v l) e) (λ d. rw (job_other s i j v d) (p.shown j h));
  }

module _ (s : Table) (x : Message) (h : Received s x) (p : PricesBy s s (flight s)) (r : RightPrice s x) where
  abbrev Right : Table → Type 0
  Right u = PricesBy s u (flight u)

  here : Frame s s
  here = frame_refl s h.sized

  -- a message of another kind than RESULT, from a table without new jobs
  sent : (u : Table) (k f o j r th : ℕ) → Frame s u → Right u → eqb k RESULT ≡ false → Right (send u (message k f o j r th))
  sent u k f o j r th g q n =
      by_send s u (message k f o j r th) g.sized (λ e. omega (arith, g.used, h.room))
      (λ e. absurd (eqb-false k RESULT n (sym (kind_message k f o j r th) ∙ e))) q

  -- machine b's record is new, over a table with the jobs of s
  sent_machine : (u : Table) (v : Machine) (k o j r th : ℕ) → Frame s u → ((i : ℕ) → job_at u i ≡ job_at s i) → v.alive ≡ (machine_at s x.to).alive
      → eqb k RESULT ≡ false
      → Right (send (with_machine u x.to v) (message k x.to o j r th))
  sent_machine u v k o j r th f e alive n =
      let g : Frame s (with_machine u x.to v) = frame_machine s u f x.to v alive in
      sent (with_machine u x.to v) k x.to o j r th g (by_frame s _ g (λ i. simp views (e i)) p) n

  refuses : (o : ℕ) → Right (no_work s x.to o)
  unfolding no_work
  refuses o = sent s NOWORK x.to o 0 0 0 here p refl

  right_fish : Right (on_fish s x)
  unfolding on_fish grant
  right_fish =
      let n = machine_at s x.to in
      let j = lowest s x.to in
      by_bool (not (eqb n.reserved_replica 0))
      (λ a. rw (a, on_fish) (refuses x.from))
      (λ a. by_bool (leb 64 j)
      (λ b. rw (a, b, on_fish) (refuses x.from))
      (λ b. rw (a, b, on_fish) (sent_machine (with_pool s x.to j 0) (reserve n j (pool_at s x.to j) x.from) REQ 0 j
      (pool_at s x.to j) x.from
      (frame_pool s s here x.to j 0) (λ i. simp views) (alive_reserve n j (pool_at s x.to j) x.from) refl)))

  right_reply : (u : Table) (k : ℕ) → Frame s u → Right u → eqb k RESULT ≡ false → Right (reply u x k)
  unfolding reply
  right_reply u k f q n = sent u k 0 x.from x.job x.replica x.thief f q n

  right_moved : Right (with_job s x.job (moved (job_at s x.job) x.from x.thief))
  unfolding moved
  right_moved = by_job s x.job _ h.sized h.message.job (p.shown x.job h.message.job) p

  right_req : Right (on_req s x)
  unfolding on_req
  right_req =
      by_bool (eqb (job_at s x.job).state PRICED || not (eqb (job_at s x.job).replica x.replica))
      (λ a. rw (a, on_req) (right_reply s OBSOLETE here p refl))
      (λ a. by_bool (not (eqb (told_at s 0 x.thief) 0) || not (eqb (job_at s x.job).moving 0))
      (λ b. rw (a, b, on_req) (right_reply s DENIED here p refl))
      (λ b. rw (a, b, on_req) (right_reply (with_job s x.job (moved (job_at s x.job) x.from x.thief)) AUTH (frame_job s s here x.job _)
      right_moved refl)))

  released : (k j r : ℕ) → eqb k RESULT ≡ false
      → Right (send (with_machine s x.to (release (machine_at s x.to))) (message k x.to x.thief j r 0))
  released k j r n = sent_machine s (release (machine_at s x.to)) k x.thief j r 0 here (λ i. refl) (alive_release (machine_at s x.to)) n

  right_auth : Right (on_auth s x)
  unfolding on_auth
  right_auth =
      by_bool (reserves (machine_at s x.to) x.job x.replica x.thief)
      (λ a. rw (a, on_auth) (released SCHEDULE x.job x.replica refl))
      (λ a. rw (a, on_auth) p)

  right_obsolete : Right (on_obsolete s x)
  unfolding on_obsolete no_work
  right_obsolete =
      by_bool (reserves (machine_at s x.to) x.job x.replica x.thief)
      (λ a. rw (a, on_obsolete) (released NOWORK 0 0 refl))
      (λ a. rw (a, on_obsolete) p)

  right_denied : Right (on_denied s x)
  unfolding on_denied no_work
  right_denied =
      let f : Frame s (returned s x.to) = frame_returned s x.to h.sized in
      by_bool (reserves (machine_at s x.to) x.job x.replica x.thief)
      (λ a. rw (a, on_denied) (sent (returned s x.to) NOWORK x.to x.thief 0 0 0 f
      (by_frame s _ f (unfold returned in λ i. simp (views, job_enter)) p) refl))
      (λ a. rw (a, on_denied) p)

  right_schedule : Right (on_schedule s x)
  unfolding on_schedule
  right_schedule =
      sent_machine (enter s x.to x.job x.replica) (waiting (machine_at s x.to) 0) ACK 0 x.job x.replica 0
      (frame_enter s s here x.to x.job x.replica) (λ i. job_enter s x.to x.job x.replica i)
      (alive_waiting (machine_at s x.to) 0) refl

  right_nowork : Right (on_no_work s x)
  unfolding on_no_work
  right_nowork =
      by_frame s _ (frame_machine s s here x.to (waiting (machine_at s x.to) 0) (alive_waiting (machine_at s x.to) 0)) (λ i. simp views) p

  right_ack : Right (on_ack s x)
  unfolding on_ack placed
  right_ack =
      by_bool (eqb (job_at s x.job).state OPEN && eqb (job_at s x.job).replica x.replica)
      (λ a. rw (a, on_ack) (by_job s x.job _ h.sized h.message.job (p.shown x.job h.message.job) p))
      (λ a. rw (a, on_ack) p)

  -- "an open job becomes priced with this price"
  right_result : x.kind ≡ RESULT → Right (on_result s x)
  unfolding on_result priced
  right_result k =
      by_bool (eqb (job_at s x.job).state OPEN)
      (λ a. rw (a, on_result) (by_job s x.job _ h.sized h.message.job (λ e. r k) p))
      (λ a. rw (a, on_result) p)

  right_handle : Right (handle s x)
  right_handle =
      by_kind (λ u. PricesBy s u (flight u)) s x (λ n. absurd (n h.message.kind_least h.message.kind_most))
      (λ e. right_fish) (λ e. right_req) (λ e. right_auth) (λ e. right_denied) (λ e. right_obsolete) (λ e. right_schedule) (λ e. right_ack)
      (λ e. right_nowork) right_result

pub prices_handle : (s : Table) (x : Message) → Received s x → Prices s (x ∷ flight s) → Prices (handle s x) (flight (handle s x))
prices_handle s x h p =
    let q : PricesBy s s (flight s) = record { sent = p.sent.1; shown = p.shown } in
    prices_by s (handle s x) (flight (handle s x)) (λ j. fixed_handle (λ t. bond_at t j) (fixed_bond j) s x) (right_handle s x h q p.sent.0)

prices_apart : Apart Prices
prices_apart t n k l p = prices_by t (with_messages t n k) l (λ j. bond_messages t n k j) (by_apart t t n k l (by_prices t l p))

pub prices_delivered : (t : Table) (k : ℕ) → Invariant t → k < t.in_flight → Prices (delivered t k) (flight (delivered t k))
unfolding delivered
prices_delivered t k w l =
    prices_handle (remove_at t k) (message_at t k) (received t k w l)
    (takes t k w.sized l Prices prices_apart
    (record { sent = every_taken t k w.sized l (RightPrice t) w.prices.sent; shown = w.prices.shown }))
