-- Clause X through Admit, Steal, Start, Done, Die and Notice: only Done sends a RESULT, with the price of the running job's terms.
-- Assumes nothing.
use mathlib.Core.Path.{◌≡◌, refl}
use mathlib.Core.Bool.{Bool, true}
use Prim.Native.Nat.{ℕ, ◌+◌}
use native.Mathlib.Omega.{arith}
use lib.Dec.{eqb}
use Rattle.pricer.specs.Price.{price_bits}
use Rattle.lists.specs.Scan.{filter}
use Rattle.lists.proofs.Cases.{by_bool}
use Rattle.lists.proofs.Count.{Every, every_map, every_filter}
use Rattle.table.specs.declared.Job.{Job}
use Rattle.table.specs.declared.Machine.{Machine}
use Rattle.table.specs.declared.Message.{Message}
use Rattle.table.specs.declared.Table.{Table}
use Rattle.table.specs.Views.{bond_at, job_at, machine_at, pool_at, flight, with_job, with_machine, with_pool}
use Rattle.table.specs.Messages.{not_to, not_from, send}
use Rattle.table.specs.Needs.{RoomFor}
use Rattle.table.specs.Parts.{opened, running, message, result, PRICED}
use Rattle.table.proofs.Views.{views}
use Rattle.event_admit_deliver_die.specs.AdmitDeliverDie.{admitted, died}
use Rattle.event_admit_deliver_die.proofs.Cases.{Admitting}
use Rattle.event_steal.specs.Steal.{stolen}
use Rattle.event_steal.proofs.Cases.{Stealing}
use Rattle.event_start_done.specs.StartDone.{started, finished}
use Rattle.event_start_done.proofs.Cases.{Finishing}
use Rattle.event_notice.specs.Notice.{affected, notice_local, noticed}
use Rattle.protocol_preservation.proofs.Sizes.{sized_notice_local}
use Rattle.theorem_invariant.proofs.State.{Prices, RightPrice, Invariant, entry_64}
use Rattle.theorem_invariant.proofs.Frame.{Frame, frame_refl, frame_machine, frame_pool, frame_room, flight_enter, job_enter}
use Rattle.theorem_invariant.proofs.About.{alive_running, alive_waiting}
use Rattle.event_admit_deliver_die.proofs.Views.{job_died, flight_died}
use Rattle.event_notice.proofs.Parts.{job_notice_local}
use Rattle.theorem_invariant.proofs.NoticeLocal.{flight_notice_local}
use Rattle.theorem_invariant.proofs.Reissued.{reissued_job, job_reissue, flight_reissue}
use Rattle.dispatcher.proofs.Fixed.{fixed_bond, fixed_admitted, fixed_stolen, fixed_started, fixed_finished, fixed_died, fixed_noticed}
use Rattle.theorem_invariant.proofs.PricesHandle.{PricesBy, prices_by, by_prices, by_send, by_frame, by_job}

-- a RESULT with the price of its job's terms
right_result : (t : Table) (a j r : ℕ) → RightPrice t (result a j r (price_bits (bond_at t j)))
unfolding result
right_result t a j r k = refl

-- an open job shows no price
open_unpriced : (r bits : ℕ) → (opened r).state ≡ PRICED → (opened r).price ≡ bits
unfolding opened
open_unpriced r bits = λ (e : ◌≡◌ {A = ℕ} 1 2). absurd (omega arith)

-- a job that was issued again shows no price, any other the one it had
reissued_price : (v : Job) (b bits : ℕ) → (v.state ≡ PRICED → v.price ≡ bits) → (reissued_job v b).state ≡ PRICED → (reissued_job v b).price ≡ bits
unfolding reissued_job
reissued_price v b bits p = by_bool (affected v b) (λ e. rw e (open_unpriced (v.replica + 1) bits)) (λ e. rw e p)

module _ (t : Table) (w : Invariant t) where
  here : Frame t t
  here = frame_refl t w.sized

  p : PricesBy t t (flight t)
  p = by_prices t (flight t) w.prices

  pub prices_admitted : (a : ℕ) → Admitting t a → Prices (admitted t a) (flight (admitted t a))
  unfolding admitted
  prices_admitted a d =
      let u = with_job t a (opened 1) in
      let q : PricesBy t u (flight u) = by_job t a (opened 1) w.sized (entry_64 t w a d.entry) (open_unpriced 1 (price_bits (bond_at t a))) p in
      prices_by t _ _ (λ j. fixed_admitted (λ u. bond_at u j) (fixed_bond j) t a)
      (record { sent = rw (flight_enter u 0 a 1) q.sent; shown = λ j h. rw (job_enter u 0 a 1 j) (q.shown j h) })

  -- machine a's record is new, and y is sent
  sent_machine : (a : ℕ) (v : Machine) (y : Message) → RoomFor t y.to → v.alive ≡ (machine_at t a).alive → RightPrice t y
      → PricesBy t (send (with_machine t a v) y) (flight (send (with_machine t a v) y))
  sent_machine a v y room alive e =
      let f : Frame t (with_machine t a v) = frame_machine t t here a v alive in
      by_send t (with_machine t a v) y f.sized (frame_room t _ f y.to room) e (by_frame t _ f (λ j. simp views) p)

  pub prices_stolen : (a b : ℕ) → Stealing t a b → Prices (stolen t a b) (flight (stolen t a b))
  unfolding stolen message
  prices_stolen a b d =
      prices_by t _ _ (λ j. fixed_stolen (λ u. bond_at u j) (fixed_bond j) t a b)
      (sent_machine a _ _ d.room (alive_waiting (machine_at t a) (b + 1)) (λ (e : ◌≡◌ {A = ℕ} 1 9). absurd (omega arith)))

  pub prices_started : (a b : ℕ) → Prices (started t a b) (flight (started t a b))
  unfolding started
  prices_started a b =
      let u = with_pool t a b 0 in
      let v = running (machine_at t a) b (pool_at t a b) in
      prices_by t _ _ (λ j. fixed_started (λ u. bond_at u j) (fixed_bond j) t a b)
      (by_frame t (with_machine u a v) (frame_machine t u (frame_pool t t here a b 0) a v (alive_running (machine_at t a) b (pool_at t a b)))
      (λ j. simp views) p)

  pub prices_finished : (a : ℕ) → Finishing t a → Prices (finished t a) (flight (finished t a))
  unfolding finished
  prices_finished a d =
      let n = machine_at t a in
      prices_by t _ _ (λ j. fixed_finished (λ u. bond_at u j) (fixed_bond j) t a)
      (sent_machine a (running n 0 0) _ (λ e. d.room) (alive_running n 0 0) (right_result t a n.running_job n.running_replica))

  -- some of the messages are dropped
  fewer : (q : Message → Bool) → Every (RightPrice t) (filter q (flight t))
  fewer q = every_map (λ x. RightPrice t x × (q x ≡ true)) (RightPrice t) (filter q (flight t)) (λ x e. e.0)
      (every_filter (RightPrice t) q (flight t) p.sent)

  pub prices_died : (a : ℕ) → Prices (died t a) (flight (died t a))
  prices_died a =
      prices_by t (died t a) _ (λ j. fixed_died (λ u. bond_at u j) (fixed_bond j) t a)
      (record { sent = rw (flight_died t a) (fewer (not_to a)); shown = λ j h. rw (job_died t a j) (p.shown j h) })

  prices_notice_local : (a b : ℕ) → PricesBy t (notice_local t a b) (flight (notice_local t a b))
  prices_notice_local a b =
      record { sent = rw (flight_notice_local t a b) (fewer (not_from b a)); shown = λ j h. rw (job_notice_local t a b j) (p.shown j h) }

  pub prices_noticed : (a b : ℕ) → Prices (noticed t a b) (flight (noticed t a b))
  unfolding noticed
  prices_noticed a b =
      let s = notice_local t a b in
      let q = prices_notice_local a b in
      prices_by t _ _ (λ j. fixed_noticed (λ u. bond_at u j) (fixed_bond j) t a b)
      (by_bool (eqb a 0)
      (λ e. rw (e, noticed) (record {
        sent = rw (flight_reissue s b) q.sent;
        shown = λ j h. rw (job_reissue s b (sized_notice_local t w.sized a b) j h)
            (reissued_price (job_at s j) b (price_bits (bond_at t j)) (q.shown j h));
      }))
      (λ e. rw (e, noticed) q))
