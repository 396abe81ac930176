-- Clause C through Admit, Steal, Start and Done: no reserved copy changes, and what is sent is about none.
-- Assumes nothing.
use mathlib.Core.Path.{◌≡◌, refl}
use Prim.Native.Nat.{ℕ, ◌+◌}
use Rattle.pricer.specs.Price.{price_bits}
use Rattle.table.specs.declared.Machine.{Machine}
use Rattle.table.specs.declared.Table.{Table}
use Rattle.table.specs.Views.{bond_at, machine_at, pool_at, flight, with_job, with_machine, with_pool}
use Rattle.table.specs.Pools.{enter}
use Rattle.table.specs.Parts.{opened, reserves, running, waiting, message, result, FISH}
use Rattle.table.proofs.Views.{views, machine_pool}
use Rattle.event_admit_deliver_die.specs.AdmitDeliverDie.{admitted}
use Rattle.event_steal.specs.Steal.{stolen}
use Rattle.event_steal.proofs.Cases.{Stealing}
use Rattle.event_start_done.specs.StartDone.{started, finished}
use Rattle.event_start_done.proofs.Cases.{Finishing}
use Rattle.theorem_invariant.proofs.State.{ReservationMatched, Invariant, is_answer}
use Rattle.theorem_invariant.proofs.Frame.{Frame, frame_refl, frame_job, frame_pool, frame_machine, frame_enter, part_kept, machine_enter}
use Rattle.theorem_invariant.proofs.About.{plain, reserves_running, reserves_waiting, alive_running, alive_waiting}
use Rattle.theorem_invariant.proofs.ReservationFrame.{SameReserved, reservation_plain, reservation_unsent}

module _ (t : Table) (w : Invariant t) where
  here : Frame t t
  here = frame_refl t w.sized

  pub reservation_admitted : (a : ℕ) → ReservationMatched (admitted t a) (flight (admitted t a))
  unfolding admitted
  reservation_admitted a =
      let u = with_job t a (opened 1) in
      reservation_unsent t (enter u 0 a 1) (frame_enter t u (frame_job t t here a (opened 1)) 0 a 1) (λ m j q th. simp (machine_enter, views))
      w.reservation

  -- machine a's new record v has the reserved copy of the old one
  same_machine : (a : ℕ) (v : Machine) → ((j q th : ℕ) → reserves v j q th ≡ reserves (machine_at t a) j q th) → SameReserved t (with_machine t a v)
  same_machine a v e m j q th = part_kept (λ n. reserves n j q th) t t a v (λ k. refl) (e j q th) m

  pub reservation_stolen : (a b : ℕ) → Stealing t a b → ReservationMatched (stolen t a b) (flight (stolen t a b))
  unfolding stolen message
  reservation_stolen a b d =
      let n = machine_at t a in
      let v = waiting n (b + 1) in
      reservation_plain t (with_machine t a v) (message FISH a b 0 0 0) (frame_machine t t here a v (alive_waiting n (b + 1)))
      (same_machine a v (λ j q th. reserves_waiting n (b + 1) j q th)) d.room
      w.facts.root (unfold plain is_answer message in refl) w.reservation

  pub reservation_started : (a b : ℕ) → ReservationMatched (started t a b) (flight (started t a b))
  unfolding started
  reservation_started a b =
      let n = machine_at t a in
      let v = running n b (pool_at t a b) in
      let p = with_pool t a b 0 in
      let f : Frame t p = frame_pool t t here a b 0 in
      reservation_unsent t (with_machine p a v) (frame_machine t p f a v (alive_running n b (pool_at t a b)))
      (λ m j q th. part_kept (λ n. reserves n j q th) t p a v (λ k. rw (machine_pool t a b 0 k))
      (reserves_running n b (pool_at t a b) j q th) m) w.reservation

  pub reservation_finished : (a : ℕ) → Finishing t a → ReservationMatched (finished t a) (flight (finished t a))
  unfolding finished
  reservation_finished a d =
      let n = machine_at t a in
      let v = running n 0 0 in
      let y = result a n.running_job n.running_replica (price_bits (bond_at t n.running_job)) in
      reservation_plain t (with_machine t a v) y (frame_machine t t here a v (alive_running n 0 0))
      (same_machine a v (λ j q th. reserves_running n 0 0 j q th)) (λ e. d.room)
      w.facts.root (unfold plain is_answer result in refl) w.reservation
