-- Clauses D1, F, D2, R (reserved and running copies) and P through Admit, Steal, Start, Done and Die.
-- Assumes nothing.
use mathlib.Core.Path.{◌≡◌, refl, sym, ◌∙◌}
use mathlib.Core.Logic.{◌≢◌}
use mathlib.Core.Bool.{true, false, true≢false}
use mathlib.Core.List.{List, ◌∷◌}
use Prim.Native.Nat.{ℕ, ◌+◌, ◌<◌}
use native.Mathlib.Omega.{arith}
use Rattle.pricer.specs.Price.{price_bits}
use Rattle.lists.specs.Scan.{filter}
use Rattle.lists.proofs.Count.{Every, every_map, every_filter}
use Rattle.table.specs.declared.Machine.{Machine}
use Rattle.table.specs.declared.Message.{Message}
use Rattle.table.specs.declared.Table.{Table}
use Rattle.table.specs.Views.{no_machine, bond_at, job_at, machine_at, pool_at, flight, with_job, with_machine, with_pool}
use Rattle.table.specs.Pools.{enter}
use Rattle.table.specs.Messages.{not_to, send}
use Rattle.table.specs.Needs.{RoomFor}
use Rattle.table.specs.Parts.{opened, running, waiting, message, result, FISH}
use Rattle.table.proofs.Views.{views, machine_same, machine_other, machine_pool, flight_job}
use Rattle.event_admit_deliver_die.specs.AdmitDeliverDie.{admitted, died}
use Rattle.event_admit_deliver_die.proofs.Cases.{Admitting, Dying}
use Rattle.event_steal.specs.Steal.{stolen}
use Rattle.event_steal.proofs.Cases.{Stealing}
use Rattle.event_start_done.specs.StartDone.{started, finished}
use Rattle.event_start_done.proofs.Cases.{Starting, Finishing}
use Rattle.theorem_invariant.proofs.State.{Untold, Sender, Copies, Placed, Invariant, machine_16, entry_64, is_answer}
use Rattle.theorem_invariant.proofs.Frame.{Frame, frame_refl, frame_machine, frame_pool, frame_room, machine_enter, job_enter, told_enter}
use Rattle.theorem_invariant.proofs.Frame.{flight_enter}
use Rattle.theorem_invariant.proofs.About.{alive_running, alive_waiting}
use Rattle.event_admit_deliver_die.proofs.Views.{job_died, told_died, flight_died, machine_died, machine_died_other}
use Rattle.theorem_invariant.proofs.UntoldFrame.{untold_machine, untold_job, untold_sends, copies_waiting, copies_running, copies_idle}
use Rattle.theorem_invariant.proofs.UntoldFrame.{living_untold, sender_message}

module _ (t : Table) (w : Invariant t) where
  here : Frame t t
  here = frame_refl t w.sized

  -- machine a's record is v, over a table u that differs from t in pools and in that record
  module _ (u : Table) (a : ℕ) (v : Machine) (f : Frame t u) (jobs : (j : ℕ) → job_at u j ≡ job_at t j)
      (own : machine_at u a ≡ v) (other : (m : ℕ) → m ≢ a → machine_at u m ≡ machine_at t m) (c : Copies t a v) where
    stays : (k : List Message) → Every (Sender t) k → Untold u k
    stays k e = untold_machine t u (flight t) k a v f.told jobs own other c e w.untold

    sent : (y : Message) → RoomFor t y.to → Sender t y → Untold (send u y) (flight (send u y))
    sent y room e = untold_sends u y f.sized (frame_room t u f y.to room) (rw f.flight (stays (y ∷ flight t) (e, w.untold.sender)))

  pub untold_stolen : (a b : ℕ) → Stealing t a b → Untold (stolen t a b) (flight (stolen t a b))
  unfolding stolen message
  untold_stolen a b d =
      let al = machine_16 t w a d.machine in
      let n = machine_at t a in
      let v = waiting n (b + 1) in
      sent (with_machine t a v) a v (frame_machine t t here a v (alive_waiting n (b + 1))) (λ j. simp views)
      (machine_same t w.sized a v al) (λ m e. machine_other t a m v e) (copies_waiting t a n (b + 1) (w.untold.copies a al))
      (message FISH a b 0 0 0) d.room
      (sender_message t FISH a b 0 0 0 (λ e. absurd (true≢false (sym e ∙ unfold is_answer in refl)))
      (living_untold t w.facts b a (machine_16 t w b d.victim) al d.alive))

  pub untold_started : (a b : ℕ) → Starting t a b → Untold (started t a b) (flight (started t a b))
  unfolding started
  untold_started a b d =
      let al = machine_16 t w a d.machine in
      let n = machine_at t a in
      let r = pool_at t a b in
      let v = running n b r in
      let p = with_pool t a b 0 in
      let f : Frame t p = frame_pool t t here a b 0 in
      let g : Frame t (with_machine p a v) = frame_machine t p f a v (alive_running n b r) in
      rw g.flight (stays (with_machine p a v) a v g (λ j. simp views) (machine_same p f.sized a v al)
      (λ m e. machine_other p a m v e ∙ machine_pool t a b 0 m)
      (copies_running t a n b r (w.transfer.pools a b al (entry_64 t w b d.entry)) (w.untold.copies a al)) (flight t) w.untold.sender)

  sender_result : (a j r bits : ℕ) → a < 16 → (machine_at t a).alive ≡ 1 → Sender t (result a j r bits)
  unfolding result is_answer
  sender_result a j r bits al alive =
      record { root = λ (e : false ≡ true). absurd (true≢false (sym e)); untold = living_untold t w.facts 0 a (omega arith) al alive }

  pub untold_finished : (a : ℕ) → Finishing t a → Untold (finished t a) (flight (finished t a))
  unfolding finished
  untold_finished a d =
      let al = machine_16 t w a d.machine in
      let n = machine_at t a in
      let bits = price_bits (bond_at t n.running_job) in
      let v = running n 0 0 in
      sent (with_machine t a v) a v (frame_machine t t here a v (alive_running n 0 0)) (λ j. simp views)
      (machine_same t w.sized a v al) (λ m e. machine_other t a m v e) (copies_running t a n 0 0 (omega arith) (w.untold.copies a al))
      (result a n.running_job n.running_replica bits) (λ e. d.room)
      (sender_result a n.running_job n.running_replica bits al d.alive)

  pub untold_died : (a : ℕ) → Dying t a → Untold (died t a) (flight (died t a))
  untold_died a d =
      let k = filter (not_to a) (flight t) in
      let f : Every (Sender t) k =
      every_map (λ x. Sender t x × (not_to a x ≡ true)) (Sender t) k (λ x e. e.0)
      (every_filter (Sender t) (not_to a) (flight t) w.untold.sender) in
      rw (flight_died t a) (untold_machine t (died t a) (flight t) k a no_machine (told_died t a) (job_died t a)
      (machine_died t a w.sized (machine_16 t w a d.machine)) (machine_died_other t a) (copies_idle t a 0) f w.untold)

  placed_opened : (r : ℕ) → Placed t (opened r)
  unfolding opened
  placed_opened r =
      record {
        holder = λ e. living_untold t w.facts 0 0 (omega arith) (omega arith) w.facts.root;
        thief = λ e (f : ◌≡◌ {A = ℕ} 0 1). absurd (omega arith);
      }

  -- the job was not admitted: its replica number was 0
  pub untold_admitted : (a : ℕ) → Admitting t a → Untold (admitted t a) (flight (admitted t a))
  unfolding admitted
  untold_admitted a d =
      let al = entry_64 t w a d.entry in
      let u = with_job t a (opened 1) in
      let e : (job_at t a).replica ≡ 0 = rw ((w.facts.job a al).none d.new) in
      let s : Untold u (flight t) =
      untold_job t (flight t) (flight t) a (opened 1) w.sized al (omega arith) (placed_opened 1) w.untold.sender w.untold in
      simp (flight_enter, flight_job)
      (untold_machine u (enter u 0 a 1) (flight t) (flight t) 0 (machine_at u 0) (λ m d. told_enter u 0 a 1 m d) (λ j. job_enter u 0 a 1 j)
      (machine_enter u 0 a 1 0) (λ m d. machine_enter u 0 a 1 m)
      (s.copies 0 (omega arith)) s.sender s)
