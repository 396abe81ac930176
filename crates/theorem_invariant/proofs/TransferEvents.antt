-- Clauses R, O, N, H and S through Admit, Steal, Start and Done.
-- Assumes nothing.
use mathlib.Core.Path.{◌≡◌, refl, ap}
use mathlib.Core.Bool.{true, false, not, ◌&&◌, false≢true}
use Prim.Native.Nat.{ℕ, ◌+◌, ◌≤◌, ◌<◌, min}
use native.Mathlib.Omega.{arith}
use lib.Dec.{eqb}
use borrow.Author.Tests.{eq-eqb}
use Rattle.pricer.specs.Price.{price_bits}
use Rattle.validity_message.specs.Message.{to_root}
use Rattle.table.specs.declared.Job.{Job}
use Rattle.table.specs.declared.Machine.{Machine}
use Rattle.table.specs.declared.Message.{Message}
use Rattle.table.specs.declared.Table.{Table}
use Rattle.table.specs.Views.{no_message, bond_at, job_at, machine_at, pool_at, flight, with_machine, with_pool}
use Rattle.table.specs.Messages.{send}
use Rattle.table.specs.Needs.{RoomFor}
use Rattle.table.specs.Parts.{running, waiting, message, result, FISH, ACK, RESULT}
use Rattle.table.proofs.Views.{views, pool_machine, flight_machine, flight_pool}
use Rattle.event_admit_deliver_die.specs.AdmitDeliverDie.{admitted}
use Rattle.event_admit_deliver_die.proofs.Cases.{Admitting}
use Rattle.event_steal.specs.Steal.{stolen}
use Rattle.event_steal.proofs.Cases.{Stealing}
use Rattle.event_start_done.specs.StartDone.{started, finished}
use Rattle.event_start_done.proofs.Cases.{Starting, Finishing}
use Rattle.lists.proofs.Cases.{by_bool, by_eq, and_left, and_right}
use Rattle.lists.proofs.Count.{ind}
use Rattle.theorem_invariant.proofs.Frame.{Frame, frame_refl, frame_machine, frame_pool, entered}
use Rattle.theorem_invariant.proofs.About.{alive_waiting, alive_running}
use Rattle.theorem_invariant.proofs.State.{Known, Invariant, machine_16, entry_64, is_transfer, result_from, reserves_job, runs_job, has}
use Rattle.theorem_invariant.proofs.TransferLaws.{known_plain, places}
use Rattle.theorem_invariant.proofs.TransferFrame.{transfer_nothing}
use Rattle.theorem_invariant.proofs.TransferSend.{transfer_sends, transfer_swap, transfer_table}
use Rattle.theorem_invariant.proofs.TransferCopies.{has_machine, has_machine_other, has_waiting, has_taken, runs_taken, runs_job_none}
use Rattle.theorem_invariant.proofs.TransferCopies.{pools_emptied}
use Rattle.theorem_invariant.proofs.TransferJob.{transfer_issued}
use Rattle.theorem_invariant.proofs.TransferAnswers.{TransferNow}

-- ---- Admit: a job is issued for the first time
pub transfer_admitted : (t : Table) → Invariant t → (a : ℕ) → Admitting t a → TransferNow (admitted t a)
unfolding admitted
transfer_admitted t w a d =
    let al = entry_64 t w a d.entry in
    let none : (job_at t a).replica ≡ 0 = ap (λ (v : Job). v.replica) ((w.facts.job a al).none d.new) in
    simp (entered, views) (transfer_issued t a 1 al w.sized (omega arith) (flight t) w.transfer)

-- ---- a machine's record is replaced by one that is as alive, and a message is sent that counts for no move
module _ (t : Table) (a : ℕ) (n : Machine) (y : Message) (c : ℕ) (w : Invariant t) (room : RoomFor t y.to)
    (na : n.alive ≡ (machine_at t a).alive) (ey : y.kind ≡ c) (tc : is_transfer c ≡ false) (ac : eqb c ACK ≡ false) (home : to_root y.kind ≡ true
    → y.to ≡ 0) (ky : Known t y)
    (kept : (j : ℕ) → j < 64
    → min 1 (has t j (job_at t j).replica a) ≤ has (with_machine t a n) j (job_at t j).replica a + ind (result_from j a y)) where
  transfer_sent : TransferNow (send (with_machine t a n) y)
  transfer_sent =
      let u = with_machine t a n in
      let f : Frame t u = frame_machine t t (frame_refl t w.sized) a n na in
      transfer_sends t u y f room w.facts.root home
      (transfer_swap t u no_message y (flight t) 0 c refl ey (unfold is_transfer in refl) tc refl ac (places t w.facts) (λ j. simp views) f.alive
      (λ m j ml jl. rw pool_machine (w.transfer.pools m j ml jl)) ky
      (λ j p jl pl o. by_eq p a
      (λ e. rw e (omega (arith, kept j jl)))
      (λ e. omega (arith, has_machine_other t a p n j (job_at t j).replica e)))
      (transfer_nothing t (flight t) w.transfer))

-- ---- Steal
pub transfer_stolen : (t : Table) → Invariant t → (a b : ℕ) → Stealing t a b → TransferNow (stolen t a b)
unfolding stolen message
transfer_stolen t w a b d =
    let n = machine_at t a in
    let y = message FISH a b 0 0 0 in
    transfer_sent t a (waiting n (b + 1)) y FISH w d.room (alive_waiting n (b + 1))
    (unfold message in refl) (unfold is_transfer in refl) refl (unfold message in λ e. absurd (false≢true e))
    (known_plain t y FISH (unfold message in refl) (unfold is_transfer in refl) refl (unfold message in omega arith))
    (λ j jl. omega (arith, has_waiting t a a j (job_at t j).replica (b + 1) n refl))

-- ---- Done: the running copy goes, and its RESULT is on its way
runs_result : (n : Machine) (a v j r : ℕ) → ind (runs_job n j r) ≤ ind (result_from j a (result a n.running_job n.running_replica v))
unfolding runs_job result_from result
runs_result n a v j r =
    let some = not (eqb n.running_replica 0) in
    by_bool (some && (eqb n.running_job j && eqb n.running_replica r))
    (λ e.
    let f : eqb n.running_job j ≡ true = and_left (eqb n.running_job j) (eqb n.running_replica r)
    (and_right some (eqb n.running_job j && eqb n.running_replica r) e) in
    rw (e, eq-eqb a a refl, f) (omega arith))
    (λ e. rw e (omega arith))

pub transfer_finished : (t : Table) → Invariant t → (a : ℕ) → Finishing t a → TransferNow (finished t a)
unfolding finished
transfer_finished t w a d =
    let al = machine_16 t w a d.machine in
    let n = machine_at t a in
    let y = result a n.running_job n.running_replica (price_bits (bond_at t n.running_job)) in
    transfer_sent t a (running n 0 0) y RESULT w (λ e. d.room) (alive_running n 0 0)
    (unfold result in refl) (unfold is_transfer in refl) refl (unfold result in λ e. refl)
    (known_plain t y RESULT (unfold result in refl) (unfold is_transfer in refl) refl (unfold result in (w.untold.copies a al).running))
    (λ j jl.
    let r = (job_at t j).replica in
    let res : reserves_job (running n 0 0) j r ≡ reserves_job n j r = unfold reserves_job running in refl in
    omega (
      arith,
      has_machine t a (running n 0 0) j r w.sized al (alive_running n 0 0),
      ap ind res,
      runs_result n a (price_bits (bond_at t n.running_job)) j r,
    ))

-- ---- Start: from the pool to running
pub transfer_started : (t : Table) → Invariant t → (a b : ℕ) → Starting t a b → TransferNow (started t a b)
unfolding started
transfer_started t w a b d =
    let al = machine_16 t w a d.machine in
    let bl = entry_64 t w b d.entry in
    let n = machine_at t a in
    let r₀ = pool_at t a b in
    let v = running n b r₀ in
    let q = with_pool t a b 0 in
    let u = with_machine q a v in
    let f : Frame t u = frame_machine t q (frame_pool t t (frame_refl t w.sized) a b 0) a v (alive_running n b r₀) in
    simp (flight_machine, flight_pool)
    (transfer_table t u (flight t) (places t w.facts) (λ j. simp views) f.alive
    (λ m j ml jl. rw pool_machine (pools_emptied t a b w.sized al bl w.transfer.pools m j ml jl))
    (λ j p jl pl o.
    let r = (job_at t j).replica in
    let r1 : 1 ≤ r = (w.facts.job j jl).some (λ e. omega arith) in
    omega (arith, has_taken t a b v j r p w.sized al bl jl r1 (alive_running n b r₀) (runs_taken n b r₀ j r r1 (runs_job_none n j r d.idle))))
    w.transfer)
