-- Clauses R, O, N, H and S through Notice: what a dead machine sent is dropped, the copy reserved for it returns, a wait on it ends, and the root
-- issues the affected jobs again.
-- Assumes nothing.
use mathlib.Core.Path.{◌≡◌, refl, ap, ◌∙◌}
use mathlib.Core.Logic.{◌≢◌}
use mathlib.Core.Bool.{true, not, ◌&&◌}
use mathlib.Core.List.{List}
use Prim.Native.Nat.{ℕ, suc, ◌+◌, ◌≤◌, ◌<◌}
use native.Mathlib.Omega.{arith}
use lib.Dec.{eqb}
use borrow.Author.Tests.{ne_eqb}
use Rattle.table.specs.declared.Job.{Job}
use Rattle.table.specs.declared.Message.{Message}
use Rattle.table.specs.declared.Table.{Table}
use Rattle.table.specs.Views.{job_at, machine_at, flight, with_job, with_machine}
use Rattle.table.specs.Messages.{keep_messages, not_from}
use Rattle.table.specs.Parts.{opened, waiting}
use Rattle.table.specs.Pools.{returned}
use Rattle.table.proofs.Views.{Sized, views, sized_job, job_other, pool_machine, alive_machine}
use Rattle.event_notice.specs.Notice.{informed, clear_wait, return_reserved, notice_local, affected, reissue_one, reissue, noticed}
use Rattle.event_notice.proofs.Cases.{Noticing}
use Rattle.protocol_preservation.proofs.Sizes.{sized_enter, sized_informed, sized_notice_local}
use Rattle.lists.specs.Scan.{filter}
use Rattle.lists.proofs.Cases.{by_bool}
use Rattle.lists.proofs.Keeps.{up_each}
use Rattle.theorem_invariant.proofs.Frame.{frame_returned, job_enter, entered}
use Rattle.theorem_invariant.proofs.About.{alive_waiting}
use Rattle.theorem_invariant.proofs.NoticeLocal.{flight_notice_local}
use Rattle.theorem_invariant.proofs.Reissued.{flight_reissue}
use Rattle.theorem_invariant.proofs.State.{Transfer, Invariant, machine_16}
use Rattle.theorem_invariant.proofs.TransferLaws.{dead_is, Places, places}
use Rattle.theorem_invariant.proofs.TransferSend.{transfer_same, transfer_table}
use Rattle.theorem_invariant.proofs.TransferCopies.{has_waiting, has_returned, pools_returned}
use Rattle.theorem_invariant.proofs.TransferJob.{transfer_issued}
use Rattle.theorem_invariant.proofs.TransferWithout.{transfer_without}
use Rattle.theorem_invariant.proofs.TransferAnswers.{TransferNow}

-- ---- the copy reserved for the dead thief returns to the pool
transfer_return_reserved : (t : Table) (a b : ℕ) (l : List Message) → Sized t → a < 16 → Places t
    → (machine_at t a).reserved_job < 64 → (machine_at t a).reserved_replica ≤ (job_at t (machine_at t a).reserved_job).replica → Transfer t l
    → Transfer (return_reserved t a b) l
unfolding return_reserved
transfer_return_reserved t a b l z al ps hj hr i =
    by_bool (not (eqb (machine_at t a).reserved_replica 0) && eqb (machine_at t a).reserved_thief b)
    (λ e. rw (e, return_reserved)
    (transfer_table t (returned t a) l ps (λ j. unfold returned in simp (views, entered)) (frame_returned t a z).alive
    (pools_returned t a z al hj hr i.pools)
    (λ j p jl pl o. has_returned t a z al hj hr i.pools j p jl) i))
    (λ e. rw (e, return_reserved) i)

-- ---- a wait ends
transfer_clear_wait : (t : Table) (a b : ℕ) (l : List Message) → Places t → Transfer t l → Transfer (clear_wait t a b) l
unfolding clear_wait
transfer_clear_wait t a b l ps i =
    let n = machine_at t a in
    by_bool (eqb n.waits (b + 1))
    (λ e. rw (e, clear_wait)
    (transfer_table t (with_machine t a (waiting n 0)) l ps (λ j. simp views) (alive_machine t a (waiting n 0) (alive_waiting n 0))
    (λ m j ml jl. rw pool_machine (i.pools m j ml jl))
    (λ j p jl pl o. omega (arith, has_waiting t a p j (job_at t j).replica 0 n refl)) i))
    (λ e. rw (e, clear_wait) i)

-- ---- what every machine does that is told
not_from_lem : (b a : ℕ) (x : Message) → x.from ≢ b → not_from b a x ≡ true
not_from_lem b a x e = rw (ne_eqb x.from b e)

job_return_reserved : (t : Table) (a b j : ℕ) → job_at (return_reserved t a b) j ≡ job_at t j
unfolding return_reserved returned
job_return_reserved t a b j = by_bool (not (eqb (machine_at t a).reserved_replica 0) && eqb (machine_at t a).reserved_thief b)
    (λ e. rw (e, return_reserved) (simp (views, entered))) (λ e. rw (e, return_reserved))

module _ (t : Table) (a b : ℕ) (w : Invariant t) (al : a < 16) (gone : (machine_at t b).alive ≢ 1) where
  not_root : b ≢ 0
  not_root e = gone (rw e w.facts.root)

  transfer_notice_local : Transfer (notice_local t a b) (filter (not_from b a) (flight t))
  unfolding notice_local informed keep_messages
  transfer_notice_local =
      let l = filter (not_from b a) (flight t) in
      let i = informed t a b in
      let r = return_reserved i a b in
      let iz : Sized i = sized_informed t w.sized a b in
      let ji : (j : ℕ) → job_at i j ≡ job_at t j = λ j. simp views in
      let ni : machine_at i a ≡ machine_at t a = simp views in
      let ps : Places t = places t w.facts in
      let pi : Places i = λ j jl. rw (ji j) (ps j jl) in
      let pr : Places r = λ j jl. rw (job_return_reserved i a b j) (pi j jl) in
      let dropped : Transfer t l =
      transfer_without t t b (not_from b a) w not_root (λ j. refl) (dead_is t b gone)
      (λ m e. refl) (λ m j jl e. refl) (λ j bl jl. w.transfer.pools b j bl jl) (λ x f o. not_from_lem b a x f) in
      let told : Transfer i l = transfer_same t i ji (λ k. simp views) (λ m j. simp views) l dropped in
      let back : Transfer r l = transfer_return_reserved i a b l iz al pi (rw ni (w.facts.machine a al).reserved_job)
      (rw ni (rw (ji (machine_at t a).reserved_job) (w.untold.copies a al).reserved)) told in
      transfer_clear_wait r a b l pr back

-- ---- the root issues the affected jobs again, one after the other; t is the table before the first
module _ (t : Table) (b : ℕ) (z : Sized t) (l : List Message) (g : Transfer t l) where
  -- after n turns
  record Turn (n : ℕ) (u : Table) : Type 0 where
    sized : Sized u
    later : (k : ℕ) → n ≤ k → job_at u k ≡ job_at t k
    transfer : Transfer u l

  one : (n : ℕ) (u : Table) → n < 64 → Turn n u → Turn (suc n) (reissue_one (job_at t n) b n u)
  unfolding reissue_one
  one n u h s =
      let r = (job_at t n).replica + 1 in
      let own : (job_at u n).replica ≡ (job_at t n).replica = ap (λ (v : Job). v.replica) (s.later n (omega arith)) in
      by_bool (affected (job_at t n) b)
      (λ e. rw (e, reissue_one) (record {
        sized = sized_enter (with_job u n (opened r)) 0 n r (sized_job u n (opened r) s.sized);
        later = λ k kl. job_enter (with_job u n (opened r)) 0 n r k ∙ job_other u n k (opened r) (λ f. omega arith) ∙ s.later k (omega arith);
        transfer = transfer_issued u n r h s.sized (omega arith) l s.transfer;
      }))
      (λ e. rw (e, reissue_one) (record { sized = s.sized; later = λ k kl. s.later k (omega arith); transfer = s.transfer }))

  transfer_reissue : Transfer (reissue t b) l
  unfolding reissue
  transfer_reissue = (up_each (λ j u. reissue_one (job_at t j) b j u) Turn 64 one t (record { sized = z; later = λ k kl. refl; transfer = g })).transfer

pub transfer_noticed : (t : Table) → Invariant t → (a b : ℕ) → Noticing t a b → TransferNow (noticed t a b)
unfolding noticed
transfer_noticed t w a b n =
    let q = notice_local t a b in
    let g : Transfer q (flight q) = rw (flight_notice_local t a b) (transfer_notice_local t a b w (machine_16 t w a n.machine) n.dead) in
    by_bool (eqb a 0)
    (λ e. rw (e, noticed) (rw (flight_reissue q b) (transfer_reissue q b (sized_notice_local t w.sized a b) (flight q) g)))
    (λ e. rw (e, noticed) g)
