-- Check 9 through the nine handlers: the laws of proofs/Updates.antt in the order of each definition.
-- Assumes nothing.
use Prim.Native.Nat.{ℕ, ◌≤◌, ◌<◌, max}
use mathlib.Core.Path.{◌≡◌, refl, sym}
use mathlib.Core.Logic.{◌≢◌}
use mathlib.Core.Bool.{Bool, true, false, not, ◌&&◌, ◌||◌, false≢true}
use native.Mathlib.Omega.{arith}
use borrow.Author.Tests.{eqb-true, eqb-false, leb-false, lt-ltb, not-true, not-false}
use lib.Dec.{eqb, leb, ltb}
use Rattle.lists.proofs.Cases.{by_bool, and_left}
use Rattle.table.specs.declared.Table.{Table}
use Rattle.table.specs.declared.Machine.{Machine}
use Rattle.table.specs.declared.Message.{Message}
use Rattle.table.specs.Views.{job_at, machine_at, pool_at, told_at, with_job, with_machine, with_pool}
use Rattle.table.specs.Pools.{enter, lowest, returned}
use Rattle.table.specs.Needs.{RoomFor}
use Rattle.table.specs.Parts.{moved, placed, priced, reserve, release, waiting, copy_is, reserves, message, REQ, AUTH, DENIED, OBSOLETE, SCHEDULE, ACK}
use Rattle.table.specs.Parts.{RESULT, OPEN, PRICED, NOWORK}
use Rattle.table.proofs.Views.{Sized, views, sized_job, sized_machine, sized_pool}
use Rattle.validity_element.specs.Element.{copy_ok}
use Rattle.validity_message.specs.Message.{message_ok, with_copy}
use Rattle.validity.specs.Validity.{max_replica}
use Rattle.handler_victim.specs.Victim.{no_work, grant, on_fish, on_auth, on_denied, on_obsolete}
use Rattle.handler_thief.specs.Thief.{on_schedule, on_no_work}
use Rattle.handler_root.specs.Root.{reply, on_req, on_ack, on_result}
use Rattle.handler.specs.Handler.{handle}
use Rattle.handler.proofs.Cases.{by_kind}
use Rattle.protocol_preservation.proofs.Ok.{Ok, machine_count_some, machine_count_most, entry_count_most}
use Rattle.protocol_preservation.proofs.Facts.{copy_job, copy_some, from_in, to_in, copy_in, thief_in, some_job, state_job, job_moved}
use Rattle.protocol_preservation.proofs.Facts.{job_placed, job_priced, reserved_copy, machine_reserve, machine_release, machine_waiting}
use Rattle.protocol_preservation.proofs.Facts.{cell_copy, cell_enter, lowest_in_lem}
use Rattle.protocol_preservation.proofs.Updates.{wide, ok_job, ok_machine, ok_pool, ok_send}
use Rattle.protocol_preservation.proofs.Sizes.{sized_enter, sized_returned, used_enter, used_returned}

-- ---- a machine's parts

module _ (t : Table) (s : Sized t) (o : Ok t) where
  pub ok_enter : (m j r : ℕ) → m < 16 → (machine_at t m).alive ≡ 1 → copy_ok t.entry_count (max_replica t) j r ≡ true → Ok (enter t m j r)
  unfolding enter
  ok_enter m j r h al c =
      let j64 : j < 64 = omega (arith, copy_job t.entry_count (max_replica t) j r c, entry_count_most t o.sizes) in
      ok_pool t s o m j (max (pool_at t m j) r) h j64
      (cell_enter t.entry_count (max_replica t) (machine_at t m).alive j (pool_at t m j) (o.pool m j h j64) r al c)

  -- the wait of a living machine
  pub ok_waiting : (m w : ℕ) → m < 16 → (machine_at t m).alive ≡ 1 → w ≤ t.machine_count → Ok (with_machine t m (waiting (machine_at t m) w))
  ok_waiting m w h al l = ok_machine t s o m (waiting (machine_at t m) w) h (unfold waiting in refl)
      (machine_waiting t.machine_count t.entry_count (max_replica t) m (machine_at t m) (o.machine m h) al w l)

  -- its reserved copy goes
  pub ok_release : (m : ℕ) → m < 16 → (machine_at t m).alive ≡ 1 → Ok (with_machine t m (release (machine_at t m)))
  ok_release m h al = ok_machine t s o m (release (machine_at t m)) h (unfold release in refl)
      (machine_release t.machine_count t.entry_count (max_replica t) m (machine_at t m) (o.machine m h) al)

  pub ok_no_work : (b th : ℕ) → RoomFor t th → b < t.machine_count → th < t.machine_count → Ok (no_work t b th)
  unfolding no_work message
  ok_no_work b th l h k = ok_send t s o (message NOWORK b th 0 0 0) l (rw (lt-ltb b t.machine_count h, lt-ltb th t.machine_count k))

max_replica_enter : (t : Table) (m j r : ℕ) → max_replica (enter t m j r) ≡ max_replica t
unfolding enter
max_replica_enter t m j r = simp wide

machine_count_enter : (t : Table) (m j r : ℕ) → (enter t m j r).machine_count ≡ t.machine_count
unfolding enter
machine_count_enter t m j r = simp views

entry_count_enter : (t : Table) (m j r : ℕ) → (enter t m j r).entry_count ≡ t.entry_count
unfolding enter
entry_count_enter t m j r = simp views

machine_count_returned : (t : Table) (m : ℕ) → (returned t m).machine_count ≡ t.machine_count
unfolding returned enter
machine_count_returned t m = simp views

machine_enter : (t : Table) (m j r k : ℕ) → machine_at (enter t m j r) k ≡ machine_at t k
unfolding enter
machine_enter t m j r k = simp views

module _ (t : Table) (s : Sized t) (o : Ok t) where
  -- the reserved copy returns to the pool
  pub ok_returned : (m : ℕ) → m < 16 → (machine_at t m).alive ≡ 1 → (machine_at t m).reserved_replica ≢ 0 → Ok (returned t m)
  unfolding returned
  ok_returned m h al n =
      let v = machine_at t m in
      let j = v.reserved_job in
      let r = v.reserved_replica in
      let c = reserved_copy t.machine_count t.entry_count (max_replica t) m v (o.machine m h) al n in
      let e = machine_enter t m j r m in
      let u = ok_release (enter t m j r) (sized_enter t m j r s) (ok_enter t s o m j r h al c) m h (rw e al) in
      rw e at u

-- a machine that reserves this copy has one
pub reserves_some : (n : Machine) (j r th : ℕ) → reserves n j r th ≡ true → n.reserved_replica ≢ 0
unfolding reserves
reserves_some n j r th e =
    eqb-false n.reserved_replica 0
    (not-true _ (and_left (not (eqb n.reserved_replica 0)) (copy_is n.reserved_job n.reserved_replica n.reserved_thief j r th) e))

-- ---- a received message, its receiver alive, and a slot free

module _ (t : Table) (x : Message) (s : Sized t) (o : Ok t) (l : t.in_flight < 128)
    (g : message_ok t.machine_count t.entry_count (max_replica t) x ≡ true) (al : (machine_at t x.to).alive ≡ 1) where
  abbrev M : ℕ
  M = t.machine_count

  abbrev E : ℕ
  E = t.entry_count

  abbrev B : ℕ
  B = max_replica t

  from_m : x.from < t.machine_count
  from_m = from_in M E B x g

  to_m : x.to < t.machine_count
  to_m = to_in M E B x g

  to_16 : x.to < 16
  to_16 = omega (arith, to_m, machine_count_most t o.sizes)

  root_m : ltb 0 t.machine_count ≡ true
  root_m = lt-ltb 0 M (omega (arith, machine_count_some t o.sizes))

  job_64 : with_copy x.kind ≡ true → x.job < 64
  job_64 w = omega (arith, copy_job E B x.job x.replica (copy_in M E B x g w), entry_count_most t o.sizes)

  -- ---- FISH

  grants : (j : ℕ) → j < 64 → pool_at t x.to j ≢ 0 → Ok (grant t x.to x.from j)
  unfolding grant message
  grants j h n =
      let b = x.to in
      let q = pool_at t b j in
      let c : copy_ok E B j q ≡ true = cell_copy E B (machine_at t b).alive j q (o.pool b j to_16 h) n in
      let p = with_pool t b j 0 in
      let v = reserve (machine_at t b) j q x.from in
      let po : Ok p = ok_pool t s o b j 0 to_16 h refl in
      let ps : Sized p = sized_pool t b j 0 s in
      let nv = machine_reserve M E B b (machine_at t b) (o.machine b to_16) al j q x.from c from_m in
      let uo : Ok (with_machine p b v) = ok_machine p ps po b v to_16 (unfold reserve in simp views) (simp wide nv) in
      ok_send (with_machine p b v) (sized_machine p b v ps) uo (message REQ b 0 j q x.from) (λ e. simp views l)
      (simp wide (rw (lt-ltb b M to_m, root_m, c, lt-ltb x.from M from_m)))

  pub ok_fish : Ok (on_fish t x)
  unfolding on_fish
  ok_fish =
      let none : Ok (no_work t x.to x.from) = ok_no_work t s o x.to x.from (λ e. l) to_m from_m in
      by_bool (not (eqb (machine_at t x.to).reserved_replica 0))
      (λ a. rw (a, on_fish) none)
      (λ a. by_bool (leb 64 (lowest t x.to))
      (λ b. rw (a, b, on_fish) none)
      (λ b. rw (a, b, on_fish) (grants (lowest t x.to) (leb-false _ _ b) (lowest_in_lem t x.to (leb-false _ _ b)))))

  -- ---- AUTH, DENIED, OBSOLETE

  pub ok_auth : x.kind ≡ AUTH → Ok (on_auth t x)
  unfolding on_auth message
  ok_auth k =
      let w : with_copy x.kind ≡ true = rw k in
      let th : x.thief < M = thief_in M E B x g (rw k) in
      let b = x.to in
      let v = release (machine_at t b) in
      by_bool (reserves (machine_at t b) x.job x.replica x.thief)
      (λ a. rw (a, on_auth)
      (ok_send (with_machine t b v) (sized_machine t b v s) (ok_release t s o b to_16 al)
      (message SCHEDULE b x.thief x.job x.replica 0) (λ e. simp views l)
      (simp wide (rw (lt-ltb b M to_m, lt-ltb x.thief M th, copy_in M E B x g w)))))
      (λ a. rw (a, on_auth) o)

  pub ok_denied : x.kind ≡ DENIED → Ok (on_denied t x)
  unfolding on_denied
  ok_denied k =
      let th : x.thief < M = thief_in M E B x g (rw k) in
      let b = x.to in
      by_bool (reserves (machine_at t b) x.job x.replica x.thief)
      (λ a. rw (a, on_denied)
      (ok_no_work (returned t b) (sized_returned t b s)
      (ok_returned t s o b to_16 al (reserves_some (machine_at t b) x.job x.replica x.thief a)) b x.thief
      (λ e. simp used_returned l) (simp machine_count_returned to_m) (simp machine_count_returned th)))
      (λ a. rw (a, on_denied) o)

  pub ok_obsolete : x.kind ≡ OBSOLETE → Ok (on_obsolete t x)
  unfolding on_obsolete
  ok_obsolete k =
      let th : x.thief < M = thief_in M E B x g (rw k) in
      let b = x.to in
      let v = release (machine_at t b) in
      by_bool (reserves (machine_at t b) x.job x.replica x.thief)
      (λ a. rw (a, on_obsolete)
      (ok_no_work (with_machine t b v) (sized_machine t b v s) (ok_release t s o b to_16 al) b x.thief (λ e. simp views l) (simp views to_m)
      (simp views th)))
      (λ a. rw (a, on_obsolete) o)

  -- ---- SCHEDULE, NOWORK

  pub ok_schedule : x.kind ≡ SCHEDULE → Ok (on_schedule t x)
  unfolding on_schedule message
  ok_schedule k =
      let c = copy_in M E B x g (rw k) in
      let b = x.to in
      let u = enter t b x.job x.replica in
      let us : Sized u = sized_enter t b x.job x.replica s in
      let e = machine_enter t b x.job x.replica b in
      let v = waiting (machine_at t b) 0 in
      let wo = ok_waiting u us (ok_enter t s o b x.job x.replica to_16 al c) b 0 to_16 (rw e al) (omega arith) in
      let uo : Ok (with_machine u b v) = rw e at wo in
      ok_send (with_machine u b v) (sized_machine u b v us) uo (message ACK b 0 x.job x.replica 0) (λ e. simp (views, used_enter) l)
      (simp (wide, max_replica_enter, machine_count_enter, entry_count_enter) (rw (lt-ltb b M to_m, root_m, c)))

  pub ok_idle : Ok (on_no_work t x)
  unfolding on_no_work
  ok_idle = ok_waiting t s o x.to 0 to_16 al (omega arith)

  -- ---- ACK, RESULT

  pub ok_ack : x.kind ≡ ACK → Ok (on_ack t x)
  unfolding on_ack
  ok_ack k =
      let h = job_64 (rw k) in
      let j = x.job in
      let v = job_at t j in
      let a1 = eqb v.state OPEN in
      let a2 = eqb v.replica x.replica in
      by_bool (a1 && a2)
      (λ a.
      let st : v.state ≡ OPEN = eqb-true _ _ (and_left a1 a2 a) in
      rw (a, on_ack)
      (ok_job t s o j (placed v x.from) h (job_placed M E B j v (o.job j h) (state_job M E B j v (λ z. omega arith)) x.from from_m)))
      (λ a. rw (a, on_ack) o)

  pub ok_result : x.kind ≡ RESULT → Ok (on_result t x)
  unfolding on_result
  ok_result k =
      let h = job_64 (rw k) in
      let j = x.job in
      let v = job_at t j in
      by_bool (eqb v.state OPEN)
      (λ a.
      let st : v.state ≡ OPEN = eqb-true _ _ a in
      rw (a, on_result)
      (ok_job t s o j (priced v x.price) h (job_priced M E B j v (o.job j h) (state_job M E B j v (λ z. omega arith)) x.price)))
      (λ a. rw (a, on_result) o)

-- ---- REQ

-- neither test passes: the replica is current
current : (a : Bool) (p q : ℕ) → a || not (eqb p q) ≡ false → p ≡ q
current true p q e = absurd (false≢true (sym e))
current false p q e = eqb-true p q (not-false _ e)

module _ (t : Table) (x : Message) (s : Sized t) (o : Ok t) (l : t.in_flight < 128) where
  ok_reply : (n : ℕ) → message_ok t.machine_count t.entry_count (max_replica t) (message n 0 x.from x.job x.replica x.thief)
      ≡ true → Ok (reply t x n)
  unfolding reply
  ok_reply n = ok_send t s o (message n 0 x.from x.job x.replica x.thief) (λ e. l)

module _ (t : Table) (x : Message) (s : Sized t) (o : Ok t) (l : t.in_flight < 128)
    (g : message_ok t.machine_count t.entry_count (max_replica t) x ≡ true) (k : x.kind ≡ REQ) where
  pub ok_req : Ok (on_req t x)
  unfolding on_req message
  ok_req =
      let M = t.machine_count in
      let E = t.entry_count in
      let B = max_replica t in
      let j = x.job in
      let v = job_at t j in
      let c = copy_in M E B x g (rw k) in
      let th : x.thief < M = thief_in M E B x g (rw k) in
      let h : j < 64 = omega (arith, copy_job E B j x.replica c, entry_count_most t o.sizes) in
      let e0 = lt-ltb 0 M (omega (arith, machine_count_some t o.sizes)) in
      let ef = lt-ltb x.from M (from_in M E B x g) in
      let et = lt-ltb x.thief M th in
      by_bool (eqb v.state PRICED || not (eqb v.replica x.replica))
      (λ a. rw (a, on_req) (ok_reply t x s o l OBSOLETE (rw (e0, ef, c, et))))
      (λ a. by_bool (not (eqb (told_at t 0 x.thief) 0) || not (eqb v.moving 0))
      (λ b. rw (a, b, on_req) (ok_reply t x s o l DENIED (rw (e0, ef, c, et))))
      (λ b.
      let re = current (eqb v.state PRICED) v.replica x.replica a in
      let w = moved v x.from x.thief in
      let n = some_job M E B j v (omega (arith, copy_some E B j x.replica c)) in
      let uo : Ok (with_job t j w) = ok_job t s o j w h (job_moved M E B j v (o.job j h) n x.from x.thief (from_in M E B x g) th) in
      rw (a, b, on_req) (ok_reply (with_job t j w) x (sized_job t j w s) uo (simp views l) AUTH (simp wide (rw (e0, ef, c, et))))))

-- ---- by kind

module _ (t : Table) (x : Message) (s : Sized t) (o : Ok t) (l : t.in_flight < 128)
    (g : message_ok t.machine_count t.entry_count (max_replica t) x ≡ true) (al : (machine_at t x.to).alive ≡ 1) where
  pub ok_handle : Ok (handle t x)
  ok_handle =
      by_kind Ok t x (λ n. o) (λ k. ok_fish t x s o l g al) (ok_req t x s o l g) (ok_auth t x s o l g al) (ok_denied t x s o l g al)
      (ok_obsolete t x s o l g al) (ok_schedule t x s o l g al) (ok_ack t x s o l g al) (λ k. ok_idle t x s o l g al) (ok_result t x s o l g al)
