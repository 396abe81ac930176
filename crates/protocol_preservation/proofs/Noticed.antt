-- Check 9 through Notice: what every machine does, then the root's jobs, whose replica numbers were at most `max_replica` before it rose.
-- Assumes nothing.
use Prim.Native.Nat.{ℕ, suc, ◌+◌, ◌<◌}
use mathlib.Core.Path.{◌≡◌, refl, sym, ap, ◌∙◌, subst}
use mathlib.Core.Bool.{true, not, ◌&&◌}
use native.Mathlib.Omega.{arith}
use borrow.Author.Tests.{eqb-true, eqb-false, not-true}
use lib.Dec.{eqb}
use Rattle.lists.proofs.Cases.{by_bool, and_left}
use Rattle.lists.proofs.Keeps.{up_each}
use Rattle.table.specs.declared.Table.{Table}
use Rattle.table.specs.declared.Job.{Job}
use Rattle.table.specs.declared.Machine.{Machine}
use Rattle.table.specs.Views.{job_at, machine_at, told_at}
use Rattle.table.specs.Pools.{enter, returned}
use Rattle.table.specs.Messages.{keep_messages, not_from}
use Rattle.table.specs.Parts.{release, waiting, OPEN}
use Rattle.table.proofs.Views.{Sized, views, alive_machine}
use Rattle.table.proofs.Messages.{sized_keep_messages}
use Rattle.validity_element.specs.Element.{copy_ok}
use Rattle.validity.specs.Validity.{max_replica}
use Rattle.event_notice.specs.Notice.{informed, clear_wait, return_reserved, notice_local, affected, reissue_one, reissue, noticed}
use Rattle.event_notice.proofs.Parts.{job_informed, machine_informed, entries_informed, affected_open}
use Rattle.event_notice.proofs.Cases.{Noticing}
use Rattle.protocol_preservation.proofs.Ok.{Ok, Valid, machine_count_some, machine_count_most}
use Rattle.protocol_preservation.proofs.Passed.{facts}
use Rattle.protocol_preservation.proofs.Facts.{copy_job, copy_most, copy_is_lem, state_job, job_copy}
use Rattle.protocol_preservation.proofs.Updates.{wide, ok_keep_messages}
use Rattle.protocol_preservation.proofs.Told.{ok_told, max_replica_root}
use Rattle.protocol_preservation.proofs.Sizes.{sized_informed, sized_return_reserved, sized_notice_local, sized_reissue_one, sized_noticed}
use Rattle.protocol_preservation.proofs.Counts.{counts_noticed}
use Rattle.protocol_preservation.proofs.Handled.{ok_waiting, ok_returned}
use Rattle.protocol_preservation.proofs.Accepted.{ok_opened}

-- ---- what reserved copy and wait leave as it was

record Frame (t u : Table) : Type 0 where
  job : (j : ℕ) → job_at u j ≡ job_at t j
  most : max_replica u ≡ max_replica t
  size : u.entry_count ≡ t.entry_count
  alive : (k : ℕ) → (machine_at u k).alive ≡ (machine_at t k).alive

same : (t : Table) → Frame t t
same t = record { job = λ k. refl; most = refl; size = refl; alive = λ k. refl }

returned_frame : (t : Table) (a : ℕ) → Sized t → a < 16 → Frame t (returned t a)
unfolding returned enter
returned_frame t a s h =
    let v = machine_at t a in
    let j = v.reserved_job in
    let r = v.reserved_replica in
    record {
      job = λ k. simp wide;
      most = simp wide;
      size = simp wide;
      alive = λ k. alive_machine (enter t a j r) a (release v) (unfold release in simp views) k ∙ simp views;
    }

return_reserved_frame : (t : Table) (a b : ℕ) → Sized t → a < 16 → Frame t (return_reserved t a b)
unfolding return_reserved
return_reserved_frame t a b s h =
    by_bool (not (eqb (machine_at t a).reserved_replica 0) && eqb (machine_at t a).reserved_thief b)
    (λ e. rw (e, return_reserved) (returned_frame t a s h))
    (λ e. rw (e, return_reserved) (same t))

clear_wait_frame : (t : Table) (a b : ℕ) → Sized t → a < 16 → Frame t (clear_wait t a b)
unfolding clear_wait
clear_wait_frame t a b s h =
    by_bool (eqb (machine_at t a).waits (b + 1))
    (λ e. rw (e, clear_wait) (record {
      job = λ k. simp wide;
      most = simp wide;
      size = simp wide;
      alive = λ k. alive_machine t a (waiting (machine_at t a) 0) (unfold waiting in refl) k;
    }))
    (λ e. rw (e, clear_wait) (same t))

-- ---- what every machine does

module _ (t : Table) (s : Sized t) (o : Ok t) where
  pub ok_informed : (a b : ℕ) → a < t.machine_count → b < t.machine_count → (machine_at t b).alive ≡ 0 → Ok (informed t a b)
  unfolding informed
  ok_informed a b h k d =
      let few = machine_count_most t o.sizes in
      ok_told (keep_messages t (not_from b a)) (sized_keep_messages t s (not_from b a)) (ok_keep_messages t s o (not_from b a)) a b (omega arith)
      (omega arith)
      (unfold keep_messages in simp views h) (unfold keep_messages in simp views k) (unfold keep_messages in simp views d)

  pub ok_clear_wait : (a b : ℕ) → a < 16 → (machine_at t a).alive ≡ 1 → Ok (clear_wait t a b)
  unfolding clear_wait
  ok_clear_wait a b h al =
      by_bool (eqb (machine_at t a).waits (b + 1))
      (λ e. rw (e, clear_wait) (ok_waiting t s o a 0 h al (omega arith)))
      (λ e. rw (e, clear_wait) o)

  pub ok_return_reserved : (a b : ℕ) → a < 16 → (machine_at t a).alive ≡ 1 → Ok (return_reserved t a b)
  unfolding return_reserved
  ok_return_reserved a b h al =
      let q = (machine_at t a).reserved_replica in
      let c = not (eqb q 0) in
      let d = eqb (machine_at t a).reserved_thief b in
      by_bool (c && d)
      (λ e. rw (e, return_reserved) (ok_returned t s o a h al (eqb-false q 0 (not-true _ (and_left c d e)))))
      (λ e. rw (e, return_reserved) o)

module _ (t : Table) (s : Sized t) (a b : ℕ) where
  -- reserved copy and wait together
  notice_local_frame : a < 16 → Frame (informed t a b) (notice_local t a b)
  unfolding notice_local
  notice_local_frame h =
      let u = informed t a b in
      let us = sized_informed t s a b in
      let f = return_reserved_frame u a b us h in
      let g = clear_wait_frame (return_reserved u a b) a b (sized_return_reserved u us a b) h in
      record {
        job = λ k. g.job k ∙ f.job k;
        most = g.most ∙ f.most;
        size = g.size ∙ f.size;
        alive = λ k. g.alive k ∙ f.alive k;
      }

  pub ok_notice_local : Ok t → a < t.machine_count → b < t.machine_count → (machine_at t a).alive ≡ 1 → (machine_at t b).alive ≡ 0
      → Ok (notice_local t a b)
  unfolding notice_local
  ok_notice_local o am bm al d =
      let h : a < 16 = omega (arith, machine_count_most t o.sizes) in
      let u = informed t a b in
      let us = sized_informed t s a b in
      let ua : (machine_at u a).alive ≡ 1 = ap (λ (n : Machine). n.alive) (machine_informed t a b a) ∙ al in
      let uo = ok_return_reserved u us (ok_informed t s o a b am bm d) a b h ua in
      ok_clear_wait (return_reserved u a b) (sized_return_reserved u us a b) uo a b h ((return_reserved_frame u a b us h).alive a ∙ ua)

-- ---- the root's jobs

-- what a turn of the loop keeps
record Turn (t u : Table) : Type 0 where
  good : Ok u
  long : Sized u
  most : max_replica u ≡ max_replica t
  size : u.entry_count ≡ t.entry_count

turn : (t u : Table) (v : Job) (b j : ℕ) → Turn t u → (affected v b ≡ true → copy_ok t.entry_count (max_replica t) j (v.replica + 1) ≡ true)
    → Turn t (reissue_one v b j u)
unfolding reissue_one enter
turn t u v b j c f =
    by_bool (affected v b)
    (λ e.
    let r = v.replica + 1 in
    let cp : copy_ok u.entry_count (max_replica u) j r ≡ true = rw (c.most, c.size) (f e) in
    rw (e, reissue_one) (record {
      good = ok_opened u c.long c.good j r cp;
      long = let z = sized_reissue_one u c.long v b j in rw (e, reissue_one) at z;
      most = simp wide c.most;
      size = simp wide c.size;
    }))
    (λ e. rw (e, reissue_one) c)

module _ (t : Table) (b : ℕ) (s : Sized t) (o : Ok t) (f : (j : ℕ) → j < 64 → affected (job_at t j) b ≡ true
    → copy_ok t.entry_count (max_replica t) j ((job_at t j).replica + 1) ≡ true) where
  pub ok_reissue : Ok (reissue t b)
  unfolding reissue
  ok_reissue =
      (up_each (λ j u. reissue_one (job_at t j) b j u) (λ j. Turn t) 64 (λ j u h c. turn t u (job_at t j) b j c (f j h)) t
      (record { good = o; long = s; most = refl; size = refl })).good

-- ---- the root: it lives, and was not told of b before

module _ (t : Table) (s : Sized t) (o : Ok t) (b : ℕ) (bm : b < t.machine_count) (d : (machine_at t b).alive ≡ 0) (new : told_at t 0 b ≡ 0) where
  b16 : b < 16
  b16 = omega (arith, machine_count_most t o.sizes)

  max_replica_informed : max_replica (informed t 0 b) ≡ suc (max_replica t)
  unfolding informed
  max_replica_informed =
      max_replica_root (keep_messages t (not_from b 0)) (sized_keep_messages t s (not_from b 0)) 0 b (omega arith) b16 refl
      (unfold keep_messages in simp views new)
      ∙ ap suc (unfold keep_messages in simp wide)

  ok_root : Ok (reissue (notice_local t 0 b) b)
  ok_root =
      let u = notice_local t 0 b in
      let f = notice_local_frame t s 0 b (omega arith) in
      let uo = ok_notice_local t s 0 b o (omega (arith, machine_count_some t o.sizes)) bm (eqb-true _ _ o.root) d in
      ok_reissue u b (sized_notice_local t s 0 b) uo
      (λ j h e.
      let v = job_at t j in
      let jb : job_at u j ≡ v = f.job j ∙ job_informed t 0 b j in
      let l : affected v b ≡ true = ap (λ (w : Job). affected w b) (sym jb) ∙ e in
      let st : v.state ≡ OPEN = affected_open v b l in
      let c = job_copy t.machine_count t.entry_count (max_replica t) j v (o.job j h)
      (state_job t.machine_count t.entry_count (max_replica t) j v (λ z. omega arith)) in
      let rp : (job_at u j).replica ≡ v.replica = ap (λ (w : Job). w.replica) jb in
      let sz : u.entry_count ≡ t.entry_count = f.size ∙ entries_informed t 0 b in
      let bd : max_replica u ≡ suc (max_replica t) = f.most ∙ max_replica_informed in
      copy_is_lem u.entry_count (max_replica u) j ((job_at u j).replica + 1)
      (omega (arith, copy_job t.entry_count (max_replica t) j v.replica c)) (omega arith)
      (omega (arith, copy_most t.entry_count (max_replica t) j v.replica c)))

pub valid_noticed : (t : Table) → Valid t → (a b : ℕ) → Noticing t a b → Valid (noticed t a b)
unfolding noticed
valid_noticed t v a b n =
    let s = v.sized in
    let o = v.ok in
    let f = ((facts t s o).machine b (omega (arith, n.named, machine_count_most t o.sizes))).alive in
    let d : (machine_at t b).alive ≡ 0 = omega (arith, n.dead) in
    record {
      sized = sized_noticed t s a b;
      ok = by_bool (eqb a 0)
          (λ e.
          let z : a ≡ 0 = eqb-true a 0 e in
          let n0 : told_at t 0 b ≡ 0 = ap (λ (k : ℕ). told_at t k b) (sym z) ∙ n.new in
          rw (e, noticed) (subst (λ (k : ℕ). Ok (reissue (notice_local t k b) b)) (sym z) (ok_root t s o b n.named d n0)))
          (λ e. rw (e, noticed) (ok_notice_local t s a b o n.machine n.named n.alive d));
      counts = counts_noticed t s v.counts a b;
    }
