-- What every update of a table but that of the machine count keeps, every handler and every accepted event but Join keeps: their definitions gone
-- through once. Join is in Joined.antt.
-- Assumes nothing.
use Prim.Native.Nat.{ℕ, ◌+◌}
use mathlib.Core.Path.{◌≡◌, refl, sym, ◌∙◌}
use mathlib.Core.Bool.{Bool, not, ◌&&◌, ◌||◌}
use lib.Dec.{eqb, leb}
use Rattle.lists.proofs.Cases.{cond_elim}
use Rattle.lists.proofs.Keeps.{up_keeps}
use Rattle.table.specs.declared.Job.{Job}
use Rattle.table.specs.declared.Machine.{Machine}
use Rattle.table.specs.declared.Message.{Message}
use Rattle.table.specs.declared.Table.{Table}
use Rattle.table.specs.Views.{no_machine, job_at, machine_at, pool_at, told_at, message_at, with_job, with_machine, with_pool, with_told}
use Rattle.table.specs.Pools.{enter, lowest, returned}
use Rattle.table.specs.Messages.{remove_at, keep_messages, send, not_to, not_from}
use Rattle.table.specs.Parts.{reserve, release, running, waiting, message, OPEN, PRICED}
use Rattle.table.proofs.Views.{views, alive_machine}
use Rattle.table.proofs.ClearPool.{keeps_clear_pool}
use Rattle.handler_victim.specs.Victim.{no_work, grant, on_fish, matches, on_auth, on_denied, on_obsolete}
use Rattle.handler_thief.specs.Thief.{on_schedule, on_no_work}
use Rattle.handler_root.specs.Root.{reply, on_req, on_ack, on_result}
use Rattle.handler.specs.Handler.{handle}
use Rattle.handler.proofs.Cases.{by_kind}
use Rattle.event_admit_deliver_die.specs.AdmitDeliverDie.{admitted, delivered, died}
use Rattle.event_steal.specs.Steal.{stolen}
use Rattle.event_start_done.specs.StartDone.{started, finished}
use Rattle.event_notice.specs.Notice.{informed, clear_wait, return_reserved, notice_local, affected, reissue_one, reissue, noticed}

-- P n is kept by each update of pools and of machines that stay alive or dead, and by sending: n is the number of slots that must be free, and a
-- message to a living machine takes one
pub record Local (P : ℕ → Table → Type 0) : Type 0 where
  pub machine : (n : ℕ) (t : Table) (m : ℕ) (v : Machine) → v.alive ≡ (machine_at t m).alive → P n t → P n (with_machine t m v)
  pub pool : (n : ℕ) (t : Table) (m j r : ℕ) → P n t → P n (with_pool t m j r)
  pub send : (t : Table) (x : Message) → ((machine_at t x.to).alive ≡ 1 → P 1 t) → P 0 t → P 0 (send t x)
  pub less : (t : Table) → P 1 t → P 0 t

-- and by an update of a job: all that a handler does
pub record Handling (P : ℕ → Table → Type 0) : Type 0 where
  pub local : Local P
  pub job : (n : ℕ) (t : Table) (j : ℕ) (v : Job) → P n t → P n (with_job t j v)

-- and by what Notice does besides
pub record Closed (P : ℕ → Table → Type 0) : Type 0 where
  pub handling : Handling P
  pub told : (t : Table) (m d r : ℕ) → P 0 t → P 0 (with_told t m d r)
  pub keep_messages : (t : Table) (p : Message → Bool) → P 0 t → P 0 (keep_messages t p)

-- ---- what a victim and a thief do

module _ (P : ℕ → Table → Type 0) (c : Local P) where
  -- where a slot is free whoever the receiver is
  closed_send : (t : Table) (x : Message) → P 1 t → P 0 (send t x)
  closed_send t x p = c.send t x (λ l. p) (c.less t p)

  pub closed_enter : (n : ℕ) (t : Table) (m j r : ℕ) → P n t → P n (enter t m j r)
  unfolding enter
  closed_enter n t m j r p = c.pool n t m j _ p

  pub closed_returned : (n : ℕ) (t : Table) (m : ℕ) → P n t → P n (returned t m)
  unfolding returned
  closed_returned n t m p =
      let u = enter t m (machine_at t m).reserved_job (machine_at t m).reserved_replica in
      c.machine n u m (release (machine_at t m)) (unfold release enter in simp views) (closed_enter n t m _ _ p)

  closed_release : (n : ℕ) (t : Table) (m : ℕ) → P n t → P n (with_machine t m (release (machine_at t m)))
  closed_release n t m p = c.machine n t m (release (machine_at t m)) (unfold release in refl) p

  pub closed_waiting : (n : ℕ) (t : Table) (m w : ℕ) → P n t → P n (with_machine t m (waiting (machine_at t m) w))
  closed_waiting n t m w p = c.machine n t m (waiting (machine_at t m) w) (unfold waiting in refl) p

  pub closed_idle : (n : ℕ) (t : Table) (m : ℕ) → P n t → P n (with_machine t m (running (machine_at t m) 0 0))
  closed_idle n t m p = c.machine n t m (running (machine_at t m) 0 0) (unfold running in refl) p

  module _ (t : Table) (x : Message) (p : P 1 t) where
    pub closed_fish : P 0 (on_fish t x)
    unfolding on_fish no_work grant
    closed_fish =
        let b = x.to in
        let j = lowest t b in
        let v = reserve (machine_at t b) j (pool_at t b j) x.from in
        cond_elim (P 0) (not (eqb (machine_at t x.to).reserved_replica 0)) _ _ (closed_send t _ p)
        (cond_elim (P 0) (leb 64 (lowest t x.to)) _ _ (closed_send t _ p)
        (closed_send _ _ (c.machine 1 (with_pool t b j 0) b v (unfold reserve in simp views) (c.pool 1 t b j 0 p))))

    pub closed_auth : P 0 (on_auth t x)
    unfolding on_auth
    closed_auth = cond_elim (P 0) (matches t x) _ t (closed_send _ _ (closed_release 1 t _ p)) (c.less t p)

    pub closed_denied : P 0 (on_denied t x)
    unfolding on_denied no_work
    closed_denied = cond_elim (P 0) (matches t x) _ t (closed_send _ _ (closed_returned 1 t _ p)) (c.less t p)

    pub closed_obsolete : P 0 (on_obsolete t x)
    unfolding on_obsolete no_work
    closed_obsolete = cond_elim (P 0) (matches t x) _ t (closed_send _ _ (closed_release 1 t _ p)) (c.less t p)

    pub closed_schedule : P 0 (on_schedule t x)
    unfolding on_schedule
    closed_schedule =
        let b = x.to in
        closed_send _ _ (c.machine 1 (enter t b x.job x.replica) b (waiting (machine_at t b) 0) (unfold waiting enter in simp views)
        (closed_enter 1 t _ _ _ p))

    pub closed_nowork : P 0 (on_no_work t x)
    unfolding on_no_work
    closed_nowork = closed_waiting 0 t _ 0 (c.less t p)

-- ---- what the root does, and all messages

module _ (P : ℕ → Table → Type 0) (c : Handling P) where
  module _ (t : Table) (x : Message) (p : P 1 t) where
    rest : P 0 t
    rest = c.local.less t p

    req : P 0 (on_req t x)
    unfolding on_req reply
    req =
        cond_elim (P 0) (eqb (job_at t x.job).state PRICED || not (eqb (job_at t x.job).replica x.replica)) _ _ (closed_send P c.local t _ p)
        (cond_elim (P 0) (not (eqb (told_at t 0 x.thief) 0) || not (eqb (job_at t x.job).moving 0)) _ _ (closed_send P c.local t _ p)
        (closed_send P c.local _ _ (c.job 1 t _ _ p)))

    ack : P 0 (on_ack t x)
    unfolding on_ack
    ack = cond_elim (P 0) (eqb (job_at t x.job).state OPEN && eqb (job_at t x.job).replica x.replica) _ t (c.job 0 t _ _ rest) rest

    result : P 0 (on_result t x)
    unfolding on_result
    result = cond_elim (P 0) (eqb (job_at t x.job).state OPEN) _ t (c.job 0 t _ _ rest) rest

    pub closed_handle : P 0 (handle t x)
    closed_handle =
        let l = c.local in
        by_kind (P 0) t x (λ k. rest) (λ k. closed_fish P l t x p) (λ k. req) (λ k. closed_auth P l t x p) (λ k. closed_denied P l t x p)
        (λ k. closed_obsolete P l t x p) (λ k. closed_schedule P l t x p) (λ k. ack) (λ k. closed_nowork P l t x p) (λ k. result)

-- ---- the events: where one sends to a living machine, a slot is free

module _ (P : ℕ → Table → Type 0) (c : Closed P) where
  abbrev h : Handling P
  h = c.handling

  abbrev l : Local P
  l = c.handling.local

  module _ (t : Table) where
    pub closed_admitted : (a : ℕ) → P 0 t → P 0 (admitted t a)
    unfolding admitted
    closed_admitted a p = closed_enter P l 0 _ 0 a 1 (h.job 0 t a _ p)

    pub closed_stolen : (a b : ℕ) → ((machine_at t b).alive ≡ 1 → P 1 t) → P 0 t → P 0 (stolen t a b)
    unfolding stolen message
    closed_stolen a b q p =
        let n = waiting (machine_at t a) (b + 1) in
        l.send (with_machine t a n) _ (λ e. closed_waiting P l 1 t a _ (q (sym (alive_machine t a n (unfold waiting in refl) b) ∙ e)))
        (closed_waiting P l 0 t a _ p)

    pub closed_delivered : (k : ℕ) → P 1 (remove_at t k) → P 0 (delivered t k)
    unfolding delivered
    closed_delivered k p = closed_handle P h (remove_at t k) (message_at t k) p

    pub closed_started : (a b : ℕ) → P 0 t → P 0 (started t a b)
    unfolding started
    closed_started a b p =
        l.machine 0 (with_pool t a b 0) a (running (machine_at t a) b (pool_at t a b)) (unfold running in simp views) (l.pool 0 t a b 0 p)

    pub closed_finished : (a : ℕ) → P 1 t → P 0 (finished t a)
    unfolding finished
    closed_finished a p = closed_send P l _ _ (closed_idle P l 1 t a p)

    -- Die, where P is kept by a machine's record that is cleared
    pub closed_died : (a : ℕ) → ((u : Table) → P 0 u → P 0 (with_machine u a no_machine)) → P 0 t → P 0 (died t a)
    unfolding died
    closed_died a gone p = c.keep_messages _ (not_to a) (gone _ (keeps_clear_pool t a (P 0) (λ u j. l.pool 0 u a j 0) p))

    pub closed_informed : (a b : ℕ) → P 0 t → P 0 (informed t a b)
    unfolding informed
    closed_informed a b p = c.told _ a b 1 (c.keep_messages t (not_from b a) p)

    pub closed_clear_wait : (a b : ℕ) → P 0 t → P 0 (clear_wait t a b)
    unfolding clear_wait
    closed_clear_wait a b p = cond_elim (P 0) (eqb (machine_at t a).waits (b + 1)) _ t (closed_waiting P l 0 t a 0 p) p

    pub closed_return_reserved : (a b : ℕ) → P 0 t → P 0 (return_reserved t a b)
    unfolding return_reserved
    closed_return_reserved a b p =
        cond_elim (P 0) (not (eqb (machine_at t a).reserved_replica 0) && eqb (machine_at t a).reserved_thief b) _ t
        (closed_returned P l 0 t a p) p

    pub closed_reissue_one : (v : Job) (b j : ℕ) → P 0 t → P 0 (reissue_one v b j t)
    unfolding reissue_one
    closed_reissue_one v b j p = cond_elim (P 0) (affected v b) _ t (closed_enter P l 0 _ 0 j _ (h.job 0 t j _ p)) p

  module _ (t : Table) where
    pub closed_notice_local : (a b : ℕ) → P 0 t → P 0 (notice_local t a b)
    unfolding notice_local
    closed_notice_local a b p = closed_clear_wait _ a b (closed_return_reserved _ a b (closed_informed t a b p))

    pub closed_reissue : (b : ℕ) → P 0 t → P 0 (reissue t b)
    unfolding reissue
    closed_reissue b p = up_keeps (λ j u. reissue_one (job_at t j) b j u) (P 0) (λ j u. closed_reissue_one u (job_at t j) b j) 64 t p

  pub closed_noticed : (t : Table) (a b : ℕ) → P 0 t → P 0 (noticed t a b)
  unfolding noticed
  closed_noticed t a b p =
      let q = closed_notice_local t a b p in
      cond_elim (P 0) (eqb a 0) (reissue (notice_local t a b) b) (notice_local t a b) (closed_reissue (notice_local t a b) b q) q
