-- The seven events of a death, each as what it does to what is seen of a table: i is the machine, r the replica number of job 0.
-- Assumes nothing.
use Prim.Native.Nat.{ℕ, ◌+◌, ◌<◌}
use mathlib.Core.Path.{◌≡◌, refl, ap, ◌∙◌}
use mathlib.Core.Logic.{◌≢◌}
use mathlib.Core.Bool.{Bool, not}
use mathlib.Core.List.{[], ◌∷◌}
use native.Mathlib.Omega.{arith}
use borrow.Author.Tests.{eq-eqb, ne_eqb}
use lib.Dec.{eqb}
use Rattle.lists.specs.Scan.{filter}
use Rattle.lists.proofs.Scans.{least_none, least_found}
use Rattle.table.specs.declared.Job.{Job}
use Rattle.table.specs.declared.Machine.{Machine}
use Rattle.table.specs.declared.Message.{Message}
use Rattle.table.specs.declared.Table.{Table}
use Rattle.table.specs.Views.{idle_machine, no_machine, pool_at, told_at, with_job, with_machine, with_pool}
use Rattle.table.specs.Pools.{enter, lowest}
use Rattle.table.specs.Messages.{send, not_to, not_from}
use Rattle.table.specs.Parts.{opened, moved, reserve, release, waiting, copy_is, reserves, message, FISH, REQ, AUTH, SCHEDULE, ACK}
use Rattle.handler_victim.specs.Victim.{grant, on_fish, on_auth}
use Rattle.handler_thief.specs.Thief.{on_schedule}
use Rattle.handler_root.specs.Root.{reply, on_req}
use Rattle.handler.specs.Handler.{handle}
use Rattle.event_steal.specs.Steal.{stolen}
use Rattle.event_notice.specs.Notice.{notice_local, noticed}
use Rattle.event_notice.proofs.Parts.{job_notice_local}
use Rattle.event_admit_deliver_die.specs.AdmitDeliverDie.{died}
use Rattle.event_admit_deliver_die.proofs.Views.{job_died, flight_died, machine_died, machine_died_other}
use Rattle.protocol_preservation.proofs.Sizes.{sized_died, sized_notice_local, sized_noticed}
use Rattle.theorem_invariant.proofs.NoticeLocal.{return_reserved_machine, clear_wait_machine, notice_local_machine, flight_notice_local, machine_notice_local}
use Rattle.theorem_invariant.proofs.NoticeLocal.{machine_notice_local_other}
use Rattle.theorem_invariant.proofs.Reissued.{reissued_job, machine_reissue, flight_reissue, job_reissue}
use Rattle.claims_worst_run.proofs.Seen.{Seen, seen_job, seen_root, seen_thief, seen_pool, seen_enter, seen_send}

-- ---- what the handlers come to

-- the lowest job of a pool that has job 0
lowest_first : (t : Table) → pool_at t 0 0 ≢ 0 → lowest t 0 ≡ 0
unfolding lowest
lowest_first t d =
    let p : ℕ → Bool = λ j. not (eqb (pool_at t 0 j) 0) in
    least_found p 64 0 (omega arith) (least_none p) (rw (ne_eqb (pool_at t 0 0) 0 d))

-- the job moves to i, which is then dead
reissued_moved : (i r : ℕ) → 0 < i → reissued_job (moved (opened r) 0 i) i ≡ opened (r + 1)
unfolding reissued_job moved opened
reissued_moved i r h = rw (ne_eqb 0 i (λ e. omega arith), eq-eqb i i refl)

-- nothing reserved and no wait: a notice changes nothing in a machine
noticed_idle : (i : ℕ) → notice_local_machine (idle_machine 1) i ≡ idle_machine 1
unfolding notice_local_machine return_reserved_machine clear_wait_machine
noticed_idle i = rw (ne_eqb 0 (i + 1) (λ e. omega arith))

-- ---- the five messages of a death

abbrev pub fish : ℕ → Message
fish i = message FISH i 0 0 0 0

abbrev pub req : ℕ → ℕ → Message
req i r = message REQ 0 0 0 r i

abbrev pub auth : ℕ → ℕ → Message
auth i r = message AUTH 0 0 0 r i

abbrev pub schedule : ℕ → ℕ → Message
schedule i r = message SCHEDULE 0 i 0 r 0

abbrev pub ack : ℕ → ℕ → Message
ack i r = message ACK i 0 0 r 0

-- the death of i drops no message to the root, and the notice of it drops what i sent to the root
ack_stays : (i r : ℕ) → 0 < i → filter (not_to i) (ack i r ∷ []) ≡ ack i r ∷ []
unfolding filter message
ack_stays i r h = rw (ne_eqb 0 i (λ e. omega arith))

ack_goes : (i r : ℕ) → filter (not_from i 0) (ack i r ∷ []) ≡ []
unfolding filter message
ack_goes i r = rw (eq-eqb i i refl)

-- ---- the events

module _ {n i : ℕ} (low : 0 < i) (high : i < 16) (r : ℕ) where
  -- "the machine steals from the root"
  pub seen_stolen : {v : Job} {t : Table} → Seen n i v (idle_machine 1) (idle_machine 1) [] t
      → Seen n i v (idle_machine 1) (waiting (idle_machine 1) 1) (fish i ∷ []) (stolen t i 0)
  unfolding stolen message
  seen_stolen {t = t} s =
      let u = seen_thief low high s (waiting (idle_machine 1) 1) in
      rw s.thief (seen_send low high u (fish i) (ap (λ (m : Machine). m.alive) u.root))

  -- "its FISH .. delivered"
  fish_is : {v : Job} {b : Machine} {t : Table} → Seen n i v (idle_machine 1) b [] t → pool_at t 0 0 ≡ r → r ≢ 0
      → handle t (fish i) ≡ send (with_machine (with_pool t 0 0 0) 0 (reserve (idle_machine 1) 0 r i)) (req i r)
  unfolding handle on_fish grant message
  fish_is {t = t} s p d = rw (s.root, lowest_first t (λ e. d (omega arith)), p)

  pub seen_fish : {v : Job} {b : Machine} {t : Table} → Seen n i v (idle_machine 1) b [] t → pool_at t 0 0 ≡ r → r ≢ 0
      → Seen n i v (reserve (idle_machine 1) 0 r i) b (req i r ∷ []) (handle t (fish i))
  unfolding message reserve
  seen_fish {t = t} s p d =
      let u = seen_root low high (seen_pool low high s 0 0 0) (reserve (idle_machine 1) 0 r i) in
      rw (fish_is s p d) (seen_send low high u (req i r) (ap (λ (m : Machine). m.alive) u.root))

  -- "REQ": the root was not told that i is dead, and the job is on the root
  req_is : {a b : Machine} {t : Table} → Seen n i (opened r) a b [] t → told_at t 0 i ≡ 0
      → handle t (req i r) ≡ send (with_job t 0 (moved (opened r) 0 i)) (auth i r)
  unfolding handle on_req reply message opened
  req_is {t = t} s told = rw (s.job, eq-eqb r r refl, eq-eqb (told_at t 0 i) 0 told)

  pub seen_req : {a b : Machine} {t : Table} → Seen n i (opened r) a b [] t → told_at t 0 i ≡ 0 → a.alive ≡ 1
      → Seen n i (moved (opened r) 0 i) a b (auth i r ∷ []) (handle t (req i r))
  unfolding message
  seen_req s told e =
      let u = seen_job low high s (moved (opened r) 0 i) in
      rw (req_is s told) (seen_send low high u (auth i r) (ap (λ (m : Machine). m.alive) u.root ∙ e))

  -- "AUTH"
  auth_is : {v : Job} {b : Machine} {t : Table} → Seen n i v (reserve (idle_machine 1) 0 r i) b [] t → r ≢ 0
      → handle t (auth i r) ≡ send (with_machine t 0 (idle_machine 1)) (schedule i r)
  unfolding handle on_auth reserves copy_is reserve release message
  auth_is s d = rw (s.root, ne_eqb r 0 d, eq-eqb r r refl, eq-eqb i i refl)

  pub seen_auth : {v : Job} {b : Machine} {t : Table} → Seen n i v (reserve (idle_machine 1) 0 r i) b [] t → r ≢ 0 → b.alive ≡ 1
      → Seen n i v (idle_machine 1) b (schedule i r ∷ []) (handle t (auth i r))
  unfolding message
  seen_auth s d e =
      let u = seen_root low high s (idle_machine 1) in
      rw (auth_is s d) (seen_send low high u (schedule i r) (ap (λ (m : Machine). m.alive) u.thief ∙ e))

  -- "and SCHEDULE"
  schedule_is : {v : Job} {a : Machine} {t : Table} → Seen n i v a (waiting (idle_machine 1) 1) [] t
      → handle t (schedule i r) ≡ send (with_machine (enter t i 0 r) i (idle_machine 1)) (ack i r)
  unfolding handle on_schedule message waiting
  schedule_is s = rw s.thief

  pub seen_schedule : {v : Job} {t : Table} → Seen n i v (idle_machine 1) (waiting (idle_machine 1) 1) [] t
      → Seen n i v (idle_machine 1) (idle_machine 1) (ack i r ∷ []) (handle t (schedule i r))
  unfolding message
  seen_schedule s =
      let u = seen_thief low high (seen_enter low high s i 0 r) (idle_machine 1) in
      rw (schedule_is s) (seen_send low high u (ack i r) (ap (λ (m : Machine). m.alive) u.root))

  -- "it dies": its ACK stays in flight
  pub seen_died : {v : Job} {a b : Machine} {t : Table} → Seen n i v a b (ack i r ∷ []) t → Seen n i v a no_machine (ack i r ∷ []) (died t i)
  seen_died {t = t} s = record {
    sized = sized_died t s.sized i;
    job = job_died t i 0 ∙ s.job;
    root = machine_died_other t i 0 (λ e. omega arith) ∙ s.root;
    thief = machine_died t i s.sized high;
    later = λ m g h. machine_died_other t i m (λ e. omega arith) ∙ s.later m g h;
    flight = flight_died t i ∙ ap (filter (not_to i)) s.flight ∙ ack_stays i r low;
  }

  -- "the root is told": the ACK is dropped
  pub seen_noticed : {t : Table} → Seen n i (moved (opened r) 0 i) (idle_machine 1) no_machine (ack i r ∷ []) t
      → Seen n i (opened (r + 1)) (idle_machine 1) no_machine [] (noticed t 0 i)
  unfolding noticed
  seen_noticed {t = t} s =
      let q = notice_local t 0 i in
      record {
        sized = sized_noticed t s.sized 0 i;
        job = job_reissue q i (sized_notice_local t s.sized 0 i) 0 (omega arith)
            ∙ ap (λ (v : Job). reissued_job v i) (job_notice_local t 0 i 0 ∙ s.job) ∙ reissued_moved i r low;
        root = machine_reissue q i 0 ∙ machine_notice_local t 0 i s.sized (omega arith)
            ∙ ap (λ (m : Machine). notice_local_machine m i) s.root ∙ noticed_idle i;
        thief = machine_reissue q i i ∙ machine_notice_local_other t 0 i i (λ e. omega arith) ∙ s.thief;
        later = λ m g h. machine_reissue q i m ∙ machine_notice_local_other t 0 i m (λ e. omega arith) ∙ s.later m g h;
        flight = flight_reissue q i ∙ flight_notice_local t 0 i ∙ ap (filter (not_from i 0)) s.flight ∙ ack_goes i r;
      }
