-- Clauses D1, F, D2, R (reserved and running copies) and P through Notice: no machine that a is told of sends to it, has a copy reserved for it,
-- and, where a is the root, has an open job.
-- Assumes nothing.
use mathlib.Core.Path.{◌≡◌, refl, sym, ap, ◌∙◌}
use mathlib.Core.Logic.{◌≢◌}
use mathlib.Core.Bool.{Bool, true, false, not, ◌&&◌, ◌||◌, true≢false}
use mathlib.Core.List.{List}
use Prim.Native.Nat.{ℕ, ◌+◌, ◌≤◌, ◌<◌}
use native.Mathlib.Omega.{arith}
use lib.Dec.{eqb, ltb}
use borrow.Author.Tests.{eq-eqb, ne_eqb, eqb-false, ltb-true, ltb-false}
use Rattle.lists.specs.Scan.{filter}
use Rattle.lists.proofs.Cases.{by_bool, by_eq, by_and}
use Rattle.lists.proofs.Count.{Every, every_map, every_filter, every_zip}
use Rattle.table.specs.declared.Job.{Job}
use Rattle.table.specs.declared.Machine.{Machine}
use Rattle.table.specs.declared.Message.{Message}
use Rattle.table.specs.declared.Table.{Table}
use Rattle.table.specs.Views.{job_at, machine_at, told_at, flight}
use Rattle.table.specs.Messages.{not_from}
use Rattle.table.specs.Parts.{opened, OPEN}
use Rattle.event_notice.specs.Notice.{affected, notice_local, reissue, noticed}
use Rattle.event_notice.proofs.Cases.{Noticing}
use Rattle.protocol_preservation.proofs.Facts.{MessageFacts}
use Rattle.protocol_preservation.proofs.Sizes.{sized_notice_local}
use Rattle.theorem_invariant.proofs.State.{Untold, Sender, Copies, Placed, Invariant, machine_16}
use Rattle.theorem_invariant.proofs.UntoldFrame.{copies_release, copies_waiting, living_untold}
use Rattle.theorem_invariant.proofs.NoticeLocal.{return_reserved_machine, clear_wait_machine, notice_local_machine, flight_notice_local}
use Rattle.theorem_invariant.proofs.NoticeLocal.{told_notice_local_other, told_notice_local_others, machine_notice_local}
use Rattle.theorem_invariant.proofs.NoticeLocal.{machine_notice_local_other}
use Rattle.event_notice.proofs.Parts.{job_notice_local}
use Rattle.theorem_invariant.proofs.Reissued.{reissued_job, machine_reissue, told_reissue, flight_reissue, job_reissue, job_reissue_past}

-- a job that is not affected names b neither as holder nor, while it moves, as thief
kept_job : (v : Job) (b : ℕ) → affected v b ≡ false → v.state ≡ OPEN → (v.holder ≢ b) × (v.moving ≡ 1 → v.thief ≢ b)
kept_job v b e o =
    let f : eqb v.holder b || eqb v.moving 1 && eqb v.thief b ≡ false = rw (eq-eqb v.state OPEN o) at e in (
      (λ d. true≢false (sym (ap (λ (c : Bool). c || eqb v.moving 1 && eqb v.thief b) (eq-eqb v.holder b d)) ∙ f)),
      (λ m d. true≢false (sym (moves (eqb v.holder b) (eqb v.moving 1) (eqb v.thief b) (eq-eqb v.moving 1 m) (eq-eqb v.thief b d))
          ∙ f)),
    )
  where
    moves : (p q r : Bool) → q ≡ true → r ≡ true → p || q && r ≡ true
    moves true q r a c = refl
    moves false true r a c = c
    moves false false r a c = absurd (true≢false (sym a))

-- a job's replica number does not fall
pub reissued_grows : (v : Job) (b : ℕ) → v.replica ≤ (reissued_job v b).replica
unfolding reissued_job opened
reissued_grows v b = by_bool (affected v b) (λ e. rw e (omega arith)) (λ e. rw e (omega arith))

module _ (t : Table) (a b : ℕ) (w : Invariant t) (al : a < 16) (bl : b < 16) (gone : (machine_at t b).alive ≢ 1) where
  abbrev k : List Message
  k = filter (not_from b a) (flight t)

  -- any table u in which a was told of b besides, with the machines of the table before the root's reissue
  module _ (u : Table) (told : (m d : ℕ) → told_at u m d ≡ told_at (notice_local t a b) m d) (grown : (j : ℕ) → (job_at t j).replica ≤ (job_at u j).replica)
      (machines : (m : ℕ) → machine_at u m ≡ machine_at (notice_local t a b) m) where
    -- only that a was told of b is new
    told_same : (m d : ℕ) → d < 16 → (m ≡ a → d ≢ b) → told_at u m d ≡ told_at t m d
    told_same m d dl n =
        told m d ∙ by_eq m a (λ e. told_notice_local_other t a b m d bl dl (n e)) (λ e. told_notice_local_others t a b m d bl dl e)

    sender_u : (x : Message) → Sender t x × MessageFacts t x → not_from b a x ≡ true → Sender u x
    sender_u x f e = record {
      root = f.0.root;
      untold = told_same x.to x.from f.1.from (λ p q. true≢false (sym e ∙ rw (eq-eqb x.from b q, eq-eqb x.to a p))) ∙ f.0.untold;
    }

    senders : Every (Sender u) k
    senders =
        every_map (λ x. (Sender t x × MessageFacts t x) × (not_from b a x ≡ true)) (Sender u) (filter (not_from b a) (flight t))
        (λ x f. sender_u x f.0 f.1)
        (every_filter (λ x. Sender t x × MessageFacts t x) (not_from b a) (flight t)
        (every_zip (Sender t) (MessageFacts t) (flight t) w.untold.sender w.facts.message))

    copies_u : (m : ℕ) (n : Machine) → Copies t m n → n.reserved_thief < 16 → (n.reserved_replica ≢ 0 → m ≡ a → n.reserved_thief ≢ b)
        → Copies u m n
    copies_u m n c l q = record {
      reserved = omega (arith, c.reserved, grown n.reserved_job);
      running = omega (arith, c.running, grown n.running_job);
      untold = λ e. told_same m n.reserved_thief l (q e) ∙ c.untold e;
    }

    -- once a copy for b is returned, none is for b
    copies_return_reserved : (n : Machine) → Copies t a n → n.reserved_thief < 16 → Copies u a (return_reserved_machine n b)
    unfolding return_reserved_machine
    copies_return_reserved n c l =
        by_and (not (eqb n.reserved_replica 0)) (eqb n.reserved_thief b)
        (λ p f e. rw e (copies_release u a n (omega (arith, c.running, grown n.running_job))))
        (λ e. rw e (copies_u a n c l (λ p q d. true≢false (sym (rw (ne_eqb n.reserved_replica 0 p, eq-eqb n.reserved_thief b d)) ∙ e))))

    copies_own : (n : Machine) → Copies t a n → n.reserved_thief < 16 → Copies u a (notice_local_machine n b)
    unfolding notice_local_machine clear_wait_machine
    copies_own n c l =
        let v = return_reserved_machine n b in
        by_bool (eqb v.waits (b + 1))
        (λ e. rw e (copies_waiting u a v 0 (copies_return_reserved n c l)))
        (λ e. rw e (copies_return_reserved n c l))

    copies_all : (m : ℕ) → m < 16 → Copies u m (machine_at u m)
    copies_all m l =
        let c = w.untold.copies m l in
        let th : (machine_at t m).reserved_thief < 16 = (w.facts.machine m l).reserved_thief in
        rw (machines m) (by_eq m a
        (λ e. rw e (rw (machine_notice_local t a b w.sized al)
        (copies_own (machine_at t a) (w.untold.copies a al) (w.facts.machine a al).reserved_thief)))
        (λ e. rw (machine_notice_local_other t a b m e) (copies_u m (machine_at t m) c th (λ p q. absurd (e q)))))

    -- a place that does not name b where a is the root
    placed_u : (v : Job) → v.holder < 16 → v.thief < 16 → Placed t v → (v.state ≡ OPEN → 0 ≡ a → v.holder ≢ b)
        → (v.state ≡ OPEN → v.moving ≡ 1 → 0 ≡ a → v.thief ≢ b) → Placed u v
    placed_u v hl tl p q r = record {
      holder = λ e. told_same 0 v.holder hl (q e) ∙ p.holder e;
      thief = λ e f. told_same 0 v.thief tl (r e f) ∙ p.thief e f;
    }

    -- the root is not told of itself
    placed_opened : (r : ℕ) → Placed u (opened r)
    unfolding opened
    placed_opened r = record {
      holder = λ e. told_same 0 0 (omega arith) (λ p q. gone (ap (λ (i : ℕ). (machine_at t i).alive) (sym q) ∙ w.facts.root))
          ∙ living_untold t w.facts 0 0 (omega arith) (omega arith) w.facts.root;
      thief = λ e (f : ◌≡◌ {A = ℕ} 0 1). absurd (omega arith);
    }

    placed_reissued : (v : Job) → v.holder < 16 → v.thief < 16 → Placed t v → Placed u (reissued_job v b)
    unfolding reissued_job
    placed_reissued v hl tl p =
        by_bool (affected v b)
        (λ e. rw e (placed_opened (v.replica + 1)))
        (λ e. rw e (placed_u v hl tl p (λ o i. (kept_job v b e o).0) (λ o m i. (kept_job v b e o).1 m)))

  -- ---- a machine other than the root is told

  untold_notice_local : a ≢ 0 → Untold (notice_local t a b) k
  untold_notice_local na =
      let u = notice_local t a b in
      let grown : (j : ℕ) → (job_at t j).replica ≤ (job_at u j).replica = λ j. rw (job_notice_local t a b j) (omega arith) in
      record {
        sender = senders u (λ m d. refl) grown (λ m. refl);
        copies = copies_all u (λ m d. refl) grown (λ m. refl);
        placed = λ j l.
            let f = w.facts.job j l in
            rw (job_notice_local t a b j) (placed_u u (λ m d. refl) grown (λ m. refl) (job_at t j) f.holder f.thief (w.untold.placed j l)
            (λ e p. absurd (na (sym p))) (λ e g p. absurd (na (sym p))));
      }

  -- ---- the root is told, and issues the affected jobs again

  untold_reissued : Untold (reissue (notice_local t a b) b) k
  untold_reissued =
      let q = notice_local t a b in
      let u = reissue q b in
      let jobs : (j : ℕ) → j < 64 → job_at u j ≡ reissued_job (job_at t j) b =
      λ j l. job_reissue q b (sized_notice_local t w.sized a b) j l ∙ ap (λ (v : Job). reissued_job v b) (job_notice_local t a b j) in
      let grown : (j : ℕ) → (job_at t j).replica ≤ (job_at u j).replica = λ j.
      by_bool (ltb j 64)
      (λ e. rw (jobs j (ltb-true _ _ e)) (reissued_grows (job_at t j) b))
      (λ e. rw (job_reissue_past q b j (ltb-false _ _ e), job_notice_local t a b j) (omega arith)) in
      record {
        sender = senders u (told_reissue q b) grown (machine_reissue q b);
        copies = copies_all u (told_reissue q b) grown (machine_reissue q b);
        placed = λ j l. rw (jobs j l) (placed_reissued u (told_reissue q b) grown (machine_reissue q b) (job_at t j) (w.facts.job j l).holder
            (w.facts.job j l).thief (w.untold.placed j l));
      }

pub untold_noticed : (t : Table) → Invariant t → (a b : ℕ) → Noticing t a b → Untold (noticed t a b) (flight (noticed t a b))
unfolding noticed
untold_noticed t w a b n =
    let q = notice_local t a b in
    let al = machine_16 t w a n.machine in
    let bl = machine_16 t w b n.named in
    by_bool (eqb a 0)
    (λ e. rw (e, noticed) (rw (flight_reissue q b, flight_notice_local t a b) (untold_reissued t a b w al bl n.dead)))
    (λ e. rw (e, noticed) (rw (flight_notice_local t a b) (untold_notice_local t a b w al bl n.dead (eqb-false a 0 e))))
