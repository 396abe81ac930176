-- What the handler of a message does to one job: only REQ, ACK and RESULT write one, REQ and ACK its place alone, RESULT the price of an open one.
-- Assumes nothing.
use Prim.Native.Nat.{ℕ, ◌≤◌, ◌<◌}
use mathlib.Core.Path.{◌≡◌, refl, sym, ap, ◌∙◌}
use mathlib.Core.Logic.{◌≢◌}
use mathlib.Core.Bool.{true, false, not, ◌&&◌, ◌||◌}
use native.Mathlib.Omega.{arith}
use borrow.Author.Tests.{eqb-true, eqb-false, eq-eqb, ne_eqb}
use lib.Dec.{eqb}
use Rattle.lists.proofs.Cases.{by_bool, by_eq, cond_elim, and_left, or_left_false}
use Rattle.table.specs.declared.Job.{Job}
use Rattle.table.specs.declared.Message.{Message}
use Rattle.table.specs.declared.Table.{Table}
use Rattle.table.specs.Views.{job_at, told_at, message_at, with_job}
use Rattle.table.specs.Messages.{remove_at}
use Rattle.table.specs.Parts.{moved, placed, priced, FISH, REQ, AUTH, DENIED, OBSOLETE, SCHEDULE, ACK, NOWORK, RESULT, NOT_ADMITTED, OPEN, PRICED}
use Rattle.table.proofs.Views.{job_same, job_other, job_machine, job_pool}
use Rattle.handler_victim.specs.Victim.{on_fish, on_auth, on_denied, on_obsolete}
use Rattle.handler_thief.specs.Thief.{on_schedule, on_no_work}
use Rattle.handler_root.specs.Root.{reply, on_req, on_ack, on_result}
use Rattle.handler.specs.Handler.{handle}
use Rattle.event_admit_deliver_die.specs.AdmitDeliverDie.{delivered}
use Rattle.theorem_invariant.proofs.State.{Known, Received, Invariant}
use Rattle.theorem_invariant.proofs.Received.{received}
use Rattle.theorem_invariant.proofs.Flight.{every_taken}
use Rattle.handler.proofs.Cases.{by_kind}
use Rattle.protocol_preservation.proofs.Closed.{Local, closed_fish, closed_auth, closed_denied, closed_obsolete, closed_schedule, closed_nowork}
use Rattle.claims.proofs.Change.{Same, same_job, Change, job_send, job_remove_at, same_with}
use Rattle.claims.proofs.Change.Change.{pricing, late, other}

-- ---- the handlers that write no job

unwritten : (j : ℕ) (v : Job) → Local (λ n u. job_at u j ≡ v)
unwritten j v = record {
  machine = λ n t m w e p. job_machine t m w j ∙ p;
  pool = λ n t m i r p. job_pool t m i r j ∙ p;
  send = λ t x q p. job_send t x j ∙ p;
  less = λ t p. p;
}

job_reply : (u : Table) (x : Message) (k j : ℕ) → job_at (reply u x k) j ≡ job_at u j
unfolding reply
job_reply u x k j = job_send u _ j

-- ---- those that write one

-- a job that is not priced, at another place
same_moved : (v : Job) (a b : ℕ) → v.state ≢ PRICED → Same v (moved v a b)
unfolding moved
same_moved v a b n = record { state = refl; price = refl; replica = refl; stays = λ e. absurd (n e) }

same_placed : (v : Job) (a : ℕ) → v.state ≢ PRICED → Same v (placed v a)
unfolding placed
same_placed v a n = record { state = refl; price = refl; replica = refl; stays = λ e. absurd (n e) }

module _ (s : Table) (x : Message) (h : Received s x) (cap : x.replica ≤ (job_at s x.job).replica) (j : ℕ) where
  abbrev v : Job
  v = job_at s x.job

  same_req : Same (job_at s j) (job_at (on_req s x) j)
  unfolding on_req
  same_req =
      by_bool (eqb v.state PRICED || not (eqb v.replica x.replica))
      (λ a. rw (a, on_req) (same_job _ _ (job_reply s x OBSOLETE j)))
      (λ a. by_bool (not (eqb (told_at s 0 x.thief) 0) || not (eqb v.moving 0))
      (λ b. rw (a, b, on_req) (same_job _ _ (job_reply s x DENIED j)))
      (λ b.
      let u = with_job s x.job (moved v x.from x.thief) in
      rw (a, b, on_req) (rw (job_reply u x AUTH j)
      (same_with s h.sized x.job (moved v x.from x.thief) h.message.job (same_moved v x.from x.thief
      (eqb-false v.state PRICED (or_left_false (eqb v.state PRICED) (not (eqb v.replica x.replica)) a))) j))))

  same_ack : Same (job_at s j) (job_at (on_ack s x) j)
  unfolding on_ack
  same_ack =
      by_bool (eqb v.state OPEN && eqb v.replica x.replica)
      (λ a.
      let one = eqb-true v.state OPEN (and_left (eqb v.state OPEN) (eqb v.replica x.replica) a) in
      rw (a, on_ack) (same_with s h.sized x.job (placed v x.from) h.message.job (same_placed v x.from (λ e. omega arith)) j))
      (λ a. rw (a, on_ack) (same_job (job_at s j) (job_at s j) refl))

  -- job j in u, the table after x was handled
  abbrev After : Table → Type 0
  After u = Change false (eqb x.kind RESULT && eqb x.job j) false x.price (job_at s j) (job_at u j)

  -- the message is no RESULT
  plain : (u : Table) (k : ℕ) → x.kind ≡ k → eqb k RESULT ≡ false → Same (job_at s j) (job_at u j) → After u
  plain u k e n c =
      let z : eqb x.kind RESULT ≡ false = ap (λ (i : ℕ). eqb i RESULT) e ∙ n in
      other refl (rw z refl) refl c

  kept : (u : Table) (k : ℕ) → x.kind ≡ k → eqb k RESULT ≡ false → job_at u j ≡ job_at s j → After u
  kept u k e n c = plain u k e n (same_job (job_at s j) (job_at u j) c)

  -- a RESULT is of a job that is admitted: it carries a replica number from 1 to the job's
  admitted : x.kind ≡ RESULT → v.state ≢ NOT_ADMITTED
  admitted k e =
      let none : v.replica ≡ 0 = ap (λ (u : Job). u.replica) ((h.facts.job x.job h.message.job).none e) in
      let some : 1 ≤ x.replica = h.message.some (rw k refl) in
      omega arith

  after_result : x.kind ≡ RESULT → After (on_result s x)
  unfolding on_result
  after_result k =
      let kb : eqb x.kind RESULT ≡ true = ap (λ (i : ℕ). eqb i RESULT) k in
      by_eq x.job j
      (λ e.
      let d : eqb x.kind RESULT && eqb x.job j ≡ true = rw (kb, eq-eqb x.job j e) refl in
      by_bool (eqb v.state OPEN)
      (λ a. rw (a, on_result) (pricing refl d refl (ap (λ (i : ℕ). (job_at s i).state) (sym e) ∙ eqb-true v.state OPEN a)
      (ap (λ (i : ℕ). job_at (with_job s x.job (priced v x.price)) i) (sym e)
      ∙ job_same s h.sized x.job (priced v x.price) h.message.job
      ∙ ap (λ (i : ℕ). priced (job_at s i) x.price) e)))
      (λ a.
      let two : v.state ≡ PRICED = omega (arith, admitted k, eqb-false v.state OPEN a, (h.facts.job x.job h.message.job).state) in
      rw (a, on_result) (late refl d refl (ap (λ (i : ℕ). (job_at s i).state) (sym e) ∙ two) refl)))
      (λ e. other refl (rw (kb, ne_eqb x.job j e) refl) refl
      (same_job _ _ (cond_elim (λ u. job_at u j ≡ job_at s j) (eqb v.state OPEN) _ s (job_other s x.job j _ (λ z. e (sym z))) refl)))

  after_handle : After (handle s x)
  after_handle =
      let Is : ℕ → Table → Type 0 = λ n u. job_at u j ≡ job_at s j in
      let l : Local Is = unwritten j (job_at s j) in
      by_kind After s x (λ n. absurd (n h.message.kind_least h.message.kind_most))
      (λ k. kept (on_fish s x) FISH k refl (closed_fish Is l s x refl))
      (λ k. plain (on_req s x) REQ k refl same_req)
      (λ k. kept (on_auth s x) AUTH k refl (closed_auth Is l s x refl))
      (λ k. kept (on_denied s x) DENIED k refl (closed_denied Is l s x refl))
      (λ k. kept (on_obsolete s x) OBSOLETE k refl (closed_obsolete Is l s x refl))
      (λ k. kept (on_schedule s x) SCHEDULE k refl (closed_schedule Is l s x refl))
      (λ k. plain (on_ack s x) ACK k refl same_ack)
      (λ k. kept (on_no_work s x) NOWORK k refl (closed_nowork Is l s x refl))
      after_result

-- Deliver takes the message in slot k off
pub change_delivered : (t : Table) (k j : ℕ) → Invariant t → k < t.in_flight
    → Change false (eqb (message_at t k).kind RESULT && eqb (message_at t k).job j) false (message_at t k).price (job_at t j) (job_at (delivered t k) j)
unfolding delivered
change_delivered t k j w l =
    let x = message_at t k in
    let cap : x.replica ≤ (job_at (remove_at t k) x.job).replica =
    rw (job_remove_at t k x.job) (every_taken t k w.sized l (Known t) w.transfer.known).0.cap in
    rw (job_remove_at t k j) at (after_handle (remove_at t k) x (received t k w l) cap j)
