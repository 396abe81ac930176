-- A steal from a dead machine on a full channel, as it was answered and as it is; the claim is in specs/Full.antt. Assumes nothing.
use Prim.Native.Nat.{ℕ, ◌+◌, ◌<◌}
use mathlib.Core.Path.{◌≡◌, refl, sym, ap, ◌∙◌}
use mathlib.Core.Logic.{◌≢◌}
use mathlib.Core.Bool.{true}
use mathlib.Core.List.{List}
use native.Mathlib.Omega.{arith}
use borrow.Author.Tests.{eqb-true, ne_eqb, lt-ltb}
use Rattle.table.specs.declared.Machine.{Machine}
use Rattle.table.specs.declared.Table.{Table}
use Rattle.table.specs.Views.{machine_at, told_at, with_machine, refuse}
use Rattle.table.specs.Messages.{send}
use Rattle.table.specs.Parts.{waiting, message, judged, accept}
use Rattle.table.proofs.Views.{told_machine, machine_count_machine, alive_machine}
use Rattle.validity.specs.Validity.{table_ok}
use Rattle.protocol_preservation.proofs.Ok.{tests, machine_count_some, used_most}
use Rattle.event_steal.specs.Steal.{stolen, steal_number}
use Rattle.event_start_done.specs.StartDone.{done_of}
use Rattle.event_notice.specs.Notice.{noticed, notice_of}
use Rattle.dispatcher.specs.Codes.{DONE, NOTICE}
use Rattle.dispatcher.specs.Step.{event, first_of, second_of, well_formed, indices_in_range, event_of, answer_of, step_of}
use Rattle.dispatcher_before.specs.Before.{Chain, steal_number_since, steal_by, event_by, answer_by, step_by}
use Rattle.dispatcher_before.specs.Full.{LetThrough, waiting_on, EndsWait, FullChannel}
use Rattle.dispatcher_before.proofs.ByChain.{by_chain, step_today}
use Rattle.dispatcher_before.proofs.Chains.{by_chains}
use Rattle.dispatcher_before.proofs.Reasons.{step_kept}
use Rattle.dispatcher_before.proofs.Waits.{written, waits_noticed}

-- ---- such a steal

module _ (t : Table) (e : List ℕ) (h : LetThrough t e) where
  abbrev a : ℕ
  a = first_of e

  abbrev b : ℕ
  b = second_of e

  others : a ≢ b
  others z = h.dead (ap (λ (m : ℕ). (machine_at t m).alive) (sym z) ∙ h.alive)

  was_16 : steal_number_since (machine_at t a) (machine_at t b) (told_at t a b) t.in_flight a b ≡ 16
  unfolding steal_number_since
  was_16 = rw (h.alive, ne_eqb a b others, h.idle, h.untold, h.full)

  is_0 : steal_number (machine_at t a) (machine_at t b) (told_at t a b) t.in_flight a b ≡ 0
  unfolding steal_number
  is_0 = rw (h.alive, ne_eqb a b others, h.idle, h.untold, ne_eqb (machine_at t b).alive 1 h.dead)

  -- it comes to the chain
  comes : (f : Chain) → step_by f t e ≡ steal_by f t a b
  unfolding step_by answer_by event_by indices_in_range
  comes f = rw (h.passes, h.formed, h.code, lt-ltb a t.machine_count h.thief, lt-ltb b t.machine_count h.victim)

  full_was : step_by steal_number_since t e ≡ refuse 16 t
  unfolding steal_by
  full_was = comes steal_number_since ∙ ap (λ (n : ℕ). judged t n (stolen t a b)) was_16

  -- the table with the thief's wait: who lives is as it was, so the victim is dead and nothing is stored
  abbrev waits : Machine
  waits = waiting (machine_at t a) (b + 1)

  abbrev after : Table
  after = with_machine t a waits

  victim_dead : (machine_at after b).alive ≢ 1
  victim_dead z = h.dead (sym (alive_machine t a waits (unfold waiting in refl) b) ∙ z)

  nothing_stored : stolen t a b ≡ waiting_on t a b
  unfolding stolen send message
  nothing_stored = rw (ne_eqb (machine_at after b).alive 1 victim_dead)

  full_now : step_of t e ≡ accept (waiting_on t a b)
  unfolding steal_by
  full_now =
      sym (step_today t e) ∙ comes steal_number ∙ ap (λ (n : ℕ). judged t n (stolen t a b)) is_0 ∙ ap (λ (u : Table). accept u) nothing_stored

  -- ---- its notice

  thief_lives : (machine_at after a).alive ≡ 1
  thief_lives = alive_machine t a waits (unfold waiting in refl) a ∙ h.alive

  waits_on : (machine_at after a).waits ≡ b + 1
  unfolding waiting
  waits_on = ap (λ (n : Machine). n.waits) (written t a waits h.alive)

  notice_comes : table_ok after ≡ true → step_of after (event NOTICE a b) ≡ notice_of after a b
  unfolding step_of answer_of well_formed indices_in_range event_of
  notice_comes p =
      let c = machine_count_machine t a waits in
      rw (p, lt-ltb a after.machine_count (rw c h.thief), lt-ltb b after.machine_count (rw c h.victim))

  notice_accepted : notice_of after a b ≡ accept (noticed after a b)
  unfolding notice_of
  notice_accepted = rw (thief_lives, ne_eqb (machine_at after b).alive 1 victim_dead, told_machine t a waits a b, h.untold)

  ends_wait : let u = (step_of t e).table in table_ok u ≡ true → EndsWait a (step_of u (event NOTICE a b))
  ends_wait =
      rw full_now
      (λ p. rw (notice_comes p, notice_accepted) (record { number = refl; wait = waits_noticed after a b thief_lives waits_on }))

-- ---- any other event

full_other : (t : Table) (e : List ℕ) → (LetThrough t e → ⊥) → step_of t e ≡ step_by steal_number_since t e
unfolding steal_by
full_other t e =
    rw (sym (step_today t e))
    (by_chain (λ x y. (LetThrough t e → ⊥) → y ≡ x) t (λ x n q. refl) steal_number_since steal_number e
    (λ p f l k c.
    let a = first_of e in
    let b = second_of e in
    let u = stolen t a b in
    by_chains (machine_at t a) (machine_at t b) (told_at t a b) t.in_flight a b
    (λ x y z. (LetThrough t e → ⊥) → judged t z u ≡ judged t y u) record {
      dead = λ q. refl;
      same = λ i d q. refl;
      waits = λ i d w q. refl;
      told = λ i d w y q. refl;
      full = λ q. refl;
      through = λ i w y d g q. absurd (q record {
        passes = p;
        formed = f;
        code = c;
        thief = l;
        victim = k;
        alive = i;
        idle = w;
        full = omega (arith, used_most t (tests t p).sizes);
        dead = d;
        untold = y;
      });
      accepted = λ q. refl;
    }))

-- ---- Done

done_full : (t : Table) (a : ℕ) → table_ok t ≡ true → a < t.machine_count → (machine_at t a).alive ≡ 1 → (machine_at t a).running_replica ≢ 0
    → t.in_flight ≡ 128 → step_of t (event DONE a 0) ≡ refuse 16 t
unfolding step_of answer_of well_formed indices_in_range event_of done_of
done_full t a p l i r f =
    rw (
      p,
      lt-ltb a t.machine_count l,
      lt-ltb 0 t.machine_count (omega (arith, machine_count_some t (tests t p).sizes)),
      i,
      ne_eqb (machine_at t a).running_replica 0 r,
      f,
    )

pub full_channel : FullChannel
full_channel =
    record {
      was = full_was;
      now = full_now;
      notice = ends_wait;
      other = full_other;
      reasons = λ t e q. rw (full_other t e q) (step_kept t e);
      root = λ t p. eqb-true _ 1 (tests t p).root;
      done = done_full;
    }
