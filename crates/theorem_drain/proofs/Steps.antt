-- When the dispatcher accepts an Admit, a Steal, a Deliver, a Start, a Done, a Die and a Notice to the root, at a table of the invariant.
-- Assumes nothing.
use mathlib.Core.Path.{◌≡◌, refl, ◌∙◌}
use mathlib.Core.Logic.{◌≢◌}
use mathlib.Core.Bool.{Bool, true}
use Prim.Native.Nat.{ℕ, ◌<◌}
use native.Mathlib.Omega.{arith}
use lib.Dec.{eqb}
use borrow.Author.Tests.{eq-eqb, ne_eqb, lt-ltb, lt-leb}
use Rattle.table.specs.declared.Table.{Table}
use Rattle.table.specs.Views.{job_at, machine_at, pool_at, told_at, message_at}
use Rattle.table.specs.Messages.{in_channel, oldest}
use Rattle.table.specs.Parts.{accept, NOT_ADMITTED}
use Rattle.event_admit_deliver_die.specs.AdmitDeliverDie.{admitted, admit_of, delivered, deliver_of, died, die_of}
use Rattle.event_steal.specs.Steal.{stolen, steal_of}
use Rattle.event_start_done.specs.StartDone.{started, start_of, finished, done_of}
use Rattle.event_notice.specs.Notice.{noticed, notice_of}
use Rattle.lists.proofs.Cases.{by_eq, and_false}
use Rattle.lists.proofs.Scans.{least_none, least_found}
use Rattle.protocol_preservation.proofs.Facts.{MessageFacts}
use Rattle.theorem_invariant.proofs.State.{Invariant, valid}
use Rattle.theorem_invariant.proofs.Flight.{every_taken}
use Rattle.dispatcher.specs.Codes.{ADMIT, STEAL, DELIVER, START, DONE, DIE, NOTICE}
use Rattle.dispatcher.specs.Step.{event, two_machines, well_formed, indices_in_range, event_of, answer_of, step_of}
use Rattle.dispatcher.proofs.Preserved.{valid_passes, step_answer}

module _ (t : Table) (w : Invariant t) where
  -- past 9, 10 and 11
  step_event : (c a b : ℕ) → well_formed (event c a b) ≡ true → indices_in_range t c a b ≡ true → step_of t (event c a b) ≡ event_of t c a b
  unfolding answer_of
  step_event c a b f n = step_answer t (event c a b) (valid_passes t (valid t w)) ∙ rw (f, n)

  two_machines_lem : (c a b : ℕ) → two_machines c ≡ true → a < t.machine_count → b < t.machine_count → indices_in_range t c a b ≡ true
  unfolding indices_in_range
  two_machines_lem c a b p al bl = rw (p, lt-ltb a t.machine_count al, lt-ltb b t.machine_count bl)

  -- ---- Admit
  pub accepts_admit : (a : ℕ) → a < t.entry_count → (job_at t a).state ≡ NOT_ADMITTED → step_of t (event ADMIT a 0) ≡ accept (admitted t a)
  unfolding well_formed indices_in_range event_of admit_of
  accepts_admit a l new =
      step_event ADMIT a 0 refl (rw (lt-ltb a t.entry_count l))
      ∙ rw (eq-eqb (job_at t a).state NOT_ADMITTED new)

  -- ---- Steal, with a slot free
  pub accepts_steal : (a b : ℕ) → a < 16 → b < t.machine_count → (machine_at t a).alive ≡ 1 → a ≢ b → (machine_at t a).waits ≡ 0 → told_at t a b ≡ 0
      → t.in_flight < 128 → step_of t (event STEAL a b) ≡ accept (stolen t a b)
  unfolding well_formed event_of steal_of
  accepts_steal a b al bl lives other free told room =
      step_event STEAL a b refl (two_machines_lem STEAL a b refl ((w.facts.machine a al).alive_in lives) bl)
      ∙ rw (
        eq-eqb (machine_at t a).alive 1 lives,
        ne_eqb a b other,
        eq-eqb (machine_at t a).waits 0 free,
        eq-eqb (told_at t a b) 0 told,
        lt-leb 128 t.in_flight room,
        and_false (eqb (machine_at t b).alive 1),
      )

  -- nobody was told that a living machine is dead
  pub untold_alive : (m d : ℕ) → m < 16 → d < 16 → (machine_at t d).alive ≡ 1 → told_at t m d ≡ 0
  untold_alive m d ml dl lives = by_eq (told_at t m d) 0 (λ e. e) (λ e. absurd (omega (arith, w.facts.told_dead m d ml dl e)))

  -- ---- Deliver: the first message's own channel has it as its oldest
  oldest_first : 0 < t.in_flight → oldest t (message_at t 0).from (message_at t 0).to ≡ 0
  unfolding oldest
  oldest_first h =
      let x = message_at t 0 in
      let p : ℕ → Bool = λ i. in_channel x.from x.to (message_at t i) in
      least_found p t.in_flight 0 h (least_none p) (rw (eq-eqb x.from x.from refl, eq-eqb x.to x.to refl))

  pub accepts_deliver : 0 < t.in_flight → step_of t (event DELIVER (message_at t 0).from (message_at t 0).to) ≡ accept (delivered t 0)
  unfolding well_formed event_of deliver_of
  accepts_deliver h =
      let x = message_at t 0 in
      let f : MessageFacts t x = (every_taken t 0 w.sized h (MessageFacts t) w.facts.message).0 in
      step_event DELIVER x.from x.to refl (two_machines_lem DELIVER x.from x.to refl f.from_in f.to_in)
      ∙ rw (oldest_first h, lt-leb t.in_flight 0 h)

  -- ---- Start
  pub accepts_start : (a b : ℕ) → a < 16 → b < 64 → (machine_at t a).alive ≡ 1 → (machine_at t a).running_replica ≡ 0 → pool_at t a b ≢ 0
      → step_of t (event START a b) ≡ accept (started t a b)
  unfolding well_formed indices_in_range event_of start_of
  accepts_start a b al bl lives free there =
      step_event START a b refl
      (rw (
        lt-ltb a t.machine_count ((w.facts.machine a al).alive_in lives),
        lt-ltb b t.entry_count (w.facts.pool_entry a b al bl there),
      ))
      ∙ rw (eq-eqb (machine_at t a).alive 1 lives, eq-eqb (machine_at t a).running_replica 0 free, ne_eqb (pool_at t a b) 0 there)

  -- ---- Done
  pub accepts_done : (a : ℕ) → a < 16 → (machine_at t a).alive ≡ 1 → (machine_at t a).running_replica ≢ 0 → t.in_flight < 128
      → step_of t (event DONE a 0) ≡ accept (finished t a)
  unfolding well_formed event_of done_of
  accepts_done a al lives runs room =
      step_event DONE a 0 refl (two_machines_lem DONE a 0 refl ((w.facts.machine a al).alive_in lives) (omega (arith, w.facts.machine_count_some)))
      ∙ rw (eq-eqb (machine_at t a).alive 1 lives, ne_eqb (machine_at t a).running_replica 0 runs, lt-leb 128 t.in_flight room)

  -- ---- Die
  pub accepts_die : (a : ℕ) → a < 16 → a ≢ 0 → (machine_at t a).alive ≡ 1 → step_of t (event DIE a 0) ≡ accept (died t a)
  unfolding well_formed event_of die_of
  accepts_die a al other lives =
      step_event DIE a 0 refl (two_machines_lem DIE a 0 refl ((w.facts.machine a al).alive_in lives) (omega (arith, w.facts.machine_count_some)))
      ∙ rw (ne_eqb a 0 other, eq-eqb (machine_at t a).alive 1 lives)

  -- ---- Notice to the root
  pub accepts_notice : (b : ℕ) → b < t.machine_count → (machine_at t b).alive ≢ 1 → told_at t 0 b ≡ 0
      → step_of t (event NOTICE 0 b) ≡ accept (noticed t 0 b)
  unfolding well_formed event_of notice_of
  accepts_notice b bl gone told =
      step_event NOTICE 0 b refl (two_machines_lem NOTICE 0 b refl (omega (arith, w.facts.machine_count_some)) bl)
      ∙ rw (eq-eqb (machine_at t 0).alive 1 w.facts.root, ne_eqb (machine_at t b).alive 1 gone, eq-eqb (told_at t 0 b) 0 told)
