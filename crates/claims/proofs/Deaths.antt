-- The dead machines of a table are as many as the accepted events of code 6, counted from a table without any;
-- and no replica number is above 1 + their number.
-- Assumes nothing.
use Prim.Native.Nat.{ℕ, ◌+◌, ◌≤◌}
use mathlib.Core.Path.{◌≡◌, refl, sym, ap, ◌∙◌}
use mathlib.Core.Logic.{◌≢◌}
use mathlib.Core.Bool.{Bool, true, false, not, cond, ◌&&◌}
use mathlib.Core.List.{List}
use native.Mathlib.Omega.{arith}
use borrow.Author.Tests.{eqb-true, eq-eqb, ne_eqb, ltb-true, ltb-false, lt-ltb, le-ltb}
use lib.Dec.{eqb, ltb}
use Rattle.lists.specs.Scan.{count_to}
use Rattle.lists.proofs.Cases.{by_bool, by_eq, and_false}
use Rattle.lists.proofs.Count.{count_to_up, count_to_same, count_to_one}
use Rattle.table.specs.declared.Machine.{Machine}
use Rattle.table.specs.declared.Table.{Table}
use Rattle.table.specs.declared.Answer.{Answer}
use Rattle.table.specs.Views.{machine_at, told_at}
use Rattle.table.specs.Messages.{oldest}
use Rattle.table.specs.Parts.{accept}
use Rattle.validity.specs.Validity.{max_replica}
use Rattle.event_admit_deliver_die.specs.AdmitDeliverDie.{admitted, delivered, died}
use Rattle.event_steal.specs.Steal.{stolen}
use Rattle.event_start_done.specs.StartDone.{started, finished}
use Rattle.event_notice.specs.Notice.{noticed}
use Rattle.event_join.specs.Join.{joined}
use Rattle.event_join.proofs.Cases.{Joining, join_16}
use Rattle.event_join.proofs.Views.{machine_count_joined, machine_joined, machine_joined_other}
use Rattle.protocol_preservation.proofs.Facts.{told_in_lem, told_dead}
use Rattle.theorem_invariant.proofs.State.{Invariant, machine_16}
use Rattle.theorem_invariant.proofs.Keeps.{invariant_run}
use Rattle.dispatcher.proofs.Fixed.{fixed_machine_count, fixed_admitted, fixed_stolen, fixed_delivered, fixed_started, fixed_finished, fixed_died}
use Rattle.dispatcher.proofs.Fixed.{fixed_noticed}
use Rattle.event_admit_deliver_die.proofs.Views.{machine_died, machine_died_other}
use Rattle.theorem_invariant.proofs.Alive.{alive_admitted, alive_stolen, alive_delivered, alive_started, alive_finished, alive_noticed}
use Rattle.dispatcher.specs.Codes.{ADMIT, STEAL, DELIVER, START, DONE, DIE, NOTICE, JOIN}
use Rattle.dispatcher.specs.Step.{code_of, first_of, second_of, step_of, run_of}
use Rattle.table.proofs.Refusals.{refused_nonzero}
use Rattle.dispatcher.proofs.Events.{by_cases}
use Rattle.event_admit_deliver_die.proofs.Cases.{Dying}
use Rattle.claims.specs.History.{count_of, kills}
use Rattle.claims.proofs.Runs.{other_code, count_along}

-- d is a dead machine of the table
abbrev pub gone : Table → ℕ → Bool
gone t d = ltb d t.machine_count && not (eqb (machine_at t d).alive 1)

abbrev pub deaths : Table → ℕ
deaths t = count_to (λ d. gone t d) 16

-- ---- the number of the dead

-- the test goes by two numbers
gone_same : (d M N a b : ℕ) → M ≡ N → a ≡ b → ltb d M && not (eqb a 1) ≡ (ltb d N && not (eqb b 1))
gone_same d M N a b e f = rw (e, f) refl

deaths_same : (t u : Table) → u.machine_count ≡ t.machine_count → ((m : ℕ) → (machine_at u m).alive ≡ (machine_at t m).alive) → deaths u ≡ deaths t
deaths_same t u e alive = count_to_same (λ d. gone u d) (λ d. gone t d) 16 (λ d l. gone_same d u.machine_count t.machine_count
    (machine_at u d).alive (machine_at t d).alive e (alive d))

deaths_died : (t : Table) (a : ℕ) → Invariant t → Dying t a → deaths (died t a) ≡ deaths t + 1
deaths_died t a w c =
    let u = died t a in
    let l = machine_16 t w a c.machine in
    let e : u.machine_count ≡ t.machine_count = fixed_died (λ s. s.machine_count) fixed_machine_count t a in
    let alive : not (eqb (machine_at t a).alive 1) ≡ false = rw (eq-eqb (machine_at t a).alive 1 c.alive) refl in
    let before : gone t a ≡ false = rw (alive, lt-ltb a t.machine_count c.machine) refl in
    let same : (d n : ℕ) → (machine_at u d).alive ≡ n → gone u d ≡ (ltb d t.machine_count && not (eqb n 1)) =
    λ d n. gone_same d u.machine_count t.machine_count (machine_at u d).alive n e in
    let after : gone u a ≡ true =
    same a 0 (ap (λ (n : Machine). n.alive) (machine_died t a w.sized l)) ∙ rw (lt-ltb a t.machine_count c.machine) refl in
    count_to_one (λ d. gone t d) (λ d. gone u d) 16 a l before after
    (λ d k n. sym (same d (machine_at t d).alive (ap (λ (v : Machine). v.alive) (machine_died_other t a d n)))) ∙ omega arith

-- one machine more, which is not d
below_next : (d M : ℕ) → d ≢ M → ltb d (M + 1) ≡ ltb d M
below_next d M n =
    by_bool (ltb d M)
    (λ e. let l = ltb-true d M e in lt-ltb d (M + 1) (omega arith) ∙ sym e)
    (λ e. let l = ltb-false d M e in le-ltb d (M + 1) (omega arith) ∙ sym e)

-- who joins lives, and was not there before
deaths_joined : (t : Table) (a : ℕ) → Invariant t → Joining t a → deaths (joined t a) ≡ deaths t
deaths_joined t a w c =
    let u = joined t a in
    let M = t.machine_count in
    count_to_same (λ d. gone u d) (λ d. gone t d) 16 (λ d l.
    by_eq d a
    (λ e. rw (
      e,
      machine_joined t a w.sized (join_16 t a c),
      and_false (ltb a u.machine_count),
      le-ltb a M (omega (arith, c.next)),
    ) refl)
    (λ e. rw (
      machine_joined_other t a d e,
      machine_count_joined t a,
      below_next d M (λ z. e (z ∙ sym c.next)),
    ) refl))

-- ---- any event

module _ (t : Table) (w : Invariant t) (e : List ℕ) where
  abbrev Counted : Answer → Type 0
  Counted x = deaths x.table ≡ deaths t + cond (eqb x.number 0 && eqb (code_of e) DIE) 1 0

  -- an event of another kind
  not_a_death : (u : Table) (k : ℕ) → code_of e ≡ k → eqb k DIE ≡ false → deaths u ≡ deaths t → Counted (accept u)
  not_a_death u k c n same =
      rw (other_code (code_of e) k DIE c n) (omega (arith, same))

  deaths_step : deaths (step_of t e).table ≡ deaths t + cond (kills t e) 1 0
  deaths_step =
      let a = first_of e in
      let b = second_of e in
      by_cases Counted t e (λ n r. rw (ne_eqb n 0 (refused_nonzero 9 n (omega arith) r)) (omega arith)) (record {
        admit = λ c d. not_a_death (admitted t a) ADMIT c refl (deaths_same t _ (fixed_admitted (λ s. s.machine_count) fixed_machine_count t a)
            (alive_admitted t a));
        steal = λ c d. not_a_death (stolen t a b) STEAL c refl (deaths_same t _ (fixed_stolen (λ s. s.machine_count) fixed_machine_count t a b)
            (alive_stolen t a b));
        deliver = λ c d. not_a_death (delivered t (oldest t a b)) DELIVER c refl
            (deaths_same t _ (fixed_delivered (λ s. s.machine_count) fixed_machine_count t (oldest t a b)) (alive_delivered t (oldest t a b)));
        start = λ c d. not_a_death (started t a b) START c refl (deaths_same t _ (fixed_started (λ s. s.machine_count) fixed_machine_count t a b)
            (alive_started t a b));
        done = λ c d. not_a_death (finished t a) DONE c refl (deaths_same t _ (fixed_finished (λ s. s.machine_count) fixed_machine_count t a)
            (alive_finished t a));
        die = λ c d. rw (eq-eqb (code_of e) DIE c) (deaths_died t a w d);
        notice = λ c d. not_a_death (noticed t a b) NOTICE c refl (deaths_same t _ (fixed_noticed (λ s. s.machine_count) fixed_machine_count t a b)
            (alive_noticed t a b));
        join = λ c d. not_a_death (joined t a) JOIN c refl (deaths_joined t a w d);
      })

pub deaths_run : (t : Table) (es : List (List ℕ)) → Invariant t → deaths (run_of t es) ≡ deaths t + count_of kills t es
deaths_run = count_along deaths kills (λ t e w. deaths_step t w e)

-- ---- the largest replica number

pub max_replica_deaths : (t : Table) → Invariant t → max_replica t ≤ 1 + deaths t
unfolding max_replica
max_replica_deaths t w =
    omega (
      arith,
      count_to_up (λ d. eqb (told_at t 0 d) 1) (λ d. gone t d) 16 (λ d l e.
          let one = eqb-true (told_at t 0 d) 1 e in
          let some : told_at t 0 d ≢ 0 = λ z. omega arith in
          let g = w.ok.told 0 d (omega arith) l in
          let dead = told_dead t.machine_count (machine_at t d).alive 0 d (told_at t 0 d) g some in
          rw (lt-ltb d t.machine_count (told_in_lem t.machine_count (machine_at t d).alive 0 d (told_at t 0 d) g some).1, dead) refl),
    )

-- along a run from a table without a death
pub max_replica_run : (t : Table) (es : List (List ℕ)) → Invariant t → deaths t ≡ 0 → max_replica (run_of t es) ≤ 1 + count_of kills t es
max_replica_run t es w none = omega (arith, max_replica_deaths (run_of t es) (invariant_run t es w), deaths_run t es w)
