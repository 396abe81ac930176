-- One event on a table, by cases: it is refused, with a number that is not 0 and the table as it was; or it is accepted, and then its refusals have
-- tested what the record of its kind says (proofs/Cases.antt of the event's crate).
-- Assumes nothing.
use Prim.Native.Nat.{ℕ, ◌≤◌, ◌<◌}
use mathlib.Core.Path.{◌≡◌, refl, ap, ◌∙◌}
use mathlib.Core.Logic.{◌≢◌}
use mathlib.Core.Bool.{true, not}
use mathlib.Core.List.{List}
use native.Mathlib.Omega.{arith}
use borrow.Author.Tests.{eqb-true, not-false}
use lib.Dec.{eqb}
use Rattle.lists.proofs.Cases.{by_bool}
use Rattle.table.specs.declared.Table.{Table}
use Rattle.table.specs.declared.Answer.{Answer}
use Rattle.table.specs.Views.{refuse}
use Rattle.table.specs.Messages.{oldest}
use Rattle.table.specs.Parts.{accept}
use Rattle.table.proofs.Refusals.{is_refusal, refused_most, refused_not_9, refused_wider}
use Rattle.validity.specs.Validity.{table_ok}
use Rattle.event_admit_deliver_die.specs.AdmitDeliverDie.{admitted, delivered, died}
use Rattle.event_admit_deliver_die.proofs.Cases.{Admitting, Delivering, Dying, by_admit, by_deliver, by_die}
use Rattle.event_steal.specs.Steal.{stolen}
use Rattle.event_steal.proofs.Cases.{Stealing, by_steal}
use Rattle.event_start_done.specs.StartDone.{started, finished}
use Rattle.event_start_done.proofs.Cases.{Starting, Finishing, by_start, by_done}
use Rattle.event_notice.specs.Notice.{noticed}
use Rattle.event_notice.proofs.Cases.{Noticing, by_notice}
use Rattle.event_join.specs.Join.{joined}
use Rattle.event_join.proofs.Cases.{Joining, by_join}
use Rattle.dispatcher.proofs.Numbers.{entry_in, start_in, machines_in}
use Rattle.dispatcher.specs.Codes.{ADMIT, STEAL, DELIVER, START, DONE, DIE, NOTICE, JOIN}
use Rattle.dispatcher.specs.Step.{code_of, first_of, second_of, two_machines, well_formed, indices_in_range, event_of, answer_of, step_of}

-- ---- an accepted event, by its code: the one list of the events

-- P of the table that it returns; the premise is what its refusals have tested
pub record Arms (P : Table → Type 0) (t : Table) (e : List ℕ) : Type 0 where
  pub admit : code_of e ≡ ADMIT → Admitting t (first_of e) → P (admitted t (first_of e))
  pub steal : code_of e ≡ STEAL → Stealing t (first_of e) (second_of e) → P (stolen t (first_of e) (second_of e))
  pub deliver : code_of e ≡ DELIVER → Delivering t (first_of e) (second_of e) → P (delivered t (oldest t (first_of e) (second_of e)))
  pub start : code_of e ≡ START → Starting t (first_of e) (second_of e) → P (started t (first_of e) (second_of e))
  pub done : code_of e ≡ DONE → Finishing t (first_of e) → P (finished t (first_of e))
  pub die : code_of e ≡ DIE → Dying t (first_of e) → P (died t (first_of e))
  pub notice : code_of e ≡ NOTICE → Noticing t (first_of e) (second_of e) → P (noticed t (first_of e) (second_of e))
  pub join : code_of e ≡ JOIN → Joining t (first_of e) → P (joined t (first_of e))

-- what holds of every table, whatever the event
every_arm : (P : Table → Type 0) (t : Table) (e : List ℕ) → ((u : Table) → P u) → Arms P t e
every_arm P t e f = record {
  admit = λ c d. f _;
  steal = λ c d. f _;
  deliver = λ c d. f _;
  start = λ c d. f _;
  done = λ c d. f _;
  die = λ c d. f _;
  notice = λ c d. f _;
  join = λ c d. f _;
}

-- ---- any event, of any bytes

-- 10 and 11 refuse; what is left is well formed, and its numbers are those of the table
pub by_form : (P : Answer → Type 0) (t : Table) (e : List ℕ) → ((n : ℕ) → is_refusal 10 n ≡ true → P (refuse n t))
    → (well_formed e ≡ true → indices_in_range t (code_of e) (first_of e) (second_of e) ≡ true → P (event_of t (code_of e) (first_of e) (second_of e)))
    → P (answer_of t e)
unfolding answer_of
by_form P t e refused event =
    by_bool (not (well_formed e)) (λ f. rw (f, answer_of) (refused 10 refl))
    (λ f. by_bool (not (indices_in_range t (code_of e) (first_of e) (second_of e))) (λ g. rw (f, g, answer_of) (refused 11 refl))
    (λ g. rw (f, g, answer_of) (event (not-false _ f) (not-false _ g))))

module _ (P : Answer → Type 0) (t : Table) (e : List ℕ)
    (refused : (n : ℕ) → is_refusal 10 n ≡ true → P (refuse n t)) (arms : Arms (λ u. P (accept u)) t e) where
  by_event : indices_in_range t (code_of e) (first_of e) (second_of e) ≡ true → P (event_of t (code_of e) (first_of e) (second_of e))
  unfolding event_of
  by_event g =
      let c = code_of e in
      let a = first_of e in
      let b = second_of e in
      let two : (n : ℕ) → eqb c n ≡ true → two_machines n ≡ true → (a < t.machine_count) × (b < t.machine_count) =
      λ n x y. machines_in t c a b g (ap (λ (k : ℕ). two_machines k) (eqb-true c n x) ∙ y) in
      by_bool (eqb c ADMIT)
      (λ x. rw (x, event_of) (by_admit t a (entry_in t c a b g (eqb-true c ADMIT x)) P refused (arms.admit (eqb-true c ADMIT x))))
      (λ x1. by_bool (eqb c STEAL)
      (λ x. let p = two STEAL x refl in rw (x1, x, event_of) (by_steal t a b p.0 p.1 P refused (arms.steal (eqb-true c STEAL x))))
      (λ x2. by_bool (eqb c DELIVER) (λ x. rw (x1, x2, x, event_of) (by_deliver t a b P refused (arms.deliver (eqb-true c DELIVER x))))
      (λ x3. by_bool (eqb c START) (λ x. let p = start_in t c a b g (eqb-true c START x) in rw (x1, x2, x3, x, event_of)
      (by_start t a b p.0 p.1 P refused (arms.start (eqb-true c START x))))
      (λ x4. by_bool (eqb c DONE) (λ x. rw (x1, x2, x3, x4, x, event_of) (by_done t a (two DONE x refl).0 P refused (arms.done (eqb-true c DONE x))))
      (λ x5. by_bool (eqb c DIE) (λ x. rw (x1, x2, x3, x4, x5, x, event_of) (by_die t a (two DIE x refl).0 P refused (arms.die (eqb-true c DIE x))))
      (λ x6. by_bool (eqb c NOTICE) (λ x. let p = two NOTICE x refl in rw (x1, x2, x3, x4, x5, x6, x, event_of)
      (by_notice t a b p.0 p.1 P refused (arms.notice (eqb-true c NOTICE x))))
      (λ x7. by_bool (eqb c JOIN) (λ x. rw (x1, x2, x3, x4, x5, x6, x7, x, event_of) (by_join t a P refused (arms.join (eqb-true c JOIN x))))
      (λ x8. rw (x1, x2, x3, x4, x5, x6, x7, x8, event_of) (refused 10 refl)))))))))

  pub by_answer : P (answer_of t e)
  by_answer = by_form P t e refused (λ f g. by_event g)

-- of any table
pub by_cases : (P : Answer → Type 0) (t : Table) (e : List ℕ) → ((n : ℕ) → is_refusal 9 n ≡ true → P (refuse n t)) → Arms (λ u. P (accept u)) t e
    → P (step_of t e)
unfolding step_of
by_cases P t e refused arms =
    by_bool (not (table_ok t)) (λ f. rw (f, step_of) (refused 9 refl))
    (λ f. rw (f, step_of) (by_answer P t e (λ n r. refused n (refused_wider n r)) arms))

-- the same by the number alone
pub answer_number : (P : Answer → Type 0) (t : Table) (e : List ℕ) → ((n : ℕ) → is_refusal 10 n ≡ true → P (refuse n t)) → ((u : Table) → P (accept u))
    → P (answer_of t e)
answer_number P t e refused f = by_answer P t e refused (every_arm (λ u. P (accept u)) t e f)

pub step_number_lem : (P : Answer → Type 0) (t : Table) (e : List ℕ) → ((n : ℕ) → is_refusal 9 n ≡ true → P (refuse n t)) → ((u : Table) → P (accept u))
    → P (step_of t e)
step_number_lem P t e refused f = by_cases P t e refused (every_arm (λ u. P (accept u)) t e f)

-- 10, 11 and the events answer other numbers than 9
pub answer_9 : (t : Table) (e : List ℕ) → (answer_of t e).number ≢ 9
answer_9 t e = answer_number (λ x. x.number ≢ 9) t e refused_not_9 (λ u z. omega arith)

-- a number has at most two digits
pub number_most : (t : Table) (e : List ℕ) → (step_of t e).number ≤ 99
number_most t e = step_number_lem (λ x. x.number ≤ 99) t e (refused_most 9) (λ u. omega arith)

-- a refused event returns the table as it was
pub step_refused : (t : Table) (e : List ℕ) → (step_of t e).number ≢ 0 → (step_of t e).table ≡ t
step_refused t e = step_number_lem (λ x. x.number ≢ 0 → x.table ≡ t) t e (λ n r f. refl) (λ u f. absurd (f refl))
