-- One event as it is answered by two chains of a steal's refusals: a steal, or one that is answered alike, with none of the three reasons. By today's
-- chain it is answered as it is today. Assumes nothing.
use Prim.Native.Nat.{ℕ, ◌≤◌, ◌<◌}
use mathlib.Core.Path.{◌≡◌, refl, sym, ap, ◌∙◌}
use mathlib.Core.Logic.{◌≢◌}
use mathlib.Core.Bool.{Bool, true, false, not, cond}
use mathlib.Core.List.{List}
use borrow.Author.Tests.{not-false, eq-eqb, ne_eqb}
use lib.Dec.{eqb, leb}
use Rattle.lists.proofs.Cases.{by_bool, by_eq}
use Rattle.table.specs.declared.Job.{Job}
use Rattle.table.specs.declared.Machine.{Machine}
use Rattle.table.specs.declared.Table.{Table}
use Rattle.table.specs.declared.Answer.{Answer}
use Rattle.table.specs.Views.{job_at, machine_at, told_at, pool_at, refuse}
use Rattle.table.specs.Messages.{oldest}
use Rattle.table.specs.Parts.{NOT_ADMITTED}
use Rattle.validity.specs.Validity.{table_ok}
use Rattle.event_admit_deliver_die.specs.AdmitDeliverDie.{admit_number, admit_of, deliver_number, deliver_of, die_number, die_of}
use Rattle.event_admit_deliver_die.proofs.Made.{admit_number_lem, deliver_number_lem, die_number_lem}
use Rattle.event_steal.specs.Steal.{steal_number, steal_of}
use Rattle.event_start_done.specs.StartDone.{start_number, start_of, done_number, done_of}
use Rattle.event_start_done.proofs.Made.{start_number_lem, done_number_lem}
use Rattle.event_notice.specs.Notice.{notice_number, notice_of}
use Rattle.event_notice.proofs.Number.{notice_number_lem}
use Rattle.event_join.specs.Join.{join_number, join_of}
use Rattle.event_join.proofs.Cases.{join_number_lem}
use Rattle.dispatcher.specs.Codes.{STEAL, last_code}
use Rattle.dispatcher.specs.Step.{code_of, first_of, second_of, two_machines, well_formed, indices_in_range, event_of, answer_of, step_of}
use Rattle.dispatcher.proofs.Form.{well_formed_code}
use Rattle.dispatcher.proofs.Numbers.{machines_in}
use Rattle.dispatcher.proofs.OnTable.{by_code}
use Rattle.dispatcher_before.specs.Before.{Chain, steal_by, event_by, answer_by, step_by}
use Rattle.dispatcher_before.specs.Reasons.{is_reason}

abbrev pub NoReason : ℕ → Type 0
NoReason n = is_reason n ≡ false

-- ---- no other event gets one of the three

-- up to three refusals by other numbers
chain : (p q r : Bool) (k l m : ℕ) → NoReason k → NoReason l → NoReason m → NoReason (cond p k (cond q l (cond r m 0)))
chain true q r k l m x y z = x
chain false true r k l m x y z = y
chain false false true k l m x y z = z
chain false false false k l m x y z = refl

admit_none : (v : Job) → NoReason (admit_number v)
unfolding admit_number
admit_none v = chain (not (eqb v.state NOT_ADMITTED)) false false 13 0 0 refl refl refl

deliver_none : (used slot : ℕ) → NoReason (deliver_number used slot)
unfolding deliver_number
deliver_none used slot = chain (leb used slot) false false 15 0 0 refl refl refl

start_none : (n : Machine) (cell : ℕ) → NoReason (start_number n cell)
unfolding start_number
start_none n cell = chain (not (eqb n.alive 1)) (not (eqb n.running_replica 0)) (eqb cell 0) 12 17 18 refl refl refl

done_none : (n : Machine) (used : ℕ) → NoReason (done_number n used)
unfolding done_number
done_none n used = chain (not (eqb n.alive 1)) (eqb n.running_replica 0) (leb 128 used) 12 19 16 refl refl refl

die_none : (a : ℕ) (n : Machine) → NoReason (die_number a n)
unfolding die_number
die_none a n = chain (eqb a 0) (not (eqb n.alive 1)) false 20 12 0 refl refl refl

notice_none : (n d : Machine) (told : ℕ) → NoReason (notice_number n d told)
unfolding notice_number
notice_none n d told = chain (not (eqb n.alive 1)) (eqb d.alive 1) (not (eqb told 0)) 12 21 22 refl refl refl

join_none : (count a : ℕ) → NoReason (join_number count a)
unfolding join_number
join_none count a = chain (leb 16 count) (not (eqb a count)) false 26 27 0 refl refl refl

-- an answer by its number, which is n
none : (n : ℕ) (x : Answer) → NoReason n → n ≡ x.number → NoReason x.number
none n x y e = sym (ap (λ (k : ℕ). is_reason k) e) ∙ y

other_none : (t : Table) (code a b : ℕ) → indices_in_range t code a b ≡ true → 1 ≤ code → code ≤ last_code → code ≢ STEAL
    → NoReason (event_of t code a b).number
other_none t code a b i l m =
    by_code t code a b i l m (λ k o. k ≢ STEAL → NoReason o.number) record {
      admit = λ h c. none _ (admit_of t a) (admit_none (job_at t a)) (admit_number_lem t a);
      steal = λ h k c. absurd (c refl);
      deliver = λ c. none _ (deliver_of t a b) (deliver_none t.in_flight (oldest t a b)) (deliver_number_lem t a b);
      start = λ h k c. none _ (start_of t a b) (start_none (machine_at t a) (pool_at t a b)) (start_number_lem t a b);
      done = λ h k c. none _ (done_of t a) (done_none (machine_at t a) t.in_flight) (done_number_lem t a);
      die = λ h k c. none _ (die_of t a) (die_none a (machine_at t a)) (die_number_lem t a);
      notice = λ h k c. none _ (notice_of t a b) (notice_none (machine_at t a) (machine_at t b) (told_at t a b)) (notice_number_lem t a b);
      join = λ c. none _ (join_of t a) (join_none t.machine_count a) (join_number_lem t a);
    }

-- ---- by the code, and by 9, 10 and 11

module _ (P : Answer → Answer → Type 0) (t : Table) (alike : (x : Answer) → NoReason x.number → P x x) (f g : Chain) where
  by_event : (code a b : ℕ) → indices_in_range t code a b ≡ true → 1 ≤ code → code ≤ last_code
      → (a < t.machine_count → b < t.machine_count → code ≡ STEAL → P (steal_by f t a b) (steal_by g t a b))
      → P (event_by f t code a b) (event_by g t code a b)
  unfolding event_by
  by_event code a b i l m steal =
      by_eq code STEAL
      (λ c. let p = machines_in t code a b i (ap (λ (k : ℕ). two_machines k) c) in rw (eq-eqb code STEAL c) (steal p.0 p.1 c))
      (λ c. rw (ne_eqb code STEAL c) (alike (event_of t code a b) (other_none t code a b i l m c)))

  -- a steal that comes to its own refusals is on a table that passes check 9, is well formed, and its numbers are those of machines
  pub by_chain : (e : List ℕ)
      → (table_ok t ≡ true → well_formed e ≡ true → first_of e < t.machine_count → second_of e < t.machine_count → code_of e ≡ STEAL
      → P (steal_by f t (first_of e) (second_of e)) (steal_by g t (first_of e) (second_of e)))
      → P (step_by f t e) (step_by g t e)
  unfolding step_by answer_by
  by_chain e steal =
      by_bool (not (table_ok t)) (λ x. rw x (alike (refuse 9 t) refl))
      (λ x. by_bool (not (well_formed e)) (λ y. rw (x, y) (alike (refuse 10 t) refl))
      (λ y. by_bool (not (indices_in_range t (code_of e) (first_of e) (second_of e))) (λ z. rw (x, y, z) (alike (refuse 11 t) refl))
      (λ z. let w = well_formed_code e (not-false _ y) in
      rw (x, y, z) (by_event (code_of e) (first_of e) (second_of e) (not-false _ z) w.0 w.1 (steal (not-false _ x) (not-false _ y))))))

-- ---- today's chain

event_today : (t : Table) (code a b : ℕ) → event_by steal_number t code a b ≡ event_of t code a b
unfolding event_by event_of steal_by steal_of
event_today t code a b = by_eq code STEAL (λ c. rw c) (λ c. rw (ne_eqb code STEAL c))

pub step_today : (t : Table) (e : List ℕ) → step_by steal_number t e ≡ step_of t e
unfolding step_by step_of answer_by answer_of
step_today t e =
    ap (λ (x : Answer). cond (not (table_ok t)) (refuse 9 t) (cond (not (well_formed e)) (refuse 10 t)
    (cond (not (indices_in_range t (code_of e) (first_of e) (second_of e))) (refuse 11 t) x)))
    (event_today t (code_of e) (first_of e) (second_of e))
