-- An event by its number: with another number than 0 it hands the table back; with 0 the table of a Die, a Notice or a Join is that of the event, whose
-- refusals have tested what the record of its kind says. Assumes nothing.
use Prim.Native.Nat.{ℕ, ◌≤◌, ◌<◌}
use mathlib.Core.Path.{◌≡◌, refl, sym, ap, ◌∙◌}
use mathlib.Core.Logic.{◌≢◌}
use mathlib.Core.Bool.{true}
use mathlib.Core.List.{List}
use native.Mathlib.Omega.{arith}
use borrow.Author.Tests.{ne_eqb}
use Rattle.lists.proofs.Cases.{by_eq}
use Rattle.table.specs.declared.Table.{Table}
use Rattle.table.specs.declared.Answer.{Answer}
use Rattle.table.specs.Views.{refuse}
use Rattle.table.proofs.Refusals.{Judged, accepted}
use Rattle.event_admit_deliver_die.specs.AdmitDeliverDie.{died, die_of}
use Rattle.event_admit_deliver_die.proofs.Cases.{Dying, by_die}
use Rattle.event_notice.specs.Notice.{noticed, notice_of}
use Rattle.event_notice.proofs.Cases.{Noticing, by_notice}
use Rattle.event_join.specs.Join.{joined, join_of}
use Rattle.event_join.proofs.Cases.{Joining, by_join}
use Rattle.dispatcher.proofs.Events.{answer_number}
use Rattle.dispatcher.proofs.Numbers.{machines_in}
use Rattle.dispatcher.specs.Codes.{ADMIT, STEAL, DELIVER, START, DONE, DIE, NOTICE, JOIN}
use Rattle.dispatcher.specs.Step.{two_machines, indices_in_range, event_of, answer_of}

module _ (t : Table) (e : List ℕ) where
  pub answer_refused : (answer_of t e).number ≢ 0 → refuse (answer_of t e).number t ≡ answer_of t e
  answer_refused =
      answer_number (λ x. x.number ≢ 0 → refuse x.number t ≡ x) t e (λ n r z. refl) (λ u z. absurd (z refl))

-- ---- by the code

module _ (t : Table) (code a b : ℕ) (g : indices_in_range t code a b ≡ true) (z : (event_of t code a b).number ≡ 0) where
  -- the event is o, which accepts with the table u
  accepts : {D : Type 0} {u : Table} (o : Answer) → event_of t code a b ≡ o → Judged t D u o → D × (u ≡ (event_of t code a b).table)
  accepts {D} {u} o q by =
      let y = accepted t D u o by (ap (λ (w : Answer). w.number) (sym q) ∙ z) in
      (y.0, ap (λ (w : Answer). w.table) (y.1 ∙ sym q))

  two : (n : ℕ) → code ≡ n → two_machines n ≡ true → (a < t.machine_count) × (b < t.machine_count)
  two n e y = machines_in t code a b g (ap (λ (k : ℕ). two_machines k) e ∙ y)

  pub table_die : code ≡ DIE → Dying t a × (died t a ≡ (event_of t code a b).table)
  unfolding event_of
  table_die e = accepts (die_of t a) (rw (e, event_of) refl) (by_die t a (two DIE e refl).0)

  pub table_notice : code ≡ NOTICE → Noticing t a b × (noticed t a b ≡ (event_of t code a b).table)
  unfolding event_of
  table_notice e = accepts (notice_of t a b) (rw (e, event_of) refl) (let m = two NOTICE e refl in by_notice t a b m.0 m.1)

  pub table_join : code ≡ JOIN → Joining t a × (joined t a ≡ (event_of t code a b).table)
  unfolding event_of
  table_join e = accepts (join_of t a) (rw (e, event_of) refl) (by_join t a)

-- past Notice no other code than Join's is one of an event
pub late_join : (t : Table) (code a b : ℕ) → DIE ≤ code → code ≢ DIE → code ≢ NOTICE → (event_of t code a b).number ≡ 0 → code ≡ JOIN
unfolding event_of
late_join t code a b h n m z =
    by_eq code JOIN (λ e. e)
    (λ f. let y : 10 ≡ 0 = rw (
      ne_eqb code ADMIT (λ q. omega arith),
      ne_eqb code STEAL (λ q. omega arith),
      ne_eqb code DELIVER (λ q. omega arith),
      ne_eqb code START (λ q. omega arith),
      ne_eqb code DONE (λ q. omega arith),
      ne_eqb code DIE n,
      ne_eqb code NOTICE m,
      ne_eqb code JOIN f,
    ) at z in absurd (omega arith))
