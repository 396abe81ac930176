-- Document 02, 2.6: machines that join, along every run. What event 8 is answered and what it adds is read off its definition and check 9; the machine
-- count grows by one at every accepted join and at no other event.
-- Assumes nothing.
use Prim.Native.Nat.{ℕ, ◌+◌, ◌<◌}
use mathlib.Core.Path.{◌≡◌, ap, ◌∙◌}
use mathlib.Core.Logic.{◌≢◌}
use mathlib.Core.Bool.{true, false, cond, ◌&&◌}
use mathlib.Core.List.{List}
use native.Mathlib.Omega.{arith}
use borrow.Author.Tests.{eq-eqb, ne_eqb, le-leb, lt-leb}
use lib.Dec.{eqb, leb}
use lib.ListN.{length}
use Rattle.lists.proofs.Cases.{by_bool, and_false}
use Rattle.book.specs.Book.{book_verdict}
use Rattle.table.specs.declared.Table.{Table}
use Rattle.table.specs.declared.Answer.{Answer}
use Rattle.table.specs.Views.{refuse}
use Rattle.table.specs.Parts.{accept}
use Rattle.table.proofs.Refusals.{refused_nonzero}
use Rattle.table_opening.specs.Opening.{open_of}
use Rattle.table_opening.proofs.Shown.{machine_count_fresh, opened_table}
use Rattle.event_join.specs.Join.{joined, join_number, join_of}
use Rattle.event_join.proofs.Cases.{Joining, join_16}
use Rattle.event_join.proofs.Views.{machine_count_joined, machine_joined, pool_joined, told_joined}
use Rattle.protocol_preservation.proofs.Ok.{Valid}
use Rattle.protocol_preservation.proofs.Joined.{none_before, pool_none, told_none, told_of_none}
use Rattle.theorem_invariant.proofs.State.{valid}
use Rattle.theorem_invariant.proofs.Keeps.{invariant_run}
use Rattle.dispatcher.specs.Codes.{JOIN}
use Rattle.dispatcher.specs.Step.{code_of, first_of, second_of, well_formed, indices_in_range, event_of, answer_of, step_of, run_of, is_further}
use Rattle.dispatcher.proofs.Events.{by_cases}
use Rattle.dispatcher.proofs.Fixed.{fixed_machine_count, fixed_arms}
use Rattle.dispatcher.proofs.Preserved.{valid_passes, step_answer}
use Rattle.claims.specs.History.{count_of}
use Rattle.claims.specs.Joins.{is_join, Added, Join, Joinable, Joins}
use Rattle.claims.proofs.Runs.{other_code, count_along}
use Rattle.claims.proofs.Start.{start}

-- ---- one event on a table that passes check 9

module _ (t : Table) (v : Valid t) where
  answers : (e : List ℕ) → step_of t e ≡ answer_of t e
  answers e = step_answer t e (valid_passes t v)

  -- by 11
  judged : (e : List ℕ) → well_formed e ≡ true
      → answer_of t e ≡ cond (indices_in_range t (code_of e) (first_of e) (second_of e)) (event_of t (code_of e) (first_of e) (second_of e)) (refuse 11 t)
  unfolding answer_of
  judged e f = by_bool (indices_in_range t (code_of e) (first_of e) (second_of e)) (λ g. rw (f, g)) (λ g. rw (f, g))

  -- which does not judge a join
  own : (e : List ℕ) → well_formed e ≡ true → code_of e ≡ JOIN → step_of t e ≡ join_of t (first_of e)
  unfolding indices_in_range event_of
  own e f c = answers e ∙ judged e f ∙ rw c

  module _ (a : ℕ) (room : t.machine_count < 16) (next : a ≡ t.machine_count) where
    joining : Joining t a
    joining = record { room = room; next = next }

    added : Added t a (joined t a)
    added =
        let s = v.sized in
        let o = v.ok in
        record {
          count = machine_count_joined t a;
          last = rw (machine_count_joined t a) (omega (arith, next));
          new = none_before t s o a joining;
          machine = machine_joined t a s (join_16 t a joining);
          pool = λ j l. pool_joined t a a j ∙ pool_none t s o a joining j l;
          told = λ d l. told_joined t a a d ∙ told_none t s o a joining d l;
          untold = λ m l. told_joined t a m a ∙ told_of_none t s o a joining m l;
        }

  join : (a : ℕ) (x : Answer) → x ≡ join_of t a → Join t a x
  unfolding join_of join_number
  join a x own = record {
    full = λ e. own ∙ rw (le-leb 16 t.machine_count (omega arith));
    number = λ l n. own ∙ rw (lt-leb 16 t.machine_count l, ne_eqb a t.machine_count n);
    next = λ l e. own ∙ rw (lt-leb 16 t.machine_count l, eq-eqb a t.machine_count e);
    added = added a;
  }

  codes : (e : List ℕ) → leb 1 (code_of e) && leb (code_of e) 8 ≡ false → step_of t e ≡ refuse 10 t
  unfolding answer_of well_formed
  codes e h =
      answers e ∙ by_bool (leb 1 (code_of e))
      (λ l. let m : leb (code_of e) 8 ≡ false = rw l at h in rw (m, and_false (leb 3 (length e) && leb 1 (code_of e))))
      (λ l. rw (l, and_false (leb 3 (length e))))

  second : (e : List ℕ) → code_of e ≡ JOIN → second_of e ≢ 0 → step_of t e ≡ refuse 10 t
  unfolding answer_of well_formed
  second e c n = answers e ∙ rw (c, ne_eqb (second_of e) 0 n, and_false (leb 3 (length e) && true && true))

  pub joinable : Joinable t
  unfolding indices_in_range
  joinable = record {
    join = λ e f c. join (first_of e) (step_of t e) (own e f c);
    codes = codes;
    second = second;
    current = λ e f c. answers e ∙ judged e f ∙ rw c;
    start = λ e f c. answers e ∙ judged e f ∙ rw c;
  }

-- ---- the machine count

count_step : (t : Table) (e : List ℕ) → (step_of t e).table.machine_count ≡ t.machine_count + cond (is_join t e) 1 0
count_step t e =
    let Counted : Answer → Type 0 = λ x. x.table.machine_count ≡ t.machine_count + cond (eqb x.number 0 && eqb (code_of e) JOIN) 1 0 in
    by_cases Counted t e (λ n r. rw (ne_eqb n 0 (refused_nonzero 9 n (omega arith) r)) (omega arith))
    (fixed_arms (λ s. s.machine_count) fixed_machine_count (λ u. Counted (accept u)) t e
    (λ u k c n same. rw (other_code (code_of e) k JOIN c n) (omega (arith, same)))
    (λ c d. rw (eq-eqb (code_of e) JOIN c) (machine_count_joined t (first_of e))))

-- ---- a run

join_apart : (e : List ℕ) → code_of e ≡ JOIN → is_further e ≡ false
join_apart e c = rw (c, and_false (eqb (length e) 3))

pub machines_join : (book : List ℕ) → book_verdict book ≡ 0 → (events : List (List ℕ)) → Joins book events
machines_join book accepted events =
    let t = (open_of book).table in
    let i = (start book accepted).invariant in
    let w = invariant_run t events i in
    record {
      next = joinable (run_of t events) (valid (run_of t events) w);
      count = count_along (λ u. u.machine_count) is_join (λ u e x. count_step u e) t events i ∙ ap (λ (n : ℕ). n + count_of is_join t events)
          (ap (λ (u : Table). u.machine_count) (opened_table book accepted) ∙ machine_count_fresh book);
      most = w.facts.machine_count_most;
      apart = join_apart;
    }
