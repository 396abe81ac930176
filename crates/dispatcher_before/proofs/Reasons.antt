-- The three reasons of a turned-back steal beside the one number of before; the claim is in specs/Reasons.antt. Assumes nothing.
use Prim.Native.Nat.{ℕ, ◌<◌}
use mathlib.Core.Path.{◌≡◌, refl, sym, ap, ◌∙◌}
use mathlib.Core.Logic.{◌≢◌}
use mathlib.Core.Bool.{true, false, true≢false}
use mathlib.Core.List.{List, [], ◌∷◌, map}
use native.Mathlib.Omega.{arith}
use Rattle.lists.proofs.Cases.{by_bool}
use Rattle.table.specs.declared.Table.{Table}
use Rattle.table.specs.declared.Answer.{Answer}
use Rattle.table.specs.Views.{machine_at, told_at, refuse}
use Rattle.table.specs.Parts.{judged}
use Rattle.validity.specs.Validity.{table_ok}
use Rattle.protocol_preservation.proofs.Ok.{tests, machine_count_most}
use Rattle.protocol_preservation.proofs.Facts.{told_dead as flag-dead}
use Rattle.event_steal.specs.Steal.{stolen, steal_number}
use Rattle.dispatcher.specs.Codes.{STEAL}
use Rattle.dispatcher.specs.Step.{code_of, first_of, second_of}
use Rattle.dispatcher_before.specs.Before.{steal_number_before, steal_number_since, steal_by, step_by, run_by, answers_by}
use Rattle.dispatcher_before.specs.Reasons.{is_reason, number_before, Kept, Means, ThreeReasons}
use Rattle.dispatcher_before.proofs.ByChain.{by_chain, step_today}
use Rattle.dispatcher_before.proofs.Chains.{by_chains}

-- ---- numbers and answers

was_14 : (n : ℕ) → is_reason n ≡ true → number_before n ≡ 14
was_14 n y = rw y

was_same : (n : ℕ) → is_reason n ≡ false → number_before n ≡ n
was_same n y = rw y

-- a number that is none of the three is another than each of them
no_reason : (n k : ℕ) → is_reason n ≡ false → is_reason k ≡ true → n ≢ k
no_reason n k y r z = true≢false (sym r ∙ ap (λ (m : ℕ). is_reason m) (sym z) ∙ y)

-- an answer is kept by its number and its table
kept : (before now : Answer) → before.number ≡ number_before now.number → now.table ≡ before.table → Kept before now
kept before now n s =
    record {
      number = n;
      got = λ z. by_bool (is_reason now.number) (λ y. y) (λ y. absurd (no_reason now.number 14 y refl (sym (was_same now.number y) ∙ sym n ∙ z)));
      gets = λ y. n ∙ was_14 now.number y;
      other = λ z. by_bool (is_reason now.number) (λ y. absurd (z (n ∙ was_14 now.number y)))
          (λ y. ap (λ (k : ℕ). refuse k now.table) (sym (n ∙ was_same now.number y)) ∙ ap (refuse before.number) s);
      table = s;
    }

-- ---- a steal

steal_kept : (t : Table) (a b : ℕ) → Kept (steal_by steal_number_before t a b) (steal_by steal_number_since t a b)
unfolding steal_by
steal_kept t a b =
    let u = stolen t a b in
    by_chains (machine_at t a) (machine_at t b) (told_at t a b) t.in_flight a b (λ x y z. Kept (judged t x u) (judged t y u)) record {
      dead = kept _ _ refl refl;
      same = λ l d. kept _ _ refl refl;
      waits = λ l d w. kept _ _ refl refl;
      told = λ l d w y. kept _ _ refl refl;
      full = kept _ _ refl refl;
      through = λ l w y d f. kept _ _ refl refl;
      accepted = kept _ _ refl refl;
    }

-- ---- what the three say

-- who is told of is dead: check 9
told_dead : (t : Table) (a b : ℕ) → table_ok t ≡ true → a < t.machine_count → b < t.machine_count → told_at t a b ≢ 0 → (machine_at t b).alive ≢ 1
told_dead t a b h l k n z =
    let c = machine_count_most t (tests t h).sizes in
    let d = flag-dead t.machine_count (machine_at t b).alive a b (told_at t a b) ((tests t h).told a b (omega arith) (omega arith)) n in
    omega arith

module _ (t : Table) (a b : ℕ) (dead : told_at t a b ≢ 0 → (machine_at t b).alive ≢ 1) where
  abbrev Said : ℕ → Type 0
  Said n = is_reason n ≡ true → Means t a b n

  -- any other number
  silent : (n : ℕ) → is_reason n ≡ false → Said n
  silent n y r = absurd (true≢false (sym r ∙ y))

  steal_means : Said (steal_by steal_number t a b).number
  unfolding steal_by
  steal_means =
      by_chains (machine_at t a) (machine_at t b) (told_at t a b) t.in_flight a b (λ x y z. Said (judged t z (stolen t a b)).number) record {
        dead = silent 12 refl;
        same = λ l d r. record {
          alive = l;
          same = λ z. d;
          waits = λ z. absurd (omega arith);
          told = λ z. absurd (omega arith);
          dead = λ z. absurd (omega arith);
        };
        waits = λ l d w r. record {
          alive = l;
          same = λ z. absurd (omega arith);
          waits = λ z. (d, w);
          told = λ z. absurd (omega arith);
          dead = λ z. absurd (omega arith);
        };
        told = λ l d w y r. record {
          alive = l;
          same = λ z. absurd (omega arith);
          waits = λ z. absurd (omega arith);
          told = λ z. (d, w, y);
          dead = λ z. dead y;
        };
        full = silent 16 refl;
        through = λ l w y d f. silent 0 refl;
        accepted = silent 0 refl;
      }

-- ---- any event, and a list of events

pub step_kept : (t : Table) (e : List ℕ) → Kept (step_by steal_number_before t e) (step_by steal_number_since t e)
step_kept t e =
    by_chain Kept t (λ x y. kept x x (sym (was_same x.number y)) refl) steal_number_before steal_number_since e
    (λ h w l k c. steal_kept t (first_of e) (second_of e))

run_kept : (t : Table) (es : List (List ℕ)) → run_by steal_number_since t es ≡ run_by steal_number_before t es
unfolding run_by
run_kept t [] = refl
run_kept t (e ∷ es) = rw (step_kept t e).table (run_kept (step_by steal_number_before t e).table es)

answers_kept : (t : Table) (es : List (List ℕ)) → answers_by steal_number_before t es ≡ map number_before (answers_by steal_number_since t es)
unfolding answers_by
answers_kept t [] = refl
answers_kept t (e ∷ es) = rw ((step_kept t e).number, (step_kept t e).table, answers_kept (step_by steal_number_before t e).table es)

pub three_reasons : ThreeReasons
three_reasons =
    record {
      steal = steal_kept;
      event = step_kept;
      means = λ t e.
          let a = first_of e in
          let b = second_of e in
          rw (sym (step_today t e))
          (by_chain (λ x y. is_reason y.number ≡ true → (code_of e ≡ STEAL) × Means t a b y.number) t (λ x n y. absurd (true≢false (sym y ∙ n)))
          steal_number steal_number e
          (λ h w l k c y. (c, steal_means t a b (told_dead t a b h l k) y)));
      run = run_kept;
      answers = answers_kept;
    }
