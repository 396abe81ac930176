-- The number of a refused event, as a test with the laws that callers use, and an event's answer by cases: refused or accepted.
-- Assumes nothing.
use Prim.Native.Nat.{ℕ, ◌≤◌}
use mathlib.Core.Path.{◌≡◌, refl, sym}
use mathlib.Core.Logic.{◌≢◌}
use mathlib.Core.Bool.{Bool, true, ◌&&◌}
use native.Mathlib.Omega.{arith}
use borrow.Author.Tests.{eqb-true, leb-true, le-leb}
use lib.Dec.{eqb, leb}
use Rattle.lists.proofs.Cases.{by_bool, and_left, and_right}
use Rattle.table.specs.declared.Answer.{Answer}
use Rattle.table.specs.declared.Table.{Table}
use Rattle.table.specs.Views.{refuse}
use Rattle.table.specs.Parts.{accept, judged}

-- at least `least`, which is 10 on a table that passes check 9 and 9 on any, and of two digits at most
abbrev pub is_refusal : ℕ → ℕ → Bool
is_refusal least n = leb least n && leb n 99

pub refused_least : (k n : ℕ) → is_refusal k n ≡ true → k ≤ n
refused_least k n e = leb-true k n (and_left (leb k n) (leb n 99) e)

pub refused_most : (k n : ℕ) → is_refusal k n ≡ true → n ≤ 99
refused_most k n e = leb-true n 99 (and_right (leb k n) (leb n 99) e)

-- it is not 0; 10 and more are not 9
pub refused_nonzero : (k n : ℕ) → 1 ≤ k → is_refusal k n ≡ true → n ≢ 0
refused_nonzero k n h e z = omega (arith, refused_least k n e)

pub refused_not_9 : (n : ℕ) → is_refusal 10 n ≡ true → n ≢ 9
refused_not_9 n e z = omega (arith, refused_least 10 n e)

pub refused_wider : (n : ℕ) → is_refusal 10 n ≡ true → is_refusal 9 n ≡ true
refused_wider n e = rw (le-leb 9 n (omega (arith, refused_least 10 n e)), le-leb n 99 (refused_most 10 n e))

-- the answer o of an event to the table t, by cases: refused, with the table as it was; or accepted with the table u, and then D has been tested
abbrev pub Judged : Table → Type 0 → Table → Answer → Type 1
Judged t D u o = (P : Answer → Type 0) → ((n : ℕ) → is_refusal 10 n ≡ true → P (refuse n t)) → (D → P (accept u)) → P o

-- by its number: 0 is accepted
pub accepted : (t : Table) (D : Type 0) (u : Table) (o : Answer) → Judged t D u o → o.number ≡ 0 → D × (accept u ≡ o)
accepted t D u o by =
    by (λ x. x.number ≡ 0 → D × (accept u ≡ x)) (λ n r z. absurd (refused_nonzero 10 n (omega arith) r z)) (λ d z. (d, refl))

-- an event is answered its number
pub judged_number : (t : Table) (n : ℕ) (u : Table) → (judged t n u).number ≡ n
judged_number t n u = by_bool (eqb n 0) (λ e. rw e (sym (eqb-true n 0 e))) (λ e. rw e refl)
