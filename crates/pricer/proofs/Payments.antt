-- The payments of a year are one of four numbers. Assumes nothing.
use mathlib.Core.Path.{◌≡◌, sym, subst}
use mathlib.Core.Bool.{true}
use Prim.Native.Nat.{ℕ}
use borrow.Author.Tests.{eqb-true}
use lib.Dec.{eqb}
use Rattle.lists.proofs.Cases.{by_bool}
use Rattle.pricer.specs.Range.{payments_in_range}

-- what holds of 1, 2, 4 and 12 holds of them
pub by_payments : (P : ℕ → Type 0) → P 1 → P 2 → P 4 → P 12 → (k : ℕ) → payments_in_range k ≡ true → P k
by_payments P a b c d k h =
    by_bool (eqb k 1)
    (λ e. subst P (sym (eqb-true k 1 e)) a)
    (λ e. by_bool (eqb k 2)
    (λ f. subst P (sym (eqb-true k 2 f)) b)
    (λ f. by_bool (eqb k 4)
    (λ g. subst P (sym (eqb-true k 4 g)) c)
    (λ g. subst P (sym (eqb-true k 12 (rw (e, f, g) at h))) d)))
