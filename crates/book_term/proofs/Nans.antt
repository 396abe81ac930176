-- The bits of a NaN make no bond in range, so a test for them before a number is made of them refuses nothing else. Assumes nothing.
use Rattle.std.proofs.Common.{Option, None}
use mathlib.Core.Path.{◌≡◌, refl, sym, ap, ◌∙◌, subst}
use mathlib.Core.Bool.{Bool, true, false, not, ◌&&◌, true≢false}
use Prim.Native.Nat.{ℕ}
use lib.Dec.{T, eqb}
use lib.Ieee.{Float, nan, inf, fin, binary64, le, is_nan, nan_bits}
use lib.Ieee.Bits.{nan_bits_is}
use Rattle.lists.proofs.Cases.{and_false, cond_same}
use Rattle.pricer.specs.Range.{coupon_in_range, yield_in_range, periods_in_range, payments_in_range, terms_in_range, in_range}
use Rattle.pricer.specs.Bonds.{with_terms}
use Rattle.pricer.specs.declared.Bond.{Bond}
use Rattle.pricer.specs.declared.Terms.TheVariants.{Zero, Fixed}
use Rattle.book_term.specs.Term.{float_of, checked, term_from}

is_nan_lem : (x : Float) → is_nan x ≡ true → x ≡ nan
unfolding is_nan
is_nan_lem nan h = refl
is_nan_lem (inf s) h = absurd (true≢false (sym h))
is_nan_lem (fin s m e) h = absurd (true≢false (sym h))

-- bits of a NaN stand for the NaN
pub nan_of : (b : ℕ) → nan_bits binary64 b ≡ true → float_of b ≡ nan
nan_of b h = is_nan_lem (float_of b) (sym (nan_bits_is binary64 b) ∙ h)

-- no range has it
coupon_nan : coupon_in_range nan ≡ false
unfolding le
coupon_nan = refl

yield_nan : yield_in_range nan ≡ false
unfolding le
yield_nan = refl

outside : (b : Bond) → terms_in_range b.terms ≡ false → checked b ≡ None
unfolding checked in_range
outside b e = simp (e, and_false (periods_in_range b.periods && payments_in_range b.payments))

module _ (b : Bond) (c y : ℕ) (h : nan_bits binary64 y ≡ true) where
  zero_yield : checked (with_terms b (Zero (float_of y))) ≡ None
  zero_yield = outside (with_terms b (Zero (float_of y))) (ap yield_in_range (nan_of y h) ∙ yield_nan)

  fixed_yield : checked (with_terms b (Fixed (float_of c) (float_of y))) ≡ None
  fixed_yield =
      outside (with_terms b (Fixed (float_of c) (float_of y)))
      (ap (λ (x : Float). coupon_in_range (float_of c) && yield_in_range x) (nan_of y h)
      ∙ ap (λ (t : Bool). coupon_in_range (float_of c) && t) yield_nan
      ∙ and_false (coupon_in_range (float_of c)))

  pub yield_refused : (k : ℕ) → term_from k b c y ≡ None
  unfolding term_from
  yield_refused k =
      let same = λ (t : Bool). cond_same {A = Option Bond} t None in
      rw (zero_yield, fixed_yield, same (eqb c 0), same (eqb k 2), same (eqb k 1))

pub coupon_refused : (b : Bond) (c y : ℕ) → nan_bits binary64 c ≡ true → checked (with_terms b (Fixed (float_of c) (float_of y))) ≡ None
coupon_refused b c y h =
    outside (with_terms b (Fixed (float_of c) (float_of y)))
    (ap (λ (x : Float). coupon_in_range x && yield_in_range (float_of y)) (nan_of c h) ∙ ap (λ (t : Bool). t && yield_in_range (float_of y)) coupon_nan)

-- what passed the test makes a number
pub number : (b : ℕ) → false ≡ nan_bits binary64 b → T (not (nan_bits binary64 b))
number b e = subst (λ (t : Bool). T (not t)) e tt
