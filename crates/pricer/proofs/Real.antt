-- The terms of a bond in range are in range, and none of their rates is a NaN, whatever the ends. Assumes nothing.
use mathlib.Core.Path.{◌≡◌, sym}
use mathlib.Core.Bool.{true, not, ◌&&◌, true≢false}
use lib.Dec.{T}
use lib.Ieee.{Float, nan, inf, fin, le, is_nan}
use Rattle.lists.proofs.Cases.{and_left, and_right}
use Rattle.pricer.specs.Range.{coupon_in_range, yield_in_range, periods_in_range, payments_in_range, terms_in_range, in_range}
use Rattle.pricer.specs.declared.Terms.{Terms}
use Rattle.pricer.specs.declared.Terms.TheVariants.{Zero, Fixed}
use Rattle.pricer.specs.declared.Bond.{Bond}

-- no rate is a NaN
abbrev pub RatesReal : Terms → Type 0
RatesReal (Zero y) = T (not (is_nan y))
RatesReal (Fixed c y) = T (not (is_nan c)) × T (not (is_nan y))

-- what is not below another number
le_real : (lo x : Float) → le lo x ≡ true → T (not (is_nan x))
unfolding le is_nan
le_real nan nan h = absurd (true≢false (sym h))
le_real (inf s) nan h = absurd (true≢false (sym h))
le_real (fin s m e) nan h = absurd (true≢false (sym h))
le_real lo (inf s) h = tt
le_real lo (fin s m e) h = tt

terms_real : (t : Terms) → terms_in_range t ≡ true → RatesReal t
terms_real (Zero y) h = le_real _ y (and_left _ _ h)
terms_real (Fixed c y) h = (
  le_real _ c (and_left _ _ (and_left (coupon_in_range c) (yield_in_range y) h)),
  le_real _ y (and_left _ _ (and_right (coupon_in_range c) (yield_in_range y) h)),
)

pub terms_in : (b : Bond) → in_range b ≡ true → terms_in_range b.terms ≡ true
unfolding in_range
terms_in b h = and_right (periods_in_range b.periods && payments_in_range b.payments) (terms_in_range b.terms) h

pub rates_real : (b : Bond) → in_range b ≡ true → RatesReal b.terms
rates_real b h = terms_real b.terms (terms_in b h)
