-- For every bond in range d is never below 0.5, with two payments a year never below 0.75, and the price is finite and above zero, so it is no NaN;
-- the claim is in specs/WellDefined.antt.
-- Assumes nothing.
use mathlib.Core.Path.{◌≡◌, refl, sym, subst}
use mathlib.Core.Bool.{true, false, ◌&&◌}
use Prim.Native.Nat.{ℕ, ◌*◌, ◌≤◌}
use native.Mathlib.Omega.{arith}
use borrow.Author.Tests.{leb-true}
use lib.Dec.{T, leb}
use lib.Ieee.{Float, nan, inf, fin, le, is_nan, round, of_int, sum, add, div}
use lib.Ieee.Bits.{is_true}
use denote.Floats.{passes}
use lib.Ieee.Positive.{num, den, positive, le→cross, between}
use Rattle.lists.proofs.Cases.{and_left, and_right}
use Rattle.pricer.specs.Price.{per_period, divisor, price_by, price_of}
use Rattle.pricer.specs.Range.{coupon_in_range, yield_in_range, periods_in_range, payments_in_range, terms_in_range, in_range}
use Rattle.pricer.specs.WellDefined.{one_half, three_quarters, yield_of, lowest_zero, divisor_of, WellDefined}
use Rattle.pricer.specs.declared.Terms.{Terms}
use Rattle.pricer.specs.declared.Terms.TheVariants.{Zero, Fixed}
use Rattle.pricer.specs.declared.Bond.{Bond}
use Rattle.pricer.proofs.Real.{terms_in}
use Rattle.pricer.proofs.Divisor.{two_float, coupon_part, divisor_spans, divisor_of_two}
use Rattle.pricer.proofs.Bounds.{Bounded, zero_bounded, fixed_bounded}

-- ---- the parts of the range

yield_in : (t : Terms) → terms_in_range t ≡ true → yield_in_range (yield_of t) ≡ true
yield_in (Zero y) h = h
yield_in (Fixed c y) h = and_right (coupon_in_range c) (yield_in_range y) h

counts_in : (b : Bond) → in_range b ≡ true → periods_in_range b.periods && payments_in_range b.payments ≡ true
unfolding in_range
counts_in b h = and_left (periods_in_range b.periods && payments_in_range b.payments) (terms_in_range b.terms) h

periods_most : (b : Bond) → in_range b ≡ true → b.periods ≤ 240
periods_most b h =
    let n = b.periods in
    leb-true n 240 (and_right (leb 1 n) (leb n 240) (and_left (periods_in_range n) (payments_in_range b.payments) (counts_in b h)))

payments_in : (b : Bond) → in_range b ≡ true → payments_in_range b.payments ≡ true
payments_in b h = and_right (periods_in_range b.periods) (payments_in_range b.payments) (counts_in b h)

-- ---- the divisor

divisor_bounded : (k : ℕ) → payments_in_range k ≡ true → (y : Float) → yield_in_range y ≡ true → Bounded 1 1 (divisor k y)
divisor_bounded k K y h =
    let d = divisor k y in
    let s = divisor_spans k K y (passes _ h) in
    let p : T (positive d) = between one_half d two_float tt tt s.0 s.1 in
    let a : 1 * den d ≤ num d * 2 = le→cross one_half d tt p s.0 in
    let b : num d * 1 ≤ 2 * den d = le→cross d two_float p tt s.1 in
    record { is_positive = p; from = omega arith; to = omega arith }

lowest : in_range (lowest_zero 1) ≡ true
unfolding in_range le
lowest = refl

reached : divisor_of (lowest_zero 1) ≡ one_half
unfolding round of_int add div sum
reached = refl

lowest_of_two_lem : in_range (lowest_zero 2) ≡ true
unfolding in_range le
lowest_of_two_lem = refl

reached_of_two_lem : divisor_of (lowest_zero 2) ≡ three_quarters
unfolding round of_int add div sum
reached_of_two_lem = refl

yield_of_lem : (b : Bond) → in_range b ≡ true → T (yield_in_range (yield_of b.terms))
yield_of_lem b h = passes _ (yield_in b.terms (terms_in b h))

of_two : (b : Bond) → in_range b ≡ true → b.payments ≡ 2 → T (le three_quarters (divisor_of b))
of_two b h e =
    subst (λ (k : ℕ). T (le three_quarters (divisor k (yield_of b.terms)))) (sym e) (divisor_of_two (yield_of b.terms) (yield_of_lem b h)).0

-- ---- the price

terms_positive : (n k : ℕ) (t : Terms) → n ≤ 240 → payments_in_range k ≡ true → terms_in_range t ≡ true → T (positive (price_by n k t))
terms_positive n k (Zero y) h K r = (zero_bounded (divisor k y) (divisor_bounded k K y r) n h).is_positive
terms_positive n k (Fixed c y) h K r =
    (fixed_bounded (per_period k c) (divisor k y) (coupon_part k K c (passes _ (and_left (coupon_in_range c) (yield_in_range y) r)))
    (divisor_bounded k K y (and_right (coupon_in_range c) (yield_in_range y) r)) n h).is_positive

price_positive : (b : Bond) → in_range b ≡ true → T (positive (price_of b))
unfolding price_of
price_positive b h = terms_positive b.periods b.payments b.terms (periods_most b h) (payments_in b h) (terms_in b h)

positive_number : (x : Float) → T (positive x) → is_nan x ≡ false
unfolding is_nan
positive_number nan p = absurd p
positive_number (inf s) p = refl
positive_number (fin s m e) p = refl

pub well_defined : WellDefined
well_defined = record {
  least = λ b h. is_true _ (divisor_spans b.payments (payments_in b h) (yield_of b.terms) (yield_of_lem b h)).0;
  lowest = lowest;
  reached = reached;
  least_of_two = λ b h e. is_true _ (of_two b h e);
  lowest_of_two = lowest_of_two_lem;
  reached_of_two = reached_of_two_lem;
  priced = λ b h. is_true _ (price_positive b h);
  number = λ b h. positive_number (price_of b) (price_positive b h);
}
