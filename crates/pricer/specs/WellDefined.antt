-- Requests 2.1, "Yields below zero", and 2.3, "Payments per year": what is claimed of every bond in range. The claim is `WellDefined`; its proof is
-- in proofs/WellDefined.antt.
-- Definitions only.
use Rattle.std.specs.Prelude.{ℕ, ◌≡◌, true, false, negsuc, Float}
use Rattle.std.specs.Float.{fin}
use Rattle.std.specs.Float.Ieee.{le, is_nan}
use Rattle.std.specs.Float.Ieee.Positive.{positive}
use Rattle.pricer.specs.Price.{divisor, price_of}
use Rattle.pricer.specs.Range.{lowest_yield, in_range}
use Rattle.pricer.specs.declared.Terms.{Terms}
use Rattle.pricer.specs.declared.Terms.TheVariants.{Zero, Fixed}
use Rattle.pricer.specs.declared.Bond.{Bond}

-- 0.5 and 0.75: `fin false m (negsuc e)` is m / 2 ^ (e + 1)
abbrev pub one_half : Float
one_half = fin false 1 (negsuc 0)

abbrev pub three_quarters : Float
three_quarters = fin false 3 (negsuc 1)

-- the yield that either case carries
abbrev pub yield_of : Terms → Float
yield_of (Zero y) = y
yield_of (Fixed c y) = y

-- a zero of one period, k a year, at the lowest yield
abbrev pub lowest_zero : ℕ → Bond
lowest_zero k = record { periods = 1; payments = k; terms = Zero lowest_yield }

-- d of the formula, for a bond
abbrev pub divisor_of : Bond → Float
divisor_of b = divisor b.payments (yield_of b.terms)

pub record WellDefined : Type 0 where
  -- "with one payment a year d can now be as low as 0.5": for no bond is it lower,
  pub least : (b : Bond) → in_range b ≡ true → le one_half (divisor_of b) ≡ true
  -- and for one of one payment a year, which is in range, it is 0.5;
  pub lowest : in_range (lowest_zero 1) ≡ true
  pub reached : divisor_of (lowest_zero 1) ≡ one_half
  -- with two payments, as in 2.1, "d is never below 0.75", and for one bond in range it is 0.75;
  pub least_of_two : (b : Bond) → in_range b ≡ true → b.payments ≡ 2 → le three_quarters (divisor_of b) ≡ true
  pub lowest_of_two : in_range (lowest_zero 2) ≡ true
  pub reached_of_two : divisor_of (lowest_zero 2) ≡ three_quarters
  -- a price is finite and above 0 (the library's `positive`), for 1, 2, 4 and 12 payments,
  pub priced : (b : Bond) → in_range b ≡ true → positive (price_of b) ≡ true
  -- so it is no NaN
  pub number : (b : Bond) → in_range b ≡ true → is_nan (price_of b) ≡ false
