-- Document 01, "The price", with the payments per year of document 02, 2.3. Each operation is IEEE 754's at binary64, rounded once, in the order of
-- the text. Definitions only.
use Rattle.std.specs.Prelude.{ℕ, zero, suc, false, pos, Float}
use Rattle.std.specs.Float.{fin, binary64}
use Rattle.std.specs.Float.Ieee.{of_int, add, div, to_bits}
use Rattle.pricer.specs.declared.Terms.{Terms}
use Rattle.pricer.specs.declared.Terms.TheVariants.{Zero, Fixed}
use Rattle.pricer.specs.declared.Bond.{Bond}
use Rattle.pricer.specs.declared.FixedBond.{FixedBond}

-- 1 and 100: `fin false m (pos e)` is m * 2 ^ e
abbrev pub one : Float
one = fin false 1 (pos 0)

abbrev pub hundred : Float
hundred = fin false 25 (pos 2)

-- the payments of a year, k, as a number of binary64: every byte is one
abbrev pub yearly : ℕ → Float
yearly k = of_int binary64 (pos k)

-- of an annual rate, what falls to one of its k periods: "Both divisions by 2 in the formula become divisions by that number, also for a zero"
abbrev pub per_period : ℕ → Float → Float
per_period k x = div binary64 x (yearly k)

-- "Let d = 1 + yield / 2", with k for 2
abbrev pub divisor : ℕ → Float → Float
divisor k y = add binary64 one (per_period k y)

-- "Start from 100. Once per period, .. a zero takes p / d"
unfoldable pub zero_after : Float → ℕ → Float
zero_after d zero = hundred
zero_after d (suc n) = div binary64 (zero_after d n) d

-- "Start from 100. Once per period, a fixed bond takes (p + coupon / 2) / d", with h for the coupon of a period
unfoldable pub fixed_after : Float → Float → ℕ → Float
fixed_after h d zero = hundred
fixed_after h d (suc n) = div binary64 (add binary64 (fixed_after h d n) h) d

-- a zero of n periods, k a year, by its yield
abbrev pub zero_price : ℕ → ℕ → Float → Float
zero_price n k y = zero_after (divisor k y) n

-- "for a fixed bond the pricer is handed periods, coupon and yield together in one record"; the payments per year stand beside it
abbrev pub fixed_price : FixedBond → ℕ → Float
fixed_price b k = fixed_after (per_period k b.coupon) (divisor k b.ytm) b.periods

-- "a bond's terms are one of two cases, zero or fixed, each carrying its rates"
abbrev pub price_by : ℕ → ℕ → Terms → Float
price_by n k (Zero y) = zero_price n k y
price_by n k (Fixed c y) = fixed_price (record { periods = n; coupon = c; ytm = y }) k

-- the formula's price of a bond
unfoldable pub price_of : Bond → Float
price_of b = price_by b.periods b.payments b.terms

-- "Prices are compared as their 64 bits"
unfoldable pub price_bits : Bond → ℕ
price_bits b = to_bits binary64 (price_of b)
