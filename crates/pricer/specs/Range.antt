-- The ranges of a bond, document 01, "The book", and document 02, 2.1, for the yield, 2.3, for the payments. Definitions only.
use Rattle.std.specs.Prelude.{ℕ, Bool, true, false, ◌&&◌, ◌||◌, pos, negsuc, leb, eqb, Float}
use Rattle.std.specs.Float.{fin}
use Rattle.std.specs.Float.Ieee.{le}
use Rattle.pricer.specs.Price.{one, hundred}
use Rattle.pricer.specs.declared.Terms.{Terms}
use Rattle.pricer.specs.declared.Terms.TheVariants.{Zero, Fixed}
use Rattle.pricer.specs.declared.Bond.{Bond}

-- "ends included; a NaN is outside. Negative zero is inside": `le` is IEEE 754's, false at a NaN, true of 0 and -0
abbrev pub within : Float → Float → Float → Bool
within lo hi x = le lo x && le x hi

-- 0
abbrev pub zero_float : Float
zero_float = fin false 0 (pos 0)

-- "Coupon lies from 0 to 100"
abbrev pub coupon_in_range : Float → Bool
coupon_in_range c = within zero_float hundred c

-- the ends of "A yield now lies from -0.5 to 1, ends included": `fin true m (negsuc e)` is -m / 2 ^ (e + 1)
abbrev pub lowest_yield : Float
lowest_yield = fin true 1 (negsuc 0)

abbrev pub highest_yield : Float
highest_yield = one

-- "A yield now lies from -0.5 to 1"
abbrev pub yield_in_range : Float → Bool
yield_in_range y = within lowest_yield highest_yield y

-- "periods (1 to 240 half-years)", where by document 02 "Periods count payments, still 240 at most"
abbrev pub periods_in_range : ℕ → Bool
periods_in_range n = leb 1 n && leb n 240

-- "the payments per year: 1, 2, 4 or 12"
abbrev pub payments_in_range : ℕ → Bool
payments_in_range k = eqb k 1 || eqb k 2 || eqb k 4 || eqb k 12

-- both ranges, for the rates that each case carries
abbrev pub terms_in_range : Terms → Bool
terms_in_range (Zero y) = yield_in_range y
terms_in_range (Fixed c y) = coupon_in_range c && yield_in_range y

-- a bond whose periods, payments and rates are those of a book
unfoldable pub in_range : Bond → Bool
in_range b = periods_in_range b.periods && payments_in_range b.payments && terms_in_range b.terms
