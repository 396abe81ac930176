-- The price as it was before request 2.3, "Payments per year": old behaviour, which no code has, for the comparisons in Kept.antt and Spare.antt.
-- Document 01, "The price", for bonds that pay twice a year. What a period does to a price (`zero_after`, `fixed_after`) the request left alone, and
-- is cited as it is today. Definitions only.
use Rattle.std.specs.Prelude.{ℕ, false, pos, Float}
use Rattle.std.specs.Float.{fin, binary64}
use Rattle.std.specs.Float.Ieee.{add, div, to_bits}
use Rattle.pricer.specs.Price.{one, zero_after, fixed_after}
use Rattle.pricer.specs.declared.Bond.{Bond}
use Rattle.pricer.specs.declared.Terms.{Terms}
use Rattle.pricer.specs.declared.Terms.TheVariants.{Zero, Fixed}

-- 2: `fin false m (pos e)` is m * 2 ^ e
abbrev pub two : Float
two = fin false 1 (pos 1)

-- "coupon / 2", "yield / 2"
abbrev pub halved : Float → Float
halved x = div binary64 x two

-- "Let d = 1 + yield / 2"
abbrev pub divisor_before : Float → Float
divisor_before y = add binary64 one (halved y)

-- as `price_by`: "a fixed bond takes (p + coupon / 2) / d, a zero takes p / d"
abbrev pub price_by_before : ℕ → Terms → Float
price_by_before n (Zero y) = zero_after (divisor_before y) n
price_by_before n (Fixed c y) = fixed_after (halved c) (divisor_before y) n

-- as `price_bits`, of the periods and the terms of a bond: its payments are not looked at
unfoldable pub bits_before : Bond → ℕ
bits_before b = to_bits binary64 (price_by_before b.periods b.terms)
