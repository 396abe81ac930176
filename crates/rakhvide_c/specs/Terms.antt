-- What the C interface answers for the bytes of a term. Definitions only.
use Rattle.std.specs.Prelude.{ℕ, Option, None, Some}
use Rattle.pricer.specs.Price.{price_bits}
use Rattle.pricer.specs.declared.Bond.{Bond}

-- the price of the term's bond; a term outside the rules leaves the number x that was there
unfoldable pub term_bits : Option Bond → ℕ → ℕ
term_bits None x = x
term_bits (Some b) x = price_bits b
