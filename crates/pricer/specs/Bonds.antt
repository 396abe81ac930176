-- No bond, and a bond with other terms. Definitions only.
use Rattle.std.specs.Prelude.{Float}
use Rattle.pricer.specs.Range.{zero_float}
use Rattle.pricer.specs.declared.Terms.{Terms}
use Rattle.pricer.specs.declared.Terms.TheVariants.{Zero}
use Rattle.pricer.specs.declared.Bond.{Bond}

-- no periods, no payments, and a zero's terms
abbrev pub empty_with : Float → Bond
empty_with y = record { periods = 0; payments = 0; terms = Zero y }

-- no bond: the terms have all bits clear
abbrev pub no_bond : Bond
no_bond = empty_with zero_float

-- the bond with other terms
abbrev pub with_terms : Bond → Terms → Bond
with_terms b t = record { periods = b.periods; payments = b.payments; terms = t }
