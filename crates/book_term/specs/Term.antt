-- A term of the book, document 01, "The book": "A term is: kind (1 zero-coupon, 2 fixed coupon), periods (1 to 240 half-years), a spare byte 0,
-- annual coupon per 100 of face, annual yield as a fraction. The first three take a byte each; the last two are binary64 bits, little-endian."
-- Document 02, 2.3: "The spare byte of a term becomes the payments per year: 1, 2, 4 or 12, and 0 reads as 2 .. Any other byte is refused 7."
-- Definitions only. The ranges are the pricer's.
use Rattle.std.specs.Prelude.{ℕ, cond, List, eqb, length, get_or, Float, Option, None, Some}
use Rattle.std.specs.Float.{binary64}
use Rattle.std.specs.Float.Ieee.{of_bits}
use Rattle.endian.specs.Endian.{le64}
use Rattle.pricer.specs.Range.{in_range}
use Rattle.pricer.specs.Bonds.{no_bond, with_terms}
use Rattle.pricer.specs.declared.Bond.{Bond}
use Rattle.pricer.specs.declared.Terms.TheVariants.{Zero, Fixed}

-- the number that 64 bits stand for
abbrev pub float_of : ℕ → Float
float_of bits = of_bits binary64 bits

-- the ranges of document 01, and of document 02, 2.1, for the yield: "ends included; a NaN is outside"; 2.3, for the payments
unfoldable pub checked : Bond → Option Bond
checked b = cond (in_range b) (Some b) None

-- by kind: "a zero-coupon term's coupon has all 64 bits clear"; b is the bond but for its terms
unfoldable pub term_from : ℕ → Bond → ℕ → ℕ → Option Bond
term_from kind b coupon ytm =
    cond (eqb kind 1)
    (cond (eqb coupon 0) (checked (with_terms b (Zero (float_of ytm)))) None)
    (cond (eqb kind 2) (checked (with_terms b (Fixed (float_of coupon) (float_of ytm)))) None)

-- "0 reads as 2"
abbrev pub payments_of : ℕ → ℕ
payments_of byte = cond (eqb byte 0) 2 byte

-- what its single bytes say of the bond, with the terms of no bond
abbrev pub bare_bond : List ℕ → Bond
bare_bond s = record { periods = get_or s 1 0; payments = payments_of (get_or s 2 0); terms = no_bond.terms }

-- 19 bytes: kind, periods, payments, coupon, yield
unfoldable pub term_of : List ℕ → Option Bond
term_of s = cond (eqb (length s) 19) (term_from (get_or s 0 0) (bare_bond s) (le64 s 3) (le64 s 11)) None

-- the number of each case, "Where each refusal is checked": 7 "term outside the rules", or 0
abbrev pub term_number : Option Bond → ℕ
term_number None = 7
term_number (Some b) = 0
