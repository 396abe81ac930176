-- A bond that is paid twice a year has the price bits of the formula as it was; so has every bond of the reader as it was. Assumes nothing.
use Rattle.std.proofs.Common.{Option, None, Some}
use mathlib.Core.Path.{◌≡◌, refl}
use mathlib.Core.List.{List}
use Prim.Native.Nat.{ℕ}
use lib.Dec.{ltb, eqb}
use lib.ListN.{length, get_or}
use lib.Ieee.{Float, of_int, round}
use Rattle.lists.proofs.Cases.{cond_elim}
use Rattle.endian.specs.Endian.{le64}
use Rattle.pricer.specs.Price.{yearly, zero_after, price_by, price_of, price_bits}
use Rattle.pricer.specs.Bonds.{no_bond}
use Rattle.pricer.specs.declared.Bond.{Bond}
use Rattle.pricer.specs.declared.Terms.{Terms}
use Rattle.pricer.specs.declared.Terms.TheVariants.{Zero, Fixed}
use Rattle.book.specs.Book.{term_at}
use Rattle.book.specs.Parts.{bond_in}
use Rattle.book_before.specs.Formula.{two, price_by_before, bits_before}
use Rattle.book_before.specs.Before.{in_range_before, checked_before, term_from_before, bare_before, term_before, entry_count_before, bond_before}

two_payments : yearly 2 ≡ two
unfolding of_int round
two_payments = refl

price_same : (n : ℕ) (t : Terms) → price_by n 2 t ≡ price_by_before n t
price_same n (Zero y) = rw two_payments
price_same n (Fixed c y) = rw two_payments

-- the price bits of the formula as it was
abbrev Same : Bond → Type 0
Same b = price_bits b ≡ bits_before b

bits_same : (b : Bond) → b.payments ≡ 2 → Same b
unfolding price_bits price_of bits_before
bits_same b e = rw (e, price_same b.periods b.terms)

-- where there is no bond there is no period, and either price is 100
none_same : Same no_bond
unfolding price_bits price_of bits_before zero_after
none_same = refl

-- ---- the bonds of the reader

abbrev SameIn : Option Bond → Type 0
SameIn r = Same (bond_in r)

module _ (lo : Float) where
  checked_bits : (b : Bond) → b.payments ≡ 2 → SameIn (checked_before lo b)
  unfolding checked_before
  checked_bits b e = cond_elim SameIn (in_range_before lo b) (Some b) None (bits_same b e) none_same

  from_bits : (k : ℕ) (b : Bond) (c y : ℕ) → b.payments ≡ 2 → SameIn (term_from_before lo k b c y)
  unfolding term_from_before
  from_bits k b c y e =
      cond_elim SameIn (eqb k 1) _ _ (cond_elim SameIn (eqb c 0) _ None (checked_bits _ e) none_same)
      (cond_elim SameIn (eqb k 2) _ None (checked_bits _ e) none_same)

  term_bits_lem : (s : List ℕ) → SameIn (term_before lo s)
  unfolding term_before
  term_bits_lem s =
      cond_elim SameIn (eqb (length s) 19) _ None
      (cond_elim SameIn (eqb (get_or s 2 0) 0) _ None (from_bits (get_or s 0 0) (bare_before s) (le64 s 3) (le64 s 11) refl) none_same) none_same

  pub bits_before_lem : (s : List ℕ) (i : ℕ) → Same (bond_before lo s i)
  unfolding bond_before
  bits_before_lem s i = cond_elim Same (ltb i (entry_count_before lo s)) _ no_bond (term_bits_lem (term_at s (entry_count_before lo s) i)) none_same
