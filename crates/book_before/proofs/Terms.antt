-- What was in range is in range, so a term that was read as a bond is read as the same bond; and a term whose spare byte is 0 is read as it was.
-- Assumes nothing.
use Rattle.std.proofs.Common.{Option, None, Some}
use mathlib.Core.Path.{◌≡◌, refl, sym, ap, ◌∙◌}
use mathlib.Core.Bool.{Bool, true, false, cond, ◌&&◌, ◌||◌, true≢false}
use mathlib.Core.List.{List}
use Prim.Native.Nat.{ℕ, ◌+◌, ◌*◌, ◌<◌}
use native.Mathlib.Omega.{arith}
use borrow.Author.Tests.{eqb-true, eq-eqb, lt-ltb}
use lib.Dec.{eqb}
use lib.ListN.{length, get_or}
use lib.Ieee.{Float, nan, inf, fin, le, up, down}
use lib.Ieee.Fits.{down_pos}
use Rattle.lists.proofs.Cases.{by_bool, and_true, and_left, and_right, and_both, and_three}
use Rattle.endian.specs.Endian.{le64}
use Rattle.pricer.specs.Price.{one}
use Rattle.pricer.specs.Range.{zero_float, lowest_yield, coupon_in_range, yield_in_range, periods_in_range, payments_in_range, terms_in_range, in_range}
use Rattle.pricer.specs.Bonds.{with_terms}
use Rattle.pricer.specs.declared.Bond.{Bond}
use Rattle.pricer.specs.declared.Terms.{Terms}
use Rattle.pricer.specs.declared.Terms.TheVariants.{Zero, Fixed}
use Rattle.book_term.specs.Term.{float_of, checked, term_from, term_of, term_number}
use Rattle.book.proofs.Accepted.{no}
use Rattle.book_before.specs.Before.{yield_before, terms_before, in_range_before, checked_before, term_from_before, bare_before, term_before}

-- ---- ranges

-- what is not below 0 is not below the lowest yield
pub above : (y : Float) → le zero_float y ≡ true → le lowest_yield y ≡ true
unfolding le
above nan h = absurd (true≢false (sym h))
above (inf true) h = absurd (true≢false (sym h))
above (inf false) h = refl
above (fin false m e) h =
    let l : 0 < 1 * down e + m * up e * 2 = omega (arith, down_pos e) in
    ap (λ (b : Bool). b || (eqb (1 * down e) (m * up e * 2) && eqb (1 * down e) 0)) (lt-ltb 0 (1 * down e + m * up e * 2) l)
above (fin true m e) h =
    let z : 0 * down e ≡ m * up e * 1 = eqb-true _ _ (and_left (eqb (0 * down e) (m * up e * 1)) (eqb (0 * down e) 0) h) in
    let l : m * up e * 2 < 1 * down e = less (m * up e) (down e) z (down_pos e) in
    ap (λ (b : Bool). b || (eqb (1 * down e) (m * up e * 2) && true)) (lt-ltb (m * up e * 2) (1 * down e) l)
  where
    less : (x d : ℕ) → 0 * d ≡ x * 1 → 0 < d → x * 2 < 1 * d
    less x d z h = omega arith

-- ---- readings

-- a bond of the first reading is that of the second
abbrev pub Keeps : Option Bond → Option Bond → Type 0
Keeps x y = (b : Bond) → x ≡ Some b → y ≡ Some b

none : (y : Option Bond) → Keeps None y
none y b e = absurd (no 6 (ap term_number e))

either : (t : Bool) (x y u v : Option Bond) → Keeps x u → Keeps y v → Keeps (cond t x y) (cond t u v)
either true x y u v a b = a
either false x y u v a b = b

-- ---- with a lowest yield that is not below today's

module _ (lo : Float) (up : (y : Float) → le lo y ≡ true → le lowest_yield y ≡ true) where
  yield_kept : (y : Float) → yield_before lo y ≡ true → yield_in_range y ≡ true
  yield_kept y h = and_both _ _ (up y (and_left (le lo y) (le y one) h)) (and_right (le lo y) (le y one) h)

  terms_kept : (t : Terms) → terms_before lo t ≡ true → terms_in_range t ≡ true
  terms_kept (Zero y) h = yield_kept y h
  terms_kept (Fixed c y) h =
      and_both _ _ (and_left (coupon_in_range c) (yield_before lo y) h) (yield_kept y (and_right (coupon_in_range c) (yield_before lo y) h))

  pub range_kept : (b : Bond) → b.payments ≡ 2 → in_range_before lo b ≡ true → in_range b ≡ true
  unfolding in_range_before in_range
  range_kept b e h =
      let n = periods_in_range b.periods in
      and_three n (payments_in_range b.payments) (terms_in_range b.terms) (and_left n (terms_before lo b.terms) h) (rw e)
      (terms_kept b.terms (and_right n (terms_before lo b.terms) h))

  checked_kept : (b : Bond) → b.payments ≡ 2 → Keeps (checked_before lo b) (checked b)
  unfolding checked_before checked
  checked_kept b p c e =
      by_bool (in_range_before lo b)
      (λ h. rw (range_kept b p h) (rw h at e))
      (λ h. none (checked b) c (rw h at e))

  from_kept : (k : ℕ) (b : Bond) (c y : ℕ) → b.payments ≡ 2 → Keeps (term_from_before lo k b c y) (term_from k b c y)
  unfolding term_from_before term_from
  from_kept k b c y p =
      either (eqb k 1) _ _ _ _
      (either (eqb c 0) _ _ _ _ (checked_kept _ p) (none None))
      (either (eqb k 2) _ _ _ _ (checked_kept _ p) (none None))

  pub term_kept : (s : List ℕ) → Keeps (term_before lo s) (term_of s)
  unfolding term_before term_of
  term_kept s =
      either (eqb (length s) 19) _ _ _ _
      (by_bool (eqb (get_or s 2 0) 0)
      (λ e. rw e (from_kept (get_or s 0 0) (bare_before s) (le64 s 3) (le64 s 11) refl))
      (λ e. rw e (none _)))
      (none None)

-- ---- with today's lowest yield

terms_same : (t : Terms) → terms_in_range t ≡ terms_before lowest_yield t
terms_same (Zero y) = refl
terms_same (Fixed c y) = refl

checked_same : (b : Bond) → b.payments ≡ 2 → checked b ≡ checked_before lowest_yield b
unfolding checked checked_before in_range in_range_before
checked_same b e =
    let p = periods_in_range b.periods in
    ap (λ (x : Bool). cond x (Some b) None)
    (ap (λ (k : ℕ). p && payments_in_range k && terms_in_range b.terms) e
    ∙ ap (λ (x : Bool). x && terms_in_range b.terms) (and_true p)
    ∙ ap (λ (x : Bool). p && x) (terms_same b.terms))

from_same : (k : ℕ) (b : Bond) (c y : ℕ) → b.payments ≡ 2 → term_from k b c y ≡ term_from_before lowest_yield k b c y
unfolding term_from term_from_before
from_same k b c y e =
    rw (checked_same (with_terms b (Zero (float_of y))) e, checked_same (with_terms b (Fixed (float_of c) (float_of y))) e)

-- a term whose spare byte is 0 is read as it was
pub term_same : (s : List ℕ) → get_or s 2 0 ≡ 0 → term_of s ≡ term_before lowest_yield s
unfolding term_of term_before
term_same s e = rw (eq-eqb _ _ e, from_same (get_or s 0 0) (bare_before s) (le64 s 3) (le64 s 11) refl)
