-- d = 1 + y / k lies from 1 - 1 / 2j to 1 + 1 / j for a yield y in range, from -1/2 to 1, and k payments a year, j or more: so does the exact number,
-- and both ends are numbers of binary64 for the j that are used: from 1/2 to 2 for any payments, and from 3/4 to 3/2 for two.
-- A period's part of a coupon in range lies from 0 to 100. Assumes nothing.
use mathlib.Core.Path.{◌≡◌, refl, sym, ap, ◌∙◌, subst}
use mathlib.Core.Bool.{true, false}
use Prim.Native.Nat.{ℕ, suc, ◌+◌, ◌-◌, ◌*◌, ◌≤◌, ◌<◌}
use native.Mathlib.Nat.{le_of_eq, le_trans, one-mul, mul-one, mul_assoc, mul_comm, mul_left_comm, mul-le-mul, mul-pos, mul-suc, add-mul}
use native.Mathlib.Omega.{arith}
use lib.IntN.{pos, negsuc}
use lib.Dec.{T, eqb, lit<, lit≤}
use lib.Ieee.{Float, nan, inf, fin, binary64, up, down, round, of_int, add, div, le}
use lib.Ieee.Fits.{up_pos, down_pos}
use lib.Ieee.Bits.{cond_no}
use lib.Ieee.Digits.{back}
use lib.Ieee.Order.{round_mono}
use Rattle.pricer.specs.Price.{one, hundred, yearly, per_period, divisor}
use Rattle.pricer.specs.Range.{zero_float, lowest_yield, highest_yield, coupon_in_range, yield_in_range, payments_in_range}
use Rattle.pricer.specs.WellDefined.{one_half, three_quarters}
use Rattle.pricer.proofs.Payments.{by_payments}
use Rattle.pricer.proofs.Rounding.{not_zero, minus, sum_is, Within, Exact, within_ends, round_high, round_low}

-- ---- quotients

-- a divisor of j or more
abbrev AtLeast : ℕ → Float → Type 0
AtLeast j nan = ⊥
AtLeast j (inf s) = ⊥
AtLeast j (fin true n d) = ⊥
AtLeast j (fin false n d) = (0 < n) × (j * down d ≤ n * up d)

-- x / p is at most b / c, and n / q at least j: their quotient is at most b / (c * j)
cross : (x p b c n q j : ℕ) → x * c ≤ b * p → j * q ≤ n → x * q * (c * j) ≤ b * (n * p)
cross x p b c n q j h k =
    let l : x * q * (c * j) ≡ x * c * (j * q) = simp (mul_assoc, mul_comm, mul_left_comm) in
    let r : b * p * n ≡ b * (n * p) = simp (mul_assoc, mul_comm, mul_left_comm) in
    le_trans (le_of_eq l) (le_trans (mul-le-mul h k) (le_of_eq r))

module _ (a b c j : ℕ) (P : 0 < c * j) (A : Exact a (c * j)) (B : Exact b (c * j)) where
  div_within : (x k : Float) → Within a b c x → AtLeast j k → Within a b (c * j) (div binary64 x k)
  unfolding div
  div_within nan k h w = absurd h
  div_within (inf s) k h w = absurd h
  div_within (fin s m e) nan h w = absurd w
  div_within (fin s m e) (inf t) h w = absurd w
  div_within (fin s m e) (fin true n d) h w = absurd w
  div_within (fin false m e) (fin false n d) h w =
      subst (Within a b (c * j)) (sym (cond_no (eqb n 0) _ _ (not_zero n w.0)))
      (round_high a b (c * j) (m * up e * down d) (n * up d * down e) P (mul-pos (mul-pos w.0 (up_pos d)) (down_pos e)) B
      (cross (m * up e) (down e) b c (n * up d) (down d) j h w.1))
  div_within (fin true m e) (fin false n d) h w =
      subst (Within a b (c * j)) (sym (cond_no (eqb n 0) _ _ (not_zero n w.0)))
      (round_low a b (c * j) (m * up e * down d) (n * up d * down e) P (mul-pos (mul-pos w.0 (up_pos d)) (down_pos e)) A
      (cross (m * up e) (down e) a c (n * up d) (down d) j h w.1))

-- ---- the rates of a period

-- the payments of a year are 1 or more
payments_from : (k : ℕ) → payments_in_range k ≡ true → AtLeast 1 (yearly k)
unfolding of_int round
payments_from = by_payments (λ (k : ℕ). AtLeast 1 (yearly k)) (lit< tt, lit≤ tt) (lit< tt, lit≤ tt) (lit< tt, lit≤ tt) (lit< tt, lit≤ tt)

two_from : AtLeast 2 (yearly 2)
unfolding of_int round
two_from = (lit< tt, lit≤ tt)

-- a yield lies from -1/2 to 1, and a period's part of it from -1 / 2j to 1 / j
yield_part : (j k : ℕ) → 0 < 2 * j → Exact 1 (2 * j) → Exact 2 (2 * j) → AtLeast j (yearly k) →
    (y : Float) → T (yield_in_range y) → Within 1 2 (2 * j) (per_period k y)
yield_part j k J A B w y h = div_within 1 2 2 j J A B y (yearly k) (within_ends 1 2 2 lowest_yield highest_yield y refl refl h) w

-- a coupon lies from 0 to 100, and a period's part of it there too
pub coupon_part : (k : ℕ) → payments_in_range k ≡ true → (c : Float) → T (coupon_in_range c) → Within 0 100 1 (per_period k c)
unfolding round
coupon_part k K c h =
    div_within 0 100 1 1 (lit< tt) refl refl c (yearly k)
    (within_ends 0 100 1 zero_float hundred c refl refl h) (payments_from k K)

-- ---- the divisor

-- from lo to hi
abbrev Spans : Float → Float → Float → Type 0
Spans lo hi d = T (le lo d) × T (le d hi)

-- without the factors 1
plain : (f : ℕ → ℕ → ℕ) (n d : ℕ) → round binary64 false (f (1 * d) (n * 1)) (1 * d) ≡ round binary64 false (f d n) d
plain f n d = rw (one-mul d, mul-one n)

-- with c + 1 for 2j, from c / (c + 1) to (c + 3) / (c + 1)
module _ (c : ℕ) (lo hi : Float) (low : round binary64 false c (suc c) ≡ lo) (high : round binary64 false (c + 3) (suc c) ≡ hi) where
  spans : (x y : ℕ) → 0 < y → c * y ≤ x * suc c → x * suc c ≤ (c + 3) * y → Spans lo hi (round binary64 false x y)
  spans x y Y h k = (
    subst (λ (z : Float). T (le z (round binary64 false x y))) low (round_mono binary64 c (suc c) x y (omega arith) Y h),
    subst (λ (z : Float). T (le (round binary64 false x y) z)) high (round_mono binary64 x y (c + 3) (suc c) Y (omega arith) k),
  )

  -- 1 + n / d and 1 - n / d
  above : (n d : ℕ) → 0 < d → n * suc c ≤ 2 * d → Spans lo hi (round binary64 false (d + n) d)
  above n d D h =
      let l : c * d ≡ d * c = mul_comm c d in
      let m : (d + n) * suc c ≡ d * suc c + n * suc c = add-mul d n (suc c) in
      let p : d * suc c ≡ d * c + d = mul-suc d c in
      let u : (c + 3) * d ≡ c * d + 3 * d = add-mul c 3 d in
      spans (d + n) d D (omega arith) (omega arith)

  below : (n d : ℕ) → 0 < d → n ≤ d → n * suc c ≤ d → Spans lo hi (round binary64 false (d - n) d)
  below n d D N h =
      let l : c * d ≡ d * c = mul_comm c d in
      let m : (d - n) * suc c + n * suc c ≡ d * suc c = sym (add-mul (d - n) n (suc c)) ∙ ap (λ (x : ℕ). x * suc c) (back d n N) in
      let p : d * suc c ≡ d * c + d = mul-suc d c in
      let u : (c + 3) * d ≡ c * d + 3 * d = add-mul c 3 d in
      spans (d - n) d D (omega arith) (omega arith)

  one_plus : (q : Float) → Within 1 2 (suc c) q → Spans lo hi (add binary64 one q)
  unfolding add
  one_plus nan h = absurd h
  one_plus (inf s) h = absurd h
  one_plus (fin false m e) h =
      let n = m * up e in
      let d = down e in
      subst (Spans lo hi) (sym (sum_is (1 * d) (n * 1) (1 * d) ∙ plain ◌+◌ n d)) (above n d (down_pos e) h)
  one_plus (fin true m e) h =
      let n = m * up e in
      let d = down e in
      let p : n * suc c ≡ n * c + n = mul-suc n c in
      let k : n * suc c ≤ d = le_trans h (le_of_eq (one-mul d)) in
      subst (Spans lo hi) (sym (minus (1 * d) (n * 1) (1 * d) (omega arith) ∙ plain ◌-◌ n d)) (below n d (down_pos e) (omega arith) k)

-- 2 and 3/2
abbrev pub two_float : Float
two_float = fin false 1 (pos 1)

abbrev three_halves : Float
three_halves = fin false 3 (negsuc 0)

pub divisor_spans : (k : ℕ) → payments_in_range k ≡ true → (y : Float) → T (yield_in_range y) → Spans one_half two_float (divisor k y)
unfolding round
divisor_spans k K y h = one_plus 1 one_half two_float refl refl (per_period k y) (yield_part 1 k (lit< tt) refl refl (payments_from k K) y h)

pub divisor_of_two : (y : Float) → T (yield_in_range y) → Spans three_quarters three_halves (divisor 2 y)
unfolding round
divisor_of_two y h = one_plus 3 three_quarters three_halves refl refl (per_period 2 y) (yield_part 2 2 (lit< tt) refl refl two_from y h)
