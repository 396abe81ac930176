-- After n periods a price lies from 2 ^ -n to 2 ^ (7 + 2n), for a divisor from 1/2 to 2 and a coupon of a period from 0 to 100: a period divides by
-- 2 at most, and multiplies by 4 at most. For up to 240 periods these powers are numbers of binary64, so rounding does not pass them.
-- Assumes nothing.
use mathlib.Core.Path.{◌≡◌, sym, ap, ◌∙◌, subst}
use mathlib.Core.Bool.{true, false}
use Prim.Native.Nat.{ℕ, zero, suc, ◌+◌, ◌-◌, ◌*◌, ◌^◌, ◌≤◌, ◌<◌}
use native.Mathlib.Nat.{le_of_eq, le_trans, lt_of_le_of_lt, le-add_right, zero-mul, one-mul, mul-one, mul_assoc, mul_comm, mul_left_comm}
use native.Mathlib.Nat.{mul_right_comm, mul-pos, mul-le-mul, mul-le-mul_right, pow-suc}
use native.Mathlib.Omega.{arith}
use lib.Dec.{T, eqb, ltb→lt, lit<, lit≤}
use lib.Pow.{pow-add, pow_pos, pow-lt, pow_mono}
use lib.Ieee.{Float, nan, inf, fin, binary64, up, down, round, add, div}
use lib.Ieee.Bits.{cond_no}
use lib.Ieee.Digits.{back}
use lib.Ieee.Exact.{HasValue, round_exact}
use lib.Ieee.Order.{round_mono}
use lib.Ieee.Positive.{num, den, positive, den_pos, own_value, positive_of_value, value_pos, values_of_le, between}
use Rattle.pricer.specs.Price.{hundred, zero_after, fixed_after}
use Rattle.pricer.proofs.Rounding.{not_zero, minus, sum_is, Within}

-- p lies from 2 ^ -n to 2 ^ k
pub record Bounded (n k : ℕ) (p : Float) : Type 0 where
  pub is_positive : T (positive p)
  pub from : den p ≤ num p * 2 ^ n
  pub to : num p ≤ 2 ^ k * den p

-- ---- rounding

-- 2 ^ -n and 2 ^ k are numbers of binary64
low_exact : (n : ℕ) → n ≤ 1074 → HasValue (round binary64 false 1 (2 ^ n)) false 1 (2 ^ n)
low_exact n h =
    let l : 1074 - n < 2098 = omega arith in
    round_exact binary64 false 1 (2 ^ n) 1 (1074 - n) (pow_pos n) (lit< tt) (lt_of_le_of_lt (le_of_eq (one-mul (2 ^ (1074 - n)))) (pow-lt l))
    (ap (λ (x : ℕ). 1 * 2 ^ x) (sym (back 1074 n h)) ∙ ap (λ (x : ℕ). 1 * x) (pow-add 2 (1074 - n) n) ∙ sym (mul_assoc 1 (2 ^ (1074 - n)) (2 ^ n)))

high_exact : (k : ℕ) → k ≤ 1023 → HasValue (round binary64 false (2 ^ k) 1) false (2 ^ k) 1
high_exact k h =
    let l : k + 1074 < 2098 = omega arith in
    round_exact binary64 false (2 ^ k) 1 1 (k + 1074) (lit< tt) (lit< tt) (lt_of_le_of_lt (le_of_eq (one-mul (2 ^ (k + 1074)))) (pow-lt l))
    (sym (pow-add 2 k 1074) ∙ sym (one-mul (2 ^ (k + 1074))) ∙ sym (mul-one (1 * 2 ^ (k + 1074))))

bounded : (n k x y : ℕ) → n ≤ 1074 → k ≤ 1023 → 0 < y → y ≤ x * 2 ^ n → x ≤ 2 ^ k * y → Bounded n k (round binary64 false x y)
bounded n k x y N K Y h j =
    let lo = round binary64 false 1 (2 ^ n) in
    let hi = round binary64 false (2 ^ k) 1 in
    let r = round binary64 false x y in
    let a = low_exact n N in
    let b = high_exact k K in
    let p : T (positive lo) = positive_of_value lo 1 (2 ^ n) a (lit< tt) in
    let q : T (positive hi) = positive_of_value hi (2 ^ k) 1 b (pow_pos k) in
    let l = round_mono binary64 1 (2 ^ n) x y (pow_pos n) Y (le_trans (le_of_eq (one-mul y)) h) in
    let u = round_mono binary64 x y (2 ^ k) 1 Y (lit< tt) (le_trans (le_of_eq (mul-one x)) j) in
    let w : T (positive r) = between lo r hi p q l u in
    record {
      is_positive = w;
      from = le_trans (le_of_eq (sym (one-mul (den r)))) (values_of_le lo r 1 (2 ^ n) (num r) (den r) p w a (own_value r w) l);
      to = le_trans (le_of_eq (sym (mul-one (num r)))) (values_of_le r hi (num r) (den r) (2 ^ k) 1 w q (own_value r w) b u);
    }

-- ---- a quotient

div_is : (p d : Float) → T (positive p) → T (positive d) → div binary64 p d ≡ round binary64 false (num p * den d) (num d * den p)
unfolding div
div_is nan d h k = absurd h
div_is (inf s) d h k = absurd h
div_is (fin true m e) d h k = absurd h
div_is (fin false m e) nan h k = absurd k
div_is (fin false m e) (inf t) h k = absurd k
div_is (fin false m e) (fin true n d) h k = absurd k
div_is (fin false m e) (fin false n d) h k = cond_no (eqb n 0) _ _ (not_zero n (ltb→lt 0 n k))

-- P / p is at least 1 / N, or at most K; D / d is at most 2, or at least 1/2
quotient_low : (P p D d N : ℕ) → p ≤ P * N → D ≤ 2 * d → D * p ≤ P * d * (N * 2)
quotient_low P p D d N h k =
    let e : 2 * d * (P * N) ≡ P * d * (N * 2) = simp (mul_assoc, mul_comm, mul_left_comm) in
    le_trans (mul-le-mul k h) (le_of_eq e)

quotient_high : (P p D d K : ℕ) → P ≤ K * p → d ≤ D * 2 → P * d ≤ K * 2 * (D * p)
quotient_high P p D d K h k =
    let e : K * p * (D * 2) ≡ K * 2 * (D * p) = simp (mul_assoc, mul_comm, mul_left_comm) in
    le_trans (mul-le-mul h k) (le_of_eq e)

div_bounded : (n k : ℕ) (p d : Float) → n < 1074 → k < 1023 → Bounded n k p → Bounded 1 1 d → Bounded (suc n) (suc k) (div binary64 p d)
div_bounded n k p d N K b w =
    subst (Bounded (suc n) (suc k)) (sym (div_is p d b.is_positive w.is_positive))
    (bounded (suc n) (suc k) (num p * den d) (num d * den p) N K
    (mul-pos (value_pos d (num d) (den d) w.is_positive (den_pos d) (own_value d w.is_positive)) (den_pos p))
    (rw (pow-suc 2 n) (quotient_low (num p) (den p) (num d) (den d) (2 ^ n) b.from w.to))
    (rw (pow-suc 2 k) (quotient_high (num p) (den p) (num d) (den d) (2 ^ k) b.to w.from)))

-- ---- a sum

add_is : (p h : Float) → T (positive p) → Within 0 100 1 h → add binary64 p h ≡ round binary64 false (num p * den h + num h * den p) (den p * den h)
unfolding add
add_is nan h k w = absurd k
add_is (inf s) h k w = absurd k
add_is (fin true m e) h k w = absurd k
add_is (fin false m e) nan k w = absurd w
add_is (fin false m e) (inf t) k w = absurd w
add_is (fin false m e) (fin false n d) k w = sum_is (m * up e * down d) (n * up d * down e) (down e * down d)
add_is (fin false m e) (fin true n d) k w =
    let a = m * up e * down d in
    let b = n * up d * down e in
    let z : b ≡ 0 = ap (λ (x : ℕ). x * down e) (no_size (n * up d) (down d) w) ∙ zero-mul (down e) in
    minus a b (down e * down d) (omega arith) ∙ ap (λ (x : ℕ). round binary64 false x (down e * down d)) (same a b z)
  where
    no_size : (x y : ℕ) → x * 1 ≤ 0 * y → x ≡ 0
    no_size x y h = omega arith

    same : (a b : ℕ) → b ≡ 0 → a - b ≡ a + b
    same a b z = omega arith

at_most : (h : Float) → Within 0 100 1 h → num h ≤ 100 * den h
at_most nan w = absurd w
at_most (inf s) w = absurd w
at_most (fin false m e) w = most (m * up e) (down e) w
  where
    most : (x y : ℕ) → x * 1 ≤ 100 * y → x ≤ 100 * y
    most x y h = omega arith
at_most (fin true m e) w = most (m * up e) (down e) w
  where
    most : (x y : ℕ) → x * 1 ≤ 0 * y → x ≤ 100 * y
    most x y h = omega arith

-- P / p is at least 1 / N, or at most K with H / h
sum_low : (P p H h N : ℕ) → p ≤ P * N → p * h ≤ (P * h + H * p) * N
sum_low P p H h N l =
    le_trans (mul-le-mul_right h l)
    (le_trans (le_of_eq (mul_right_comm P N h)) (mul-le-mul_right N (le-add_right (P * h) (H * p))))

sum_high : (P p H h K : ℕ) → P ≤ K * p → H ≤ K * h → P * h + H * p ≤ K * 2 * (p * h)
sum_high P p H h K a b =
    let x : P * h ≤ K * p * h = mul-le-mul_right h a in
    let y : H * p ≤ K * h * p = mul-le-mul_right p b in
    let xs : K * p * h ≡ K * (p * h) = mul_assoc K p h in
    let ys : K * h * p ≡ K * (p * h) = mul_right_comm K h p ∙ mul_assoc K p h in
    let zs : K * 2 * (p * h) ≡ K * (p * h) * 2 = mul_right_comm K 2 (p * h) in
    omega arith

add_bounded : (n k : ℕ) (p h : Float) → n ≤ 1074 → k < 1023 → 7 ≤ k → Bounded n k p → Within 0 100 1 h → Bounded n (suc k) (add binary64 p h)
add_bounded n k p h N K S b w =
    let l : 2 ^ 7 ≤ 2 ^ k = pow_mono S in
    let c : num h ≤ 2 ^ k * den h = le_trans (at_most h w) (mul-le-mul_right (den h) (omega arith)) in
    subst (Bounded n (suc k)) (sym (add_is p h b.is_positive w))
    (bounded n (suc k) (num p * den h + num h * den p) (den p * den h) N K (mul-pos (den_pos p) (den_pos h))
    (sum_low (num p) (den p) (num h) (den h) (2 ^ n) b.from)
    (rw (pow-suc 2 k) (sum_high (num p) (den p) (num h) (den h) (2 ^ k) b.to c)))

-- ---- the periods

hundred_bounded : Bounded 0 7 hundred
hundred_bounded = record { is_positive = tt; from = lit≤ tt; to = lit≤ tt }

pub zero_bounded : (d : Float) → Bounded 1 1 d → (n : ℕ) → n ≤ 240 → Bounded n (7 + n) (zero_after d n)
unfolding zero_after
zero_bounded d w zero h = hundred_bounded
zero_bounded d w (suc n) h =
    subst (λ (k : ℕ). Bounded (suc n) k (div binary64 (zero_after d n) d)) (more n)
    (div_bounded n (7 + n) (zero_after d n) d (omega arith) (omega arith) (zero_bounded d w n (omega arith)) w)
  where
    more : (n : ℕ) → suc (7 + n) ≡ 7 + suc n
    more n = omega arith

pub fixed_bounded : (c d : Float) → Within 0 100 1 c → Bounded 1 1 d → (n : ℕ) → n ≤ 240 → Bounded n (7 + 2 * n) (fixed_after c d n)
unfolding fixed_after
fixed_bounded c d v w zero h = hundred_bounded
fixed_bounded c d v w (suc n) h =
    let p = fixed_after c d n in
    let q = add_bounded n (7 + 2 * n) p c (omega arith) (omega arith) (omega arith) (fixed_bounded c d v w n (omega arith)) v in
    subst (λ (k : ℕ). Bounded (suc n) k (div binary64 (add binary64 p c) d)) (more n)
    (div_bounded n (suc (7 + 2 * n)) (add binary64 p c) d (omega arith) (omega arith) q w)
  where
    more : (n : ℕ) → suc (suc (7 + 2 * n)) ≡ 7 + 2 * suc n
    more n = omega arith
