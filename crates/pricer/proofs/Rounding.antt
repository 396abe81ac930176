-- What a fraction rounds to: its sign is that of the fraction, and where the fraction lies between two numbers of binary64, so does the result;
-- and the fractions of sums.
-- Assumes nothing.
use mathlib.Core.Path.{◌≡◌, refl, sym, ap, ◌∙◌, subst}
use mathlib.Core.Bool.{Bool, true, false, not, ◌&&◌, ◌||◌, cond}
use Prim.Native.Nat.{ℕ, zero, suc, ◌+◌, ◌-◌, ◌*◌, ◌^◌, ◌≤◌, ◌<◌}
use native.Mathlib.Nat.{le_of_lt, le_of_eq, not-le_of_lt}
use native.Mathlib.Omega.{arith}
use lib.IntN.{ℤ}
use lib.Dec.{T, ltb, eqb, eqb→eq, ltb→lt, not_T}
use lib.Ieee.{Float, nan, inf, fin, binary64, up, down, low, emax, prec, odd, units, round, sum, neg, le}
use lib.Ieee.Fits.{down_pos, round_is, and_l, and_r}
use lib.Ieee.Order.{round_mono}
use lib.Ieee.Positive.{through}
use Rattle.pricer.specs.Range.{within}

-- ---- numbers

pub not_zero : (n : ℕ) → 0 < n → T (not (eqb n 0))
not_zero n h = not_T (eqb n 0) (λ u. differ n h (eqb→eq n 0 u))
  where
    differ : (n : ℕ) → 0 < n → n ≡ 0 → ⊥
    differ n h e = omega arith

-- ---- the sign

-- not a NaN, and its sign is not negative; an infinity may be
abbrev sign_clear : Float → Bool
sign_clear nan = false
sign_clear (inf s) = not s
sign_clear (fin s m e) = not s

odd_sign_clear : (d q k l : ℕ) → T (sign_clear (odd d false q k l))
unfolding odd
odd_sign_clear d zero k l = tt
odd_sign_clear d (suc q) k l = tt

units_sign_clear : (q k : ℕ) → T (sign_clear (units binary64 false q k))
unfolding units
units_sign_clear q k = go (ltb (q * 2 ^ k) (2 ^ (low binary64 + suc (emax binary64))))
  where
    go : (b : Bool) → T (sign_clear (cond b (odd (suc (prec binary64)) false q k (low binary64)) (inf false)))
    go true = odd_sign_clear (suc (prec binary64)) q k (low binary64)
    go false = tt

round_sign_clear : (a c : ℕ) → T (sign_clear (round binary64 false a c))
round_sign_clear a c = subst (λ (z : Float). T (sign_clear z)) (sym (round_is binary64 false a c)) (units_sign_clear _ _)

neg_odd : (d q k l : ℕ) → odd d true q k l ≡ neg (odd d false q k l)
unfolding odd neg
neg_odd d zero k l = refl
neg_odd d (suc q) k l = refl

neg_units : (q k : ℕ) → units binary64 true q k ≡ neg (units binary64 false q k)
unfolding units neg
neg_units q k = go (ltb (q * _) _)
  where
    go : (b : Bool) → cond b (odd 54 true q k 1074) (inf true) ≡ neg (cond b (odd 54 false q k 1074) (inf false))
    go true = neg_odd 54 q k 1074
    go false = refl

neg_round : (a c : ℕ) → round binary64 true a c ≡ neg (round binary64 false a c)
neg_round a c = round_is binary64 true a c ∙ neg_units _ _ ∙ ap neg (sym (round_is binary64 false a c))

-- ---- sums of a fraction that is not negative, of one denominator

-- a / c - b / c for b up to a
pub minus : (a b c : ℕ) → b ≤ a → sum binary64 false a true b c ≡ round binary64 false (a - b) c
unfolding sum
minus a b c h = go (ltb a b) (ltb→lt a b)
  where
    go : (t : Bool) → (T t → a < b) → cond t (round binary64 true (b - a) c) (round binary64 false (a - b) c) ≡ round binary64 false (a - b) c
    go true k = absurd (not-le_of_lt (k tt) h)
    go false k = refl

pub sum_is : (a b c : ℕ) → sum binary64 false a false b c ≡ round binary64 false (a + b) c
unfolding sum
sum_is a b c = refl

-- ---- from -a / c to b / c

-- x is finite and lies there
abbrev pub Within : ℕ → ℕ → ℕ → Float → Type 0
Within a b c nan = ⊥
Within a b c (inf s) = ⊥
Within a b c (fin false m e) = m * up e * c ≤ b * down e
Within a b c (fin true m e) = m * up e * c ≤ a * down e

-- x is finite, and a / c in size
abbrev pub Sized : ℕ → ℕ → Float → Type 0
Sized a c nan = ⊥
Sized a c (inf s) = ⊥
Sized a c (fin s m e) = m * up e * c ≡ a * down e

or_le : (a b : ℕ) → (t : Bool) → (T t → a < b) → (u : Bool) → (T u → a ≡ b) → T (t || (u && true)) → a ≤ b
or_le a b true h u k w = le_of_lt (h tt)
or_le a b false h u k w = le_of_eq (k (and_l u true w))

-- what `le` says of the sizes: of a lower number that is not negative, and of an upper one that is
size_below : (m : ℕ) (e : ℤ) (t : Bool) (n : ℕ) (d : ℤ) → T (le (fin false m e) (fin t n d)) → m * up e * down d ≤ n * up d * down e
unfolding le
size_below m e false n d h =
    let a = m * up e * down d in
    let b = n * up d * down e in
    or_le a b (ltb a b) (ltb→lt a b) (eqb a b) (eqb→eq a b) h
size_below m e true n d h =
    let a = m * up e * down d in
    let b = n * up d * down e in
    le_of_eq (eqb→eq a b (and_l (eqb a b) (eqb a 0) h))

size_above : (s : Bool) (n : ℕ) (d : ℤ) (m : ℕ) (e : ℤ) → T (le (fin s n d) (fin true m e)) → m * up e * down d ≤ n * up d * down e
unfolding le
size_above true n d m e h =
    let a = n * up d * down e in
    let b = m * up e * down d in
    or_le b a (ltb b a) (ltb→lt b a) (eqb a b) (λ u. sym (eqb→eq a b u)) h
size_above false n d m e h =
    let a = n * up d * down e in
    let b = m * up e * down d in
    le_of_eq (sym (eqb→eq a b (and_l (eqb a b) (eqb a 0) h)))

-- between two numbers of these sizes
ends : (a b c : ℕ) (lo hi x : Float) → Sized a c lo → Sized b c hi → T (le lo x) → T (le x hi) → Within a b c x
unfolding le
ends a b c nan hi x p q h k = absurd p
ends a b c (inf s) hi x p q h k = absurd p
ends a b c (fin s n d) nan x p q h k = absurd q
ends a b c (fin s n d) (inf t) x p q h k = absurd q
ends a b c (fin s n d) (fin t l f) nan p q h k = absurd h
ends a b c (fin s n d) (fin t l f) (inf true) p q h k = absurd h
ends a b c (fin s n d) (fin t l f) (inf false) p q h k = absurd k
ends a b c (fin s n d) (fin t l f) (fin false m e) p q h k =
    through (m * up e) (l * up f) b (down e) (down f) c (down_pos f) (size_below m e t l f k) (le_of_eq q)
ends a b c (fin s n d) (fin t l f) (fin true m e) p q h k =
    through (m * up e) (n * up d) a (down e) (down d) c (down_pos d) (size_above s n d m e h) (le_of_eq p)

pub within_ends : (a b c : ℕ) (lo hi x : Float) → Sized a c lo → Sized b c hi → T (within lo hi x) → Within a b c x
within_ends a b c lo hi x p q h = ends a b c lo hi x p q (and_l (le lo x) (le x hi) h) (and_r (le lo x) (le x hi) h)

-- ---- a fraction of a size up to one that is a number of binary64

capped : (a b c : ℕ) (x hi : Float) → T (sign_clear x) → Sized b c hi → T (le x hi) → Within a b c x
unfolding le
capped a b c nan hi p q h = absurd p
capped a b c (inf true) hi p q h = absurd p
capped a b c (inf false) nan p q h = absurd q
capped a b c (inf false) (inf t) p q h = absurd q
capped a b c (inf false) (fin t n d) p q h = absurd h
capped a b c (fin true m e) hi p q h = absurd p
capped a b c (fin false m e) nan p q h = absurd q
capped a b c (fin false m e) (inf t) p q h = absurd q
capped a b c (fin false m e) (fin t n d) p q h =
    through (m * up e) (n * up d) b (down e) (down d) c (down_pos d) (size_below m e t n d h) (le_of_eq q)

mirrored : (a b c : ℕ) (x : Float) → Within a b c x → Within b a c (neg x)
unfolding neg
mirrored a b c nan h = h
mirrored a b c (inf s) h = h
mirrored a b c (fin false m e) h = h
mirrored a b c (fin true m e) h = h

-- a / c is a number of binary64
abbrev pub Exact : ℕ → ℕ → Type 0
Exact a c = Sized a c (round binary64 false a c)

pub round_high : (a b c x y : ℕ) → 0 < c → 0 < y → Exact b c → x * c ≤ b * y → Within a b c (round binary64 false x y)
round_high a b c x y C Y q h = capped a b c (round binary64 false x y) _ (round_sign_clear x y) q (round_mono binary64 x y b c Y C h)

pub round_low : (a b c x y : ℕ) → 0 < c → 0 < y → Exact a c → x * c ≤ a * y → Within a b c (round binary64 true x y)
round_low a b c x y C Y q h =
    subst (Within a b c) (sym (neg_round x y)) (mirrored b a c (round binary64 false x y) (round_high b a c x y C Y q h))
