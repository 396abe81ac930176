-- A character is a letter, a digit or neither: what the tests on bytes say of it, and its value by document 01. Assumes nothing.
use Prim.Native.Nat.{ℕ, ◌-◌, ◌<◌, ◌≤◌}
use mathlib.Core.Path.{◌≡◌, sym, ◌∙◌}
use mathlib.Core.Bool.{Bool, true, false, ◌&&◌, true≢false}
use native.Mathlib.Omega.{arith}
use borrow.Author.Tests.{ltb-true, ltb-false, leb-true, leb-false, le-leb, lt-leb}
use lib.Dec.{leb, ltb}
use Rattle.lists.proofs.Cases.{by_bool}
use Rattle.isin.specs.Isin.{value_of}
use Rattle.isin.specs.Values.{is_letter, is_digit, is_allowed}

data Class (b : ℕ) : Type 0 where
  letter : 65 ≤ b → b ≤ 90 → value_of b ≡ b - 55 → Class b
  digit : 48 ≤ b → b ≤ 57 → value_of b ≡ b - 48 → Class b
  neither : is_letter b ≡ false → is_digit b ≡ false → value_of b ≡ 36 → Class b

-- by its place among 48, 58, 65 and 91
class_of : (b : ℕ) → Class b
class_of b =
    by_bool (ltb b 48) (λ e. let l = ltb-true b 48 e in neither (rw (lt-leb 65 b (omega arith))) (rw (lt-leb 48 b l)) (rw e))
    (λ e. by_bool (ltb b 58) (λ f. let l = ltb-true b 58 f in digit (ltb-false b 48 e) (omega arith) (rw (e, f)))
    (λ f. by_bool (ltb b 65) (λ g. neither (rw (lt-leb 65 b (ltb-true b 65 g))) (no_digit (ltb-false b 58 f)) (rw (e, f, g)))
    (λ g. by_bool (ltb b 91) (λ h. let l = ltb-true b 91 h in letter (ltb-false b 65 g) (omega arith) (rw (e, f, g, h)))
    (λ h. let k = ltb-false b 91 h in neither (rw (le-leb 65 b (omega arith), lt-leb b 90 k)) (no_digit (omega arith)) (rw (e, f, g, h))))))
  where
    no_digit : 58 ≤ b → is_digit b ≡ false
    no_digit h = rw (le-leb 48 b (omega arith), lt-leb b 57 h)

-- an allowed character is a letter or a digit
pub by_allowed : {P : Type 0} (b : ℕ) → is_allowed b ≡ true
    → (65 ≤ b → b ≤ 90 → value_of b ≡ b - 55 → P) → (48 ≤ b → b ≤ 57 → value_of b ≡ b - 48 → P) → P
by_allowed {P} b e p q = go (class_of b)
  where
    go : Class b → P
    go (letter l h v) = p l h v
    go (digit l h v) = q l h v
    go (neither f g v) = absurd (true≢false (sym e ∙ rw (f, g)))

-- ---- each test of a byte is the test of its value that `all_in` makes

abbrev pub within : ℕ → ℕ → ℕ → Bool
within lo hi b = leb lo (value_of b) && leb (value_of b) hi

pub letter_value : (b : ℕ) → is_letter b ≡ within 10 35 b
letter_value b = go (class_of b)
  where
    go : Class b → is_letter b ≡ within 10 35 b
    go (letter l h v) = rw (v, le-leb 65 b l, le-leb b 90 h, le-leb 10 (b - 55) (omega arith), le-leb (b - 55) 35 (omega arith))
    go (digit l h v) = rw (v, lt-leb 65 b (omega arith), lt-leb 10 (b - 48) (omega arith))
    go (neither e f v) = rw (v, e)

one_digit : (b : ℕ) → is_digit b ≡ leb (value_of b) 9
one_digit b = go (class_of b)
  where
    go : Class b → is_digit b ≡ leb (value_of b) 9
    go (letter l h v) = rw (v, le-leb 48 b (omega arith), lt-leb b 57 (omega arith), lt-leb (b - 55) 9 (omega arith))
    go (digit l h v) = rw (v, le-leb 48 b l, le-leb b 57 h, le-leb (b - 48) 9 (omega arith))
    go (neither e f v) = rw (v, f)

pub digit_value : (b : ℕ) → is_digit b ≡ within 0 9 b
digit_value b = rw (le-leb 0 (value_of b) (omega arith)) (one_digit b)

-- the value of a digit is one digit, and that of any other character two
pub digit_below : (b : ℕ) → is_digit b ≡ true → value_of b < 10
digit_below b e = let h = leb-true (value_of b) 9 (sym (one_digit b) ∙ e) in omega arith

pub other_above : (b : ℕ) → is_digit b ≡ false → 10 ≤ value_of b
other_above b e = leb-false (value_of b) 9 (sym (one_digit b) ∙ e)

pub allowed_value : (b : ℕ) → is_allowed b ≡ within 0 35 b
allowed_value b = rw (le-leb 0 (value_of b) (omega arith)) (go (class_of b))
  where
    go : Class b → is_allowed b ≡ leb (value_of b) 35
    go (letter l h v) = rw (v, le-leb 65 b l, le-leb b 90 h, le-leb (b - 55) 35 (omega arith))
    go (digit l h v) = rw (v, lt-leb 65 b (omega arith), le-leb 48 b l, le-leb b 57 h, le-leb (b - 48) 35 (omega arith))
    go (neither e f v) = rw (v, e, f)
