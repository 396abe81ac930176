-- The decimal digits of a number below 100,000 stand for that number. Assumes nothing.
use Prim.Native.Nat.{ℕ, zero, suc, ◌+◌, ◌-◌, ◌*◌, ◌/◌, ◌%◌, ◌<◌}
use mathlib.Core.Path.{◌≡◌, refl}
use mathlib.Core.List.{List, [], ◌∷◌, ◌++◌}
use native.Mathlib.Nat.{mod-lt}
use native.Mathlib.Omega.{arith}
use borrow.Author.Tests.{ltb-true, lt-ltb}
use lib.Dec.{ltb}
use Rattle.lists.proofs.Cases.{by_bool}
use Rattle.text.specs.Text.{digit, low_digits, width_of, decimal}

-- what digits stand for that follow a number, read from the left
unfoldable pub read_after : ℕ → List ℕ → ℕ
read_after n [] = n
read_after n (c ∷ cs) = read_after (10 * n + (c - 48)) cs

read_last : (n c : ℕ) (cs : List ℕ) → read_after n (cs ++ (c ∷ [])) ≡ 10 * read_after n cs + (c - 48)
unfolding read_after
read_last n c [] = refl
read_last n c (b ∷ cs) = read_last (10 * n + (b - 48)) c cs

digit_stands : (d : ℕ) → d < 10 → digit d ≡ 48 + d
unfolding digit
digit_stands d h = rw (lt-ltb d 10 h)

unfoldable tens : ℕ → ℕ
tens zero = 1
tens (suc k) = 10 * tens k

read_digits : (k n : ℕ) → n < tens k → read_after 0 (low_digits 10 k n) ≡ n
unfolding tens low_digits read_after
read_digits zero n h = omega arith
read_digits (suc k) n h =
    let m : n % 10 < 10 = mod-lt n (omega arith) in
    omega (arith, read_last 0 (digit (n % 10)) (low_digits 10 k (n / 10)), read_digits k (n / 10) (omega arith), digit_stands (n % 10) m)

width_holds : (n : ℕ) → n < 100000 → n < tens (width_of n)
unfolding tens width_of
width_holds n h =
    by_bool (ltb n 10) (λ e. rw (e, width_of) (ltb-true n 10 e))
    (λ a. by_bool (ltb n 100) (λ e. rw (a, e, width_of) (ltb-true n 100 e))
    (λ b. by_bool (ltb n 1000) (λ e. rw (a, b, e, width_of) (ltb-true n 1000 e))
    (λ c. by_bool (ltb n 10000) (λ e. rw (a, b, c, e, width_of) (ltb-true n 10000 e)) (λ e. rw (a, b, c, e, width_of) h))))

pub decimal_stands : (n : ℕ) → n < 100000 → read_after 0 (decimal n) ≡ n
unfolding decimal
decimal_stands n h = read_digits (width_of n) n (width_holds n h)
