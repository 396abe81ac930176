-- One more character to the left: its digits, what they add to the sum, and which of them are doubled. Assumes nothing.
use mathlib.Core.Path.{◌≡◌, refl, sym, ap, ◌∙◌}
use mathlib.Core.Bool.{Bool, true, false, not}
use mathlib.Core.List.{List, ◌∷◌}
use Prim.Native.Nat.{ℕ, suc, ◌+◌, ◌-◌, ◌/◌, ◌%◌, ◌<◌, ◌≤◌}
use native.Mathlib.Nat.{add_comm}
use native.Mathlib.Omega.{arith}
use borrow.Author.Tests.{lt-ltb, le-ltb}
use lib.ListN.{length, drop, get_or}
use lib.Seq.{drop-cons, drop-length}
use Rattle.isin.specs.Isin.{value_of, expanded, weight, twice, digit_sum}

-- what stands at i - 1, before what is dropped at i
back : (i : ℕ) → 0 < i → suc (i - 1) ≡ i
back i h = omega arith

under : (i n : ℕ) → 0 < i → i ≤ n → i - 1 < n
under i n h k = omega arith

pub before : (s : List ℕ) (i : ℕ) → 0 < i → i ≤ length s → drop (i - 1) s ≡ get_or s (i - 1) 0 ∷ drop i s
before s i h k = drop-cons s (i - 1) 0 (under i (length s) h k) ∙ ap (λ (n : ℕ). get_or s (i - 1) 0 ∷ drop n s) (back i h)

-- the sum t and the flag w say what the digits ds do
abbrev pub Says : ℕ → Bool → List ℕ → Type 0
Says t w ds = (t ≡ digit_sum ds) × (w ≡ twice ds)

next : (t d : ℕ) (w : Bool) (ds : List ℕ) → Says t w ds → Says (t + weight w d) (not w) (d ∷ ds)
unfolding twice digit_sum
next t d w ds h = (rw (h.0, h.1, add_comm (digit_sum ds) (weight (twice ds) d)), ap not h.1)

twice_not : (w : Bool) → not (not w) ≡ w
twice_not true = refl
twice_not false = refl

-- the character at i - 1, of value v, is one digit, with the weight r
pub one_digit : (s : List ℕ) (i t v r : ℕ) (w : Bool) → 0 < i → i ≤ length s → v ≡ value_of (get_or s (i - 1) 0) → v < 10 → r ≡ weight w v
    → Says t w (expanded (drop i s)) → Says (t + r) (not w) (expanded (drop (i - 1) s))
unfolding expanded
one_digit s i t v r w p q e k f h = rw (before s i p q, ← e, lt-ltb v 10 k, f) (next t v w (expanded (drop i s)) h)

-- or two, with the weights r, of the right one, and z
pub two_digits : (s : List ℕ) (i t v r z : ℕ) (w : Bool) → 0 < i → i ≤ length s → v ≡ value_of (get_or s (i - 1) 0) → 10 ≤ v → r ≡ weight w (v % 10)
    → z ≡ weight (not w) (v / 10)
    → Says t w (expanded (drop i s)) → Says (t + r + z) w (expanded (drop (i - 1) s))
unfolding expanded
two_digits s i t v r z w p q e k f g h =
    let a = next t (v % 10) w (expanded (drop i s)) h in
    let y = next (t + weight w (v % 10)) (v / 10) (not w) (v % 10 ∷ expanded (drop i s)) a in
    rw (before s i p q, ← e, le-ltb v 10 k, f, g) (y.0, sym (twice_not w) ∙ y.1)

-- no character, no digit
pub no_digits : (s : List ℕ) → Says 0 true (expanded (drop (length s) s))
unfolding expanded twice digit_sum
no_digits s = rw (drop-length s) (refl, refl)
