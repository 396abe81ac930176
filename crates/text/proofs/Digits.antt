-- Laws of numbers written in digits: how many there are. Assumes nothing.
use Prim.Native.Nat.{ℕ, zero, suc, ◌+◌, ◌-◌, ◌/◌, ◌%◌, ◌≤◌, ◌<◌}
use mathlib.Core.Path.{◌≡◌, refl, sym, ap, ◌∙◌}
use mathlib.Core.List.{List, [], ◌∷◌}
use native.Mathlib.Numerals.{add-one}
use native.Mathlib.Omega.{arith}
use borrow.Author.Tests.{lt-ltb}
use lib.Dec.{ltb}
use lib.ListN.{length, set, length-append}
use Rattle.lists.proofs.Cases.{by_bool}
use Rattle.text.specs.Text.{over, digit, low_digits, width_of, decimal, hex16}
use Rattle.text.proofs.Over.{over_none, over_set}

pub length_digits : (base k x : ℕ) → length (low_digits base k x) ≡ k
unfolding low_digits
length_digits base zero x = refl
length_digits base (suc k) x =
    length-append (low_digits base k (x / base)) (digit (x % base) ∷ []) ∙ ap (λ (n : ℕ). n + 1) (length_digits base k (x / base)) ∙ add-one k

pub length_decimal : (n : ℕ) → length (decimal n) ≡ width_of n
unfolding decimal
length_decimal n = length_digits 10 (width_of n) n

pub length_hex : (x : ℕ) → length (hex16 x) ≡ 16
unfolding hex16
length_hex x = length_digits 16 16 x

-- a number below 100 has at most two digits
pub two_digits : (n : ℕ) → n < 100 → length (decimal n) ≤ 2
unfolding width_of
two_digits n h =
    rw (length_decimal n)
    (by_bool (ltb n 10) (λ e. rw (e) (omega arith)) (λ e. rw (e, lt-ltb n 100 h) (omega arith)))

pub five_digits : (n : ℕ) → length (decimal n) ≤ 5
unfolding width_of
five_digits n =
    rw (length_decimal n)
    (by_bool (ltb n 10) (λ e. rw (e) (omega arith))
    (λ e. by_bool (ltb n 100) (λ f. rw (e, f) (omega arith))
    (λ f. by_bool (ltb n 1000) (λ g. rw (e, f, g) (omega arith))
    (λ g. by_bool (ltb n 10000) (λ i. rw (e, f, g, i) (omega arith)) (λ i. rw (e, f, g, i) (omega arith))))))

-- a turn of the loop that writes the digits from the last one on: what is written and what is still to be written give the same as before
pub digits_more : (d e : List ℕ) (at base width x i rest r : ℕ) → 0 < i → at + i ≤ length e → r ≡ digit (rest % base)
    → over e at (low_digits base i rest) ≡ over d at (low_digits base width x)
    → over (set e (at + (i - 1)) r) at (low_digits base (i - 1) (rest / base)) ≡ over d at (low_digits base width x)
unfolding low_digits
digits_more d e at base width x i rest r p h q v =
    let n : ℕ = i - 1 in
    let s : suc n ≡ i = omega arith in
    let w : List ℕ = low_digits base n (rest / base) in
    let l : n ≡ length w = sym (length_digits base n (rest / base)) in
    ap (λ (k : ℕ). over (set e (at + n) k) at w) q
    ∙ ap (λ (k : ℕ). over (set e (at + k) (digit (rest % base))) at w) l
    ∙ over_set e at w (digit (rest % base)) (omega arith)
    ∙ ap (λ (k : ℕ). over e at (low_digits base k rest)) s
    ∙ v

pub digits_end : (d e : List ℕ) (at base width x i rest : ℕ) → i ≡ 0 → over e at (low_digits base i rest) ≡ over d at (low_digits base width x)
    → e ≡ over d at (low_digits base width x)
unfolding low_digits
digits_end d e at base width x i rest p v = sym (over_none e at) ∙ ap (λ (k : ℕ). over e at (low_digits base k rest)) (sym p) ∙ v
