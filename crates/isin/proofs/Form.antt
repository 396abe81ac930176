-- The form of an identifier: `all_in` character by character, its parts of two and of one, and what it says of each character. Assumes nothing.
use mathlib.Core.Path.{◌≡◌, sym, ap, ◌∙◌}
use mathlib.Core.Bool.{Bool, true, ◌&&◌, and-true, and_assoc}
use mathlib.Core.List.{List, [], ◌∷◌}
use Prim.Native.Nat.{ℕ, zero, suc, ◌+◌, ◌-◌, ◌<◌, ◌≤◌}
use native.Mathlib.Nat.{le_of_suc-le-suc, not-suc-le-zero}
use native.Mathlib.Numerals.{add-one}
use native.Mathlib.Omega.{arith}
use borrow.Author.Tests.{ltb-true, ltb-false, eqb-true, ne_eqb, leb-true, le-leb}
use lib.ListN.{length, take, drop, get_or, length-drop, drop_of_length-le}
use lib.Seq.{drop-cons, get_or-take, get_or-drop, length-take-le}
use lib.Dec.{leb, ltb, eqb}
use Rattle.lists.proofs.Cases.{by_bool, and_left, and_right}
use Rattle.isin.specs.Isin.{value_of, all_in, has_form, verdict_of}
use Rattle.isin.specs.Values.{is_letter, is_digit, is_allowed}
use Rattle.isin.proofs.Characters.{within, letter_value, digit_value, allowed_value}

-- ---- one more character to the right

-- the first character, and the others
first : (lo hi b : ℕ) (bs : List ℕ) → all_in lo hi (b ∷ bs) ≡ within lo hi b && all_in lo hi bs
unfolding all_in
first lo hi b bs = sym (and_assoc (leb lo (value_of b)) (leb (value_of b) hi) (all_in lo hi bs))

-- one character
pub one : (lo hi b : ℕ) → all_in lo hi (b ∷ []) ≡ within lo hi b
unfolding all_in
one lo hi b = first lo hi b [] ∙ and-true (within lo hi b)

-- a is what is known of those before i
module _ (s : List ℕ) (i : ℕ) (a : Bool) where
  pub next : (b : Bool) → i < length s → b ≡ is_allowed (get_or s i 0) → a && all_in 0 35 (drop i s) ≡ a && b && all_in 0 35 (drop (i + 1) s)
  next b h e = rw (add-one, drop-cons s i 0, first 0 35, ← allowed_value (get_or s i 0), ← e, and_assoc)

  pub ends : length s ≤ i → a && all_in 0 35 (drop i s) ≡ a
  unfolding all_in
  ends h = rw (drop_of_length-le s {i = i} h, and-true)

-- ---- the parts of two characters and of one

pub two_letters : (s : List ℕ) → length s ≡ 12 → all_in 10 35 (take 2 s) ≡ is_letter (get_or s 0 0) && is_letter (get_or s 1 0)
two_letters [] n = absurd (omega arith)
two_letters (a ∷ []) n = absurd (omega arith)
two_letters (a ∷ b ∷ s) n = rw (first 10 35 a (b ∷ []), one 10 35 b, ← letter_value a, ← letter_value b)

pub check_digit : (s : List ℕ) → length s ≡ 12 → all_in 0 9 (take 1 (drop 11 s)) ≡ is_digit (get_or s 11 0)
check_digit s n = rw (drop-cons s 11 0 (omega arith), one 0 9 (get_or s 11 0), ← digit_value (get_or s 11 0))

-- ---- what has the form

-- each character of a part whose values end at 35 or before is allowed
member : (lo hi : ℕ) → hi ≤ 35 → (s : List ℕ) (i : ℕ) → all_in lo hi s ≡ true → i < length s → is_allowed (get_or s i 0) ≡ true
unfolding all_in
member lo hi k [] i e h = absurd (not-suc-le-zero h)
member lo hi k (b ∷ bs) zero e h =
    let v : value_of b ≤ hi = leb-true _ _ (and_left (leb (value_of b) hi) _ (and_right (leb lo (value_of b)) _ e)) in
    allowed_value b ∙ rw (le-leb 0 (value_of b) (omega arith), le-leb (value_of b) 35 (omega arith))
member lo hi k (b ∷ bs) (suc i) e h =
    member lo hi k bs i (and_right (leb (value_of b) hi) _ (and_right (leb lo (value_of b)) _ e)) (le_of_suc-le-suc h)

part : (lo hi a n : ℕ) → hi ≤ 35 → (s : List ℕ) → all_in lo hi (take n (drop a s)) ≡ true → a + n ≤ length s
    → (i : ℕ) → a ≤ i → i < a + n → is_allowed (get_or s i 0) ≡ true
part lo hi a n k s e l i h j =
    let d = length-drop a s in
    let t : length (take n (drop a s)) ≡ n = length-take-le n (drop a s) (omega arith) in
    let x : a + (i - a) ≡ i = omega arith in
    let g : get_or (take n (drop a s)) (i - a) 0 ≡ get_or s i 0 =
    get_or-take n (drop a s) (i - a) 0 (omega arith) ∙ get_or-drop a s (i - a) 0 ∙ ap (λ (m : ℕ). get_or s m 0) x in
    rw g at (member lo hi k (take n (drop a s)) (i - a) e (omega arith))

-- what has not twelve characters has another form
pub not_twelve : (s : List ℕ) → (length s ≡ 12 → ⊥) → verdict_of s ≡ 4
unfolding verdict_of has_form
not_twelve s h = rw (ne_eqb (length s) 12 h)

-- it has twelve characters, and each is allowed
pub record Formed (s : List ℕ) : Type 0 where
  pub twelve : length s ≡ 12
  pub allowed : (i : ℕ) → i < 12 → is_allowed (get_or s i 0) ≡ true

pub formed : (s : List ℕ) → has_form s ≡ true → Formed s
unfolding has_form
formed s e =
    let n = eqb (length s) 12 in
    let two = all_in 10 35 (take 2 s) in
    let nine = all_in 0 35 (take 9 (drop 2 s)) in
    let f : n && two && nine ≡ true = and_left (n && two && nine) _ e in
    let g : n && two ≡ true = and_left (n && two) nine f in
    let w : length s ≡ 12 = eqb-true _ _ (and_left n two g) in
    let letters = part 10 35 0 2 (omega arith) s (and_right n two g) (omega arith) in
    let middle = part 0 35 2 9 (omega arith) s (and_right (n && two) nine f) (omega arith) in
    let last = part 0 9 11 1 (omega arith) s (and_right (n && two && nine) _ e) (omega arith) in
    record {
      twelve = w;
      allowed = λ i h.
          by_bool (ltb i 2) (λ p. letters i (omega arith) (ltb-true i 2 p))
          (λ p. by_bool (ltb i 11) (λ q. middle i (ltb-false i 2 p) (ltb-true i 11 q))
          (λ q. last i (ltb-false i 11 q) h));
    }
