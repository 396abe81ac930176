-- Laws of a text written over a buffer: what stands before it, one text after or before another, one more character. Assumes nothing.
use Prim.Native.Nat.{ℕ, zero, suc, ◌+◌, ◌*◌, ◌≤◌, ◌<◌}
use mathlib.Core.Path.{◌≡◌, sym, ap, ◌∙◌}
use mathlib.Core.List.{List, [], ◌∷◌, ◌++◌, append_assoc}
use native.Mathlib.Nat.{suc-mul}
use native.Mathlib.Omega.{arith}
use native.Mathlib.Numerals.{add-one}
use lib.ListN.{length, take, drop, set, get_or, length-append, get_or-append}
use lib.Seq.{paste, paste-zero, take-length, length-take-le, take_at, take-take, take-suc, take-append-le, drop_at, drop-drop}
use lib.Seq.{take-set-le, set_at, set_split, append_snoc, paste-suc, get_or-take}
use Rattle.text.specs.Text.{over, onto, Written, joined}

-- a copy of all of s is s written over
pub over_paste : (d : List ℕ) (at : ℕ) (s : List ℕ) → paste d at s (length s) ≡ over d at s
unfolding over
over_paste d at s = rw (take-length s)

pub over_none : (d : List ℕ) (at : ℕ) → over d at [] ≡ d
unfolding over
over_none d at = sym (paste-zero d at [])

-- at the front
pub over_onto : (d w : List ℕ) → over d 0 w ≡ onto w d
unfolding over
over_onto d w = let z : 0 + length w ≡ length w = omega arith in ap (λ (n : ℕ). w ++ drop n d) z

-- what stands up to the end of w
length_head : (d : List ℕ) (at : ℕ) (w : List ℕ) → at + length w ≤ length d → length (take at d ++ w) ≡ at + length w
length_head d at w h = length-append (take at d) w ∙ ap (λ (k : ℕ). k + length w) (length-take-le at d (omega arith))

module _ (d : List ℕ) (at : ℕ) (a : List ℕ) where
  -- one text after another
  pub over_over : (b : List ℕ) → at + length (a ++ b) ≤ length d → over (over d at a) (at + length a) b ≡ over d at (a ++ b)
  unfolding over
  over_over b h =
      let l : length (a ++ b) ≡ length a + length b = length-append a b in
      let p : List ℕ = take at d ++ a in
      let n : ℕ = at + length a in
      let q : length p ≡ n = length_head d at a (omega arith) in
      let t : take n (p ++ drop n d) ≡ p = take_at p (drop n d) n q in
      let m : n + length b ≡ at + length (a ++ b) = omega arith in
      let u : drop (n + length b) (p ++ drop n d) ≡ drop (at + length (a ++ b)) d =
      sym (drop-drop (length b) n (p ++ drop n d)) ∙ ap (drop (length b)) (drop_at p (drop n d) n q) ∙ drop-drop (length b) n d
      ∙ ap (λ (k : ℕ). drop k d) m in
      ap (λ (x : List ℕ). x ++ b ++ drop (n + length b) (p ++ drop n d)) t
      ∙ ap (λ (x : List ℕ). p ++ b ++ x) u
      ∙ ap (λ (x : List ℕ). x ++ drop (at + length (a ++ b)) d) (append_assoc (take at d) a b)

  -- one character more, stored before the others are
  pub over_set : (x : ℕ) → at + length a < length d → over (set d (at + length a) x) at a ≡ over d at (a ++ (x ∷ []))
  unfolding over
  over_set x h =
      let n : ℕ = at + length a in
      let l : length (a ++ (x ∷ [])) ≡ length a + 1 = length-append a (x ∷ []) in
      let t : take at (set d n x) ≡ take at d = take-set-le at d n x (omega arith) in
      let m : suc n ≡ at + length (a ++ (x ∷ [])) = omega arith in
      let u : drop n (set d n x) ≡ x ∷ drop (suc n) d =
      ap (drop n) (set_split d n x h) ∙ drop_at (take n d) (x ∷ drop (suc n) d) n (length-take-le n d (omega arith)) in
      ap (λ (y : List ℕ). y ++ a ++ drop n (set d n x)) t
      ∙ ap (λ (y : List ℕ). take at d ++ a ++ y) u
      ∙ sym (append_snoc (take at d ++ a) x (drop (suc n) d))
      ∙ ap (λ (y : List ℕ). y ++ drop (suc n) d) (append_assoc (take at d) a (x ∷ []))
      ∙ ap (λ (k : ℕ). take at d ++ (a ++ (x ∷ [])) ++ drop k d) m

-- what stands before the text is as it was
pub over_before : (d : List ℕ) (at : ℕ) (w : List ℕ) (i : ℕ) → at ≤ length d → i < at → get_or (over d at w) i 0 ≡ get_or d i 0
unfolding over
over_before d at w i h k =
    let l : length (take at d) ≡ at = length-take-le at d h in
    rw (append_assoc (take at d) w (drop (at + length w) d))
    (get_or-append (take at d) (w ++ drop (at + length w) d) 0 i (omega arith) ∙ get_or-take at d i 0 k)

-- one character more, in front
pub over_front : (d : List ℕ) (at : ℕ) (w : List ℕ) (x : ℕ) → at < length d → set (over d (suc at) w) at x ≡ over d at (x ∷ w)
unfolding over
over_front d at w x h =
    let r : List ℕ = drop (suc at + length w) d in
    let y : ℕ = get_or d at 0 in
    let l : length (take at d) ≡ at = length-take-le at d (omega arith) in
    let m : suc at + length w ≡ at + suc (length w) = omega arith in
    let a : (take (suc at) d ++ w) ++ r ≡ take at d ++ (y ∷ (w ++ r)) = rw (take-suc d at 0 h) (simp append_assoc) in
    ap (λ (z : List ℕ). set z at x) a
    ∙ set_at (take at d) y (w ++ r) x at l
    ∙ sym (append_assoc (take at d) (x ∷ w) r)
    ∙ ap (λ (k : ℕ). (take at d ++ (x ∷ w)) ++ drop k d) m

-- one text before another
pub over_below : (d : List ℕ) (at : ℕ) (w p : List ℕ) → at + length w ≤ length d → over (over d (at + length w) p) at w ≡ over d at (w ++ p)
unfolding over
over_below d at w p h =
    let b : ℕ = at + length w in
    let r : List ℕ = drop (b + length p) d in
    let l : length (take b d) ≡ b = length-take-le b d h in
    let n : length (w ++ p) ≡ length w + length p = length-append w p in
    let m : b + length p ≡ at + length (w ++ p) = omega arith in
    let k : at ≤ b = omega arith in
    let x : (take b d ++ p) ++ r ≡ take b d ++ (p ++ r) = append_assoc (take b d) p r in
    let t : take at (take b d ++ (p ++ r)) ≡ take at d = take-append-le at (take b d) (p ++ r) (omega arith) ∙ take-take at b d k in
    let u : drop b (take b d ++ (p ++ r)) ≡ p ++ r = drop_at (take b d) (p ++ r) b l in
    rw (x, t, u)
    (sym (append_assoc (take at d ++ w) p r)
    ∙ ap (λ (y : List ℕ). y ++ r) (append_assoc (take at d) w p)
    ∙ ap (λ (j : ℕ). (take at d ++ (w ++ p)) ++ drop j d) m)

-- ---- a copy, byte by byte

pub paste_more : (d : List ℕ) (at : ℕ) (s : List ℕ) (j o : ℕ) (e : List ℕ) → at + length s ≤ length d → j < length s → o ≡ at + j → e ≡ paste d at s j
    → set e o (get_or s j 0) ≡ paste d at s (j + 1)
paste_more d at s j o e f h p q = rw (add-one j, q, p) (paste-suc d at s j 0 (omega arith) h)

-- ---- a function that writes, after another

pub then : {d : List ℕ} {at : ℕ} {a : List ℕ} {e : List ℕ} {m : ℕ} {b : List ℕ} {f : List ℕ} {r : ℕ}
    → Written d at a e m → Written e m b f r → at + length (a ++ b) ≤ length d → Written d at (a ++ b) f r
then {d} {at} {a} {e} {m} {b} {f} {r} g h k =
    record {
      text = h.text ∙ ap (λ (x : List ℕ). over x m b) g.text ∙ ap (λ (n : ℕ). over (over d at a) n b) g.end ∙ over_over d at a b k;
      end = omega (arith, h.end, g.end, length-append a b);
    }

pub then_two : {d : List ℕ} {at : ℕ} {a : List ℕ} {e : List ℕ} {m : ℕ} {b : List ℕ} {f : List ℕ} {r : ℕ} {w : List ℕ} {g : List ℕ} {s : ℕ}
    → Written d at a e m → Written e m b f r → Written f r w g s → at + length (a ++ b ++ w) ≤ length d → Written d at (a ++ b ++ w) g s
then_two {d} {at} {a} {e} {m} {b} {f} {r} {w} p q t k = then (then p q (omega (arith, length-append (a ++ b) w))) t k

-- ---- texts one after another, each written by a turn of a loop

module _ (f : ℕ → List ℕ) where
  pub joined_most : (b n : ℕ) → ((i : ℕ) → i < n → length (f i) ≤ b) → length (joined f n) ≤ n * b
  unfolding joined
  joined_most b zero h = omega arith
  joined_most b (suc n) h =
      omega (arith, length-append (joined f n) (f n), joined_most b n (λ i l. h i (omega arith)), h n (omega arith), suc-mul n b)

  pub joined_none : (d : List ℕ) (at : ℕ) → at ≤ length d → Written d at (joined f 0) d at
  unfolding joined
  joined_none d at h = record { text = sym (over_none d at); end = omega arith }

  pub joined_more : {d : List ℕ} {at : ℕ} {k : ℕ} {e : List ℕ} {m : ℕ} {g : List ℕ} {r : ℕ}
      → Written d at (joined f k) e m → Written e m (f k) g r → at + length (joined f (k + 1)) ≤ length d → Written d at (joined f (k + 1)) g r
  unfolding joined
  joined_more {d} {at} {k} p q h = rw (add-one k) (then p q (rw (add-one k) at h))
