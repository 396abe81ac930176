-- A part of a list: w elements from a on, where more follows the list, where it is what follows, in a front of the list; and the part from one
-- place up to another; and lists one after another, flattened. Assumes nothing.
use Prim.Native.Nat.{ℕ, suc, ◌+◌, ◌-◌, ◌≤◌, ◌<◌}
use mathlib.Core.Path.{◌≡◌, refl, sym, ap, ◌∙◌}
use mathlib.Core.List.{List, [], ◌∷◌, ◌++◌, append_assoc, flatten}
use native.Mathlib.Omega.{arith}
use lib.ListN.{length, take, drop, get_or, length-drop, take-append-drop}
use lib.Seq.{drop-append-le, take-append-le, take_all, drop-cons, drop_at, length-take-le, take-add}

module _ {A : Type 0} (l x : List A) (a w : ℕ) where
  pub part_old : a + w ≤ length l → take w (drop a (l ++ x)) ≡ take w (drop a l)
  part_old h =
      let e : a ≤ length l = omega arith in
      let f : w ≤ length (drop a l) = rw length-drop (omega arith) in
      rw (drop-append-le a l x e, take-append-le w (drop a l) x f)

  pub part_new : length l ≡ a → length x ≡ w → take w (drop a (l ++ x)) ≡ x
  part_new h k = rw (drop_at l x a h) (take_all w x (omega arith))

pub part_front : {A : Type 0} (l : List A) (a w b : ℕ) → a + w ≤ b → b ≤ length l → take w (drop a (take b l)) ≡ take w (drop a l)
part_front {A} l a w b h k =
    let n : length (take b l) ≡ b = length-take-le b l k in
    sym (part_old (take b l) (drop b l) a w (omega arith)) ∙ ap (λ (y : List A). take w (drop a y)) (take-append-drop b l)

-- ---- the part from one place up to another

abbrev pub part : {A : Type 0} → List A → ℕ → ℕ → List A
part l i to = take (to - i) (drop i l)

pub length_part : {A : Type 0} (l : List A) (i to : ℕ) → i ≤ to → to ≤ length l → length (part l i to) ≡ to - i
length_part l i to h k = length-take-le (to - i) (drop i l) (rw length-drop (omega arith))

pub part_more : {A : Type 0} (l : List A) (d : A) (j to : ℕ) → j < to → to ≤ length l → part l j to ≡ get_or l j d ∷ part l (suc j) to
part_more l d j to h k =
    let m : to - j ≡ suc (to - suc j) = omega arith in
    rw (m, drop-cons l j d (omega arith))

pub drop_take : {A : Type 0} (l : List A) (a c : ℕ) → a ≤ c → c ≤ length l → drop a (take c l) ≡ part l a c
drop_take l a c h k =
    let m : c ≡ a + (c - a) = omega arith in
    ap (λ (j : ℕ). drop a (take j l)) m
    ∙ rw (take-add a (c - a) l) (drop_at (take a l) (take (c - a) (drop a l)) a (length-take-le a l (omega arith)))

-- ---- lists one after another

pub flatten_append : {A : Type 0} (a b : List (List A)) → flatten (a ++ b) ≡ flatten a ++ flatten b
unfolding flatten
flatten_append [] b = refl
flatten_append (x ∷ a) b = rw (flatten_append a b, append_assoc)
