-- A list of which one element is taken off and one is added after the last that counts, in place: the laws of the loop that does it.
-- Assumes nothing.
use Prim.Native.Nat.{ℕ, zero, suc, ◌+◌, ◌-◌, ◌≤◌, ◌<◌}
use mathlib.Core.Path.{◌≡◌, refl, sym, ap, ◌∙◌}
use mathlib.Core.List.{List, [], ◌∷◌, ◌++◌}
use native.Mathlib.Numerals.{add-one}
use native.Mathlib.Omega.{arith}
use lib.ListN.{length, get_or, take, drop, set, replicate, length-take, length-append, length-drop, take-append-drop}
use lib.Seq.{take-suc, drop-cons, length-take-le, get_or-append-add, get_or-drop, take_at, set_at, set_split, set-get_or, append_snoc, take-append-le}
use Rattle.lists.proofs.Count.{same_all}
use Rattle.lists.specs.Scan.{without}

-- What is past a place holds nothing but d.
module _ {A : Type 0} (d : A) where
  get_d_snoc : (l : List A) (i : ℕ) → get_or (l ++ (d ∷ [])) i d ≡ get_or l i d
  get_d_snoc [] zero = refl
  get_d_snoc [] (suc i) = refl
  get_d_snoc (x ∷ l) zero = refl
  get_d_snoc (x ∷ l) (suc i) = get_d_snoc l i

  drop_same : (l : List A) (i : ℕ) → ((n : ℕ) → i ≤ n → get_or l n d ≡ d) → drop i l ≡ replicate (length l - i) d
  drop_same l i h =
      same_all d (drop i l) (λ n g. get_or-drop i l n d ∙ h (i + n) (omega arith)) ∙ ap (λ (x : ℕ). replicate x d) (length-drop i l)

-- A loop that moves each element after the k-th down by one place, up to the place i: ms is the list so far.
module _ {A : Type 0} (d : A) (k : ℕ) (l : List A) where
  length_without : k < length l → length (without k l) + 1 ≡ length l
  unfolding without
  length_without h = simp (length-append, length-take, length-drop) (omega arith)

  get_d_without : k ≤ length l → (i : ℕ) → k ≤ i → get_or (without k l) i d ≡ get_or l (i + 1) d
  unfolding without
  get_d_without h i b =
      let a : length (take k l) ≡ k = length-take-le k l (omega arith) in
      let e : i ≡ length (take k l) + (i - k) = omega arith in
      let s : suc k + (i - k) ≡ i + 1 = omega arith in
      ap (λ (m : ℕ). get_or (take k l ++ drop (suc k) l) m d) e
      ∙ get_or-append-add (take k l) (drop (suc k) l) (i - k) d
      ∙ get_or-drop (suc k) l (i - k) d
      ∙ ap (λ (m : ℕ). get_or l m d) s

  abbrev pub Shifted : ℕ → List A → Type 0
  Shifted i ms = ms ≡ take i (without k l) ++ drop i l

  pub shift_none : k ≤ length l → Shifted k l
  unfolding without
  shift_none h =
      let a : length (take k l) ≡ k = length-take-le k l h in
      rw (take_at (take k l) (drop (suc k) l) k a, take-append-drop)

  pub shift_more : (i : ℕ) (ms : List A) → Shifted i ms → k ≤ i → i + 1 < length l → Shifted (i + 1) (set ms i (get_or ms (i + 1) d))
  shift_more i ms e b c =
      let n = length_without (omega arith) in
      let a : length (take i (without k l)) ≡ i = length-take-le i (without k l) (omega arith) in
      let v : get_or ms (i + 1) d ≡ get_or l (i + 1) d =
      ap (λ (m : List A). get_or m (i + 1) d) e
      ∙ ap (λ (m : ℕ). get_or (take i (without k l) ++ drop i l) (m + 1) d) (sym a)
      ∙ get_or-append-add (take i (without k l)) (drop i l) 1 d
      ∙ get_or-drop i l 1 d in
      ap (λ (m : List A). set m i (get_or ms (i + 1) d)) (e ∙ ap (λ (r : List A). take i (without k l) ++ r) (drop-cons l i d (omega arith)))
      ∙ set_at (take i (without k l)) (get_or l i d) (drop (suc i) l) (get_or ms (i + 1) d) i a
      ∙ ap (λ (x : A). take i (without k l) ++ x ∷ drop (suc i) l) (v ∙ sym (get_d_without (omega arith) i b))
      ∙ sym (append_snoc (take i (without k l)) (get_or (without k l) i d) (drop (suc i) l))
      ∙ ap (λ (r : List A). r ++ drop (suc i) l) (sym (take-suc (without k l) i d (omega arith)))
      ∙ ap (λ (m : ℕ). take m (without k l) ++ drop m l) (sym (add-one i))

  -- where l holds nothing but d past i, and the element i is written: the list without its element k, with d at its end
  pub shift_last : (i : ℕ) (ms : List A) (y : A) → Shifted i ms → k ≤ i → i < length l → ((n : ℕ) → i < n → get_or l n d ≡ d)
      → set ms i y ≡ set (without k l ++ (d ∷ [])) i y
  shift_last i ms y e b c p =
      let w = without k l in
      let n = length_without (omega arith) in
      let m : length (w ++ (d ∷ [])) ≡ length l = length-append w (d ∷ []) ∙ n in
      let a : length (take i w) ≡ i = length-take-le i w (omega arith) in
      let tail : drop (suc i) l ≡ drop (suc i) (w ++ (d ∷ [])) =
      drop_same d l (suc i) (λ j h. p j h)
      ∙ ap (λ (x : ℕ). replicate (x - suc i) d) (sym m)
      ∙ sym (drop_same d (w ++ (d ∷ [])) (suc i) (λ j h. get_d_snoc d w j ∙ get_d_without (omega arith) j (omega arith) ∙ p (j + 1) (omega arith))) in
      ap (λ (x : List A). set x i y) (e ∙ ap (λ (r : List A). take i w ++ r) (drop-cons l i d c))
      ∙ set_at (take i w) (get_or l i d) (drop (suc i) l) y i a
      ∙ ap (λ (r : List A). take i w ++ y ∷ r) tail
      ∙ ap (λ (r : List A). r ++ y ∷ drop (suc i) (w ++ (d ∷ []))) (sym (take-append-le i w (d ∷ []) (omega arith)))
      ∙ sym (set_split (w ++ (d ∷ [])) i y (omega arith))

  -- so with d written there, it is that list
  pub shift_off : (i : ℕ) (ms : List A) → Shifted i ms → k ≤ i → i < length l → ((n : ℕ) → i < n → get_or l n d ≡ d)
      → set ms i d ≡ without k l ++ (d ∷ [])
  shift_off i ms e b c p =
      let w = without k l ++ (d ∷ []) in
      let z : get_or w i d ≡ d = get_d_snoc d (without k l) i ∙ get_d_without (omega arith) i b ∙ p (i + 1) (omega arith) in
      shift_last i ms d e b c p ∙ ap (λ (y : A). set w i y) (sym z) ∙ set-get_or w i d
