-- The laws that a loop over indices uses, of `all`, `least`, `filter`, `pad_to`, `up_to`, `tabulate` and `count_to`.
-- Assumes nothing.
use Prim.Native.Nat.{ℕ, zero, suc, ◌+◌, ◌-◌, ◌≤◌, ◌<◌}
use mathlib.Core.Path.{◌≡◌, refl, sym, ap, ◌∙◌, subst}
use mathlib.Core.Logic.{⊎_elim}
use mathlib.Core.Bool.{Bool, true, false, cond, ◌&&◌, true≢false}
use mathlib.Core.List.{List, [], ◌∷◌, ◌++◌, map, append-nil, append_assoc}
use native.Mathlib.Nat.{le_of_suc-le-suc, not-suc-le-zero, eq-or-lt_of_le, le_refl, le_antisymm, sub-zero}
use native.Mathlib.Numerals.{add-one}
use native.Mathlib.Omega.{arith}
use borrow.Author.Tests.{lt-ltb, le-ltb}
use lib.Dec.{ltb}
use lib.ListN.{length, get_or, take, set, replicate, length-append, length-replicate}
use lib.ListN.{get_or-append, get_or-map, get_or-replicate, length-map}
use lib.Seq.{take-suc, set-append_seam, get_or-append-add, get_or_at}
use lib.Seq.{ext_get_or}
use Rattle.lists.proofs.Cases.{by_eq}
use Rattle.lists.specs.Scan.{all, least, filter, pad_to, up_to, tabulate, count_to}

module _ (p : ℕ → Bool) where
  pub all_none : all p 0 ≡ true
  unfolding all
  all_none = refl

  pub all_more : (i : ℕ) → all p i ≡ true → p i ≡ true → all p (i + 1) ≡ true
  unfolding all
  all_more i e h = rw (add-one, e, h)

  -- a turn of a loop that goes to the end: the test so far, and that of this index
  pub all_next : (i : ℕ) (a b : Bool) → a ≡ all p i → b ≡ p i → (a && b) ≡ all p (i + 1)
  unfolding all
  all_next i a b e h = rw (add-one i, ← e, ← h) (go a)
    where
      go : (a : Bool) → (a && b) ≡ cond a b false
      go true = refl
      go false = refl

  pub all_fail : (n i : ℕ) → i < n → p i ≡ false → all p n ≡ false
  unfolding all
  all_fail zero i l h = absurd (not-suc-le-zero l)
  all_fail (suc n) i l h =
      ⊎_elim (λ e. cond_both (all p n) (p n) (ap p (sym e) ∙ h))
      (λ lt. ap (λ (b : Bool). cond b (p n) false) (all_fail n i lt h))
      (eq-or-lt_of_le (le_of_suc-le-suc l))
    where
      cond_both : (a b : Bool) → b ≡ false → cond a b false ≡ false
      cond_both true b e = e
      cond_both false b e = refl

  pub all_at : (n i : ℕ) → all p n ≡ true → i < n → p i ≡ true
  all_at n i e l = held (p i) (λ h. true≢false (sym e ∙ all_fail n i l h))
    where
      held : (b : Bool) → (b ≡ false → ⊥) → b ≡ true
      held true h = refl
      held false h = absurd (h refl)

  pub least_none : least p 0 ≡ 0
  unfolding least
  least_none = refl

  pub least_more : (i : ℕ) → least p i ≡ i → p i ≡ false → least p (i + 1) ≡ i + 1
  unfolding least
  least_more i e h = rw (add-one, e, le-ltb i i (le_refl i), h)

  pub least_found : (n i : ℕ) → i < n → least p i ≡ i → p i ≡ true → least p n ≡ i
  unfolding least
  least_found zero i l e h = absurd (not-suc-le-zero l)
  least_found (suc n) i l e h =
      ⊎_elim (λ q. subst (λ (k : ℕ). cond (ltb (least p k) k) (least p k) (cond (p k) k (suc k)) ≡ i) q (rw (e, le-ltb i i (le_refl i), h)))
      (λ lt. rw (least_found n i lt e h, lt-ltb i n lt))
      (eq-or-lt_of_le (le_of_suc-le-suc l))

  -- what a loop's last line returns
  pub all_end : (n i : ℕ) → n ≤ i → i ≤ n → all p i ≡ true → true ≡ all p n
  all_end n i a b e = sym (subst (λ (k : ℕ). all p k ≡ true) (le_antisymm b a) e)

  -- the same of a loop that goes to the end and keeps the test so far
  pub all_kept : (n i : ℕ) (b : Bool) → n ≤ i → i ≤ n → b ≡ all p i → b ≡ all p n
  all_kept n i b l h e = e ∙ ap (all p) (le_antisymm h l)

  pub least_end : (n i : ℕ) → n ≤ i → i ≤ n → least p i ≡ i → i ≡ least p n
  least_end n i a b e = sym e ∙ ap (least p) (le_antisymm b a)

module _ {A : Type 0} (p : A → Bool) where
  pub filter_append : (a b : List A) → filter p (a ++ b) ≡ filter p a ++ filter p b
  unfolding filter
  filter_append [] b = refl
  filter_append (x ∷ a) b = rw (filter_append a b) (go (p x) (filter p a) (filter p b))
    where
      go : (c : Bool) (u v : List A) → cond c (x ∷ (u ++ v)) (u ++ v) ≡ cond c (x ∷ u) u ++ v
      go true u v = refl
      go false u v = refl

module _ {A : Type 0} (p : A → Bool) (l : List A) (i : ℕ) (d : A) (h : i < length l) where
  pub filter_yes : p (get_or l i d) ≡ true → filter p (take (i + 1) l) ≡ filter p (take i l) ++ (get_or l i d ∷ [])
  unfolding filter
  filter_yes e = rw (add-one, take-suc l i d h, filter_append, e)

  pub filter_no : p (get_or l i d) ≡ false → filter p (take (i + 1) l) ≡ filter p (take i l)
  unfolding filter
  filter_no e = rw (add-one, take-suc l i d h, filter_append, e) (append-nil (filter p (take i l)))

module _ {A : Type 0} (p : A → Bool) where
  pub length_filter : (l : List A) → length (filter p l) ≤ length l
  unfolding filter
  length_filter [] = le_refl 0
  length_filter (x ∷ l) = go (p x) (filter p l) (length_filter l)
    where
      go : (c : Bool) (u : List A) → length u ≤ length l → length (cond c (x ∷ u) u) ≤ suc (length l)
      go true u h = omega arith
      go false u h = omega arith

module _ {A : Type 0} (n : ℕ) (d : A) where
  pub pad_none : pad_to n d [] ≡ replicate n d
  unfolding pad_to
  pad_none = rw sub-zero

  pub pad_more : (xs : List A) (a : A) → length xs < n → set (pad_to n d xs) (length xs) a ≡ pad_to n d (xs ++ (a ∷ []))
  unfolding pad_to
  pad_more xs a h =
      let e : n - length xs ≡ suc (n - (length xs + 1)) = omega arith in
      rw (e, length-append, set-append_seam, append_assoc)

  pub length_pad : (xs : List A) → length xs ≤ n → length (pad_to n d xs) ≡ n
  unfolding pad_to
  length_pad xs h = simp (length-append, length-replicate) (omega arith)

-- A loop that goes through ms and lays the elements of which p holds into out, from the first of its n slots: i are passed, w are laid.
pub record Kept {A : Type 0} (p : A → Bool) (ms : List A) (n : ℕ) (d : A) (i w : ℕ) (out : List A) : Type 0 where
  pub count : w ≡ length (filter p (take i ms))
  pub slots : out ≡ pad_to n d (filter p (take i ms))
  pub within : w ≤ i

module _ {A : Type 0} (p : A → Bool) (ms : List A) (n : ℕ) (d : A) where
  pub kept_none : Kept p ms n d 0 0 (replicate n d)
  unfolding filter
  kept_none = record { count = refl; slots = sym (pad_none n d); within = le_refl 0 }

  pub kept_yes : (i w : ℕ) (out : List A) → Kept p ms n d i w out → i < length ms → w < n → p (get_or ms i d) ≡ true
      → Kept p ms n d (i + 1) (w + 1) (set out w (get_or ms i d))
  kept_yes i w out k h l e =
      let c = k.count in
      let x : length (filter p (take i ms)) < n = omega arith in
      record {
        count = rw (filter_yes p ms i d h e, length-append) (omega arith);
        slots = rw (filter_yes p ms i d h e, ← pad_more n d (filter p (take i ms)) (get_or ms i d) x, k.slots, c);
        within = omega arith;
      }

  pub kept_no : (i w : ℕ) (out : List A) → Kept p ms n d i w out → i < length ms → p (get_or ms i d) ≡ false → Kept p ms n d (i + 1) w out
  kept_no i w out k h e =
      let v = k.within in
      record { count = rw (filter_no p ms i d h e) k.count; slots = rw (filter_no p ms i d h e) k.slots; within = omega arith }

-- A loop that does f at each index.
module _ {A : Type 0} (f : ℕ → A → A) (x : A) where
  pub up_none : x ≡ up_to f 0 x
  unfolding up_to
  up_none = refl

  pub up_more : (i : ℕ) (u : A) → u ≡ up_to f i x → f i u ≡ up_to f (i + 1) x
  unfolding up_to
  up_more i u e = rw (add-one, e)

  pub up_end : (n i : ℕ) (u : A) → n ≤ i → i ≤ n → u ≡ up_to f i x → u ≡ up_to f n x
  up_end n i u a b e = e ∙ ap (λ (k : ℕ). up_to f k x) (le_antisymm b a)

pub tabulate_next : {A : Type 0} (f : ℕ → A) (i : ℕ) → tabulate f (i + 1) ≡ tabulate f i ++ (f i ∷ [])
unfolding tabulate
tabulate_next f i = rw (add-one i)

-- A loop that fills the first of n slots with f 0, f 1, ..
module _ {A : Type 0} (f : ℕ → A) (n : ℕ) (d : A) where
  pub length_tabulate : (i : ℕ) → length (tabulate f i) ≡ i
  unfolding tabulate
  length_tabulate zero = refl
  length_tabulate (suc i) = length-append (tabulate f i) (f i ∷ []) ∙ ap (λ (k : ℕ). k + 1) (length_tabulate i) ∙ add-one i

  pub tabulate_none : replicate n d ≡ pad_to n d (tabulate f 0)
  unfolding tabulate
  tabulate_none = sym (pad_none n d)

  pub tabulate_more : (i : ℕ) (out : List A) → i < n → out ≡ pad_to n d (tabulate f i) → set out i (f i) ≡ pad_to n d (tabulate f (i + 1))
  unfolding tabulate
  tabulate_more i out h e =
      let s = length_tabulate i in
      ap (λ (r : List A). set r i (f i)) e
      ∙ ap (λ (k : ℕ). set (pad_to n d (tabulate f i)) k (f i)) (sym s)
      ∙ pad_more n d (tabulate f i) (f i) (omega arith)
      ∙ ap (λ (k : ℕ). pad_to n d (tabulate f k)) (sym (add-one i))

  pub tabulate_end : (m i : ℕ) (out : List A) → m ≤ i → i ≤ m → out ≡ pad_to n d (tabulate f i) → out ≡ pad_to n d (tabulate f m)
  tabulate_end m i out a b e = e ∙ ap (λ (k : ℕ). pad_to n d (tabulate f k)) (le_antisymm b a)

  -- what stands at an index
  pub tabulate_at : (m i : ℕ) (b : A) → i < m → get_or (tabulate f m) i b ≡ f i
  unfolding tabulate
  tabulate_at zero i b h = absurd (not-suc-le-zero h)
  tabulate_at (suc m) i b h =
      let l = length_tabulate m in
      by_eq i m
      (λ e. get_or_at (tabulate f m) (f m) [] b i (omega arith) ∙ ap f (sym e))
      (λ e. get_or-append (tabulate f m) (f m ∷ []) b i (omega arith) ∙ tabulate_at m i b (omega arith))

  pub pad_at : (m i : ℕ) (b : A) → i < m → get_or (pad_to n d (tabulate f m)) i b ≡ f i
  unfolding pad_to
  pad_at m i b h = let l = length_tabulate m in get_or-append (tabulate f m) _ b i (omega arith) ∙ tabulate_at m i b h

  pub pad_past : (m i : ℕ) (b : A) → m ≤ i → i < n → get_or (pad_to n d (tabulate f m)) i b ≡ d
  unfolding pad_to
  pad_past m i b h k =
      let l = length_tabulate m in
      let e : i ≡ length (tabulate f m) + (i - m) = omega arith in
      ap (λ (j : ℕ). get_or (tabulate f m ++ replicate (n - length (tabulate f m)) d) j b) e
      ∙ get_or-append-add (tabulate f m) (replicate (n - length (tabulate f m)) d) (i - m) b
      ∙ get_or-replicate (n - length (tabulate f m)) (i - m) d b (omega arith)

-- A loop that fills the first of n slots with f of each element of l.
pub tabulate_map : {A B : Type 0} (f : B → A) (l : List B) (d : B) → tabulate (λ i. f (get_or l i d)) (length l) ≡ map f l
tabulate_map {A} f l d =
    let g : ℕ → A = λ i. f (get_or l i d) in
    let n = length_tabulate g 0 (f d) (length l) in
    ext_get_or (f d) (tabulate g (length l)) (map f l) (n ∙ sym (length-map l f))
    (λ i h. tabulate_at g 0 (f d) (length l) i (f d) (omega arith) ∙ sym (get_or-map f l i d))

-- The slots past the last hold what is read where there is no slot.
module _ {A : Type 0} (d : A) where
  replicate_at : (m i : ℕ) → get_or (replicate m d) i d ≡ d
  replicate_at zero i = refl
  replicate_at (suc m) zero = refl
  replicate_at (suc m) (suc i) = replicate_at m i

  append_at : (m : ℕ) (xs : List A) (i : ℕ) → get_or (xs ++ replicate m d) i d ≡ get_or xs i d
  append_at m [] i = replicate_at m i
  append_at m (x ∷ xs) zero = refl
  append_at m (x ∷ xs) (suc i) = append_at m xs i

  pub pad_default : (n : ℕ) (xs : List A) (i : ℕ) → get_or (pad_to n d xs) i d ≡ get_or xs i d
  unfolding pad_to
  pad_default n xs = append_at (n - length xs) xs

-- A loop that counts the indices that pass p.
module _ (p : ℕ → Bool) where
  pub count_none : 0 ≡ count_to p 0
  unfolding count_to
  count_none = refl

  pub count_yes : (i n : ℕ) → n ≡ count_to p i → p i ≡ true → n + 1 ≡ count_to p (i + 1)
  unfolding count_to
  count_yes i n e h = add-one n ∙ rw (add-one i, h) (ap suc e)

  pub count_no : (i n : ℕ) → n ≡ count_to p i → p i ≡ false → n ≡ count_to p (i + 1)
  unfolding count_to
  count_no i n e h = rw (add-one i, h) e

  pub count_end : (n i x : ℕ) → n ≤ i → i ≤ n → x ≡ count_to p i → x ≡ count_to p n
  count_end n i x a b e = e ∙ ap (count_to p) (le_antisymm b a)

  pub count_most : (n : ℕ) → count_to p n ≤ n
  unfolding count_to
  count_most zero = le_refl 0
  count_most (suc n) = go (p n) (count_to p n) (count_most n)
    where
      go : (b : Bool) (x : ℕ) → x ≤ n → cond b (suc x) x ≤ suc n
      go true x h = omega arith
      go false x h = omega arith
