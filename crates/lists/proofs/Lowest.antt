-- The value of f at the least index below n where it is not 0, or 0: what a loop finds; where it is 0, so is f at each index; where f is 0 at each
-- index but the last, it is that of the last; a g that is f at each index has the same one; and so has a g that differs from f only where f is v,
-- unless that is v. Assumes nothing.
use mathlib.Core.Path.{◌≡◌, refl, sym, ap, ◌∙◌}
use mathlib.Core.Logic.{◌≢◌}
use mathlib.Core.Bool.{Bool, false, not, cond, true≢false}
use Prim.Native.Nat.{ℕ, zero, suc, ◌+◌, ◌≤◌, ◌<◌}
use native.Mathlib.Nat.{le_refl}
use native.Mathlib.Omega.{arith}
use borrow.Author.Tests.{ltb-true, ltb-false, eqb-true, ne_eqb, lt-ltb, le-ltb, not-false}
use lib.Dec.{ltb, eqb}
use Rattle.lists.specs.Scan.{least}
use Rattle.lists.proofs.Cases.{by_bool, by_eq, cond_elim}
use Rattle.lists.proofs.Scans.{least_found}
use Rattle.lists.proofs.Count.{least_at, least_before}

-- a test that agrees with p up to the least index that passes p has the same least index
least_agree : (p q : ℕ → Bool) (n : ℕ) → ((i : ℕ) → i ≤ least p n → i < n → q i ≡ p i) → least q n ≡ least p n
unfolding least
least_agree p q zero h = refl
least_agree p q (suc n) h =
    by_bool (ltb (least p n) n)
    (λ e. let a : least q n ≡ least p n = least_agree p q n (λ i l m. h i (rw e l) (omega arith)) in rw (a, e))
    (λ e.
    let most : n ≤ cond (p n) n (suc n) = cond_elim (λ (x : ℕ). n ≤ x) (p n) n (suc n) (le_refl n) (omega arith) in
    let a : least q n ≡ least p n = least_agree p q n (λ i l m. h i (rw e (omega arith)) (omega arith)) in
    let b : q n ≡ p n = h n (rw e most) (omega arith) in
    rw (a, e, b))

module _ (f : ℕ → ℕ) where
  -- f is not 0 there
  abbrev pub marked : ℕ → Bool
  marked i = not (eqb (f i) 0)

  abbrev pub lowest : ℕ → ℕ
  lowest n = cond (ltb (least marked n) n) (f (least marked n)) 0

  pub lowest_first : (n i : ℕ) → i < n → least marked i ≡ i → f i ≢ 0 → f i ≡ lowest n
  lowest_first n i h e d =
      let q : least marked n ≡ i = least_found marked n i h e (ap not (ne_eqb (f i) 0 d)) in
      rw (q, lt-ltb i n h)

  pub lowest_zero_lem : (n : ℕ) → least marked n ≡ n → 0 ≡ lowest n
  lowest_zero_lem n e = rw (e, le-ltb n n (le_refl n))

  pub lowest_none : (n : ℕ) → lowest n ≡ 0 → (i : ℕ) → i < n → f i ≡ 0
  lowest_none n e i h =
      let k = least marked n in
      by_bool (ltb k n)
      (λ b.
      let z : f k ≡ 0 = rw b at e in
      let g : marked k ≡ false = rw z in
      absurd (true≢false (sym (least_at marked n (ltb-true k n b)) ∙ g)))
      (λ b.
      let l : n ≤ k = ltb-false k n b in
      let g : marked i ≡ false = least_before marked n i (omega arith) in
      eqb-true (f i) 0 (not-false _ g))

  -- f is 0 at each index below n
  least_end : (n : ℕ) → ((i : ℕ) → i < n → f i ≡ 0) → least marked n ≡ n
  unfolding least
  least_end zero h = refl
  least_end (suc n) h = rw (least_end n (λ i l. h i (omega arith)), le-ltb n n (le_refl n), h n (omega arith))

  pub lowest_last : (n : ℕ) → ((i : ℕ) → i < n → f i ≡ 0) → lowest (n + 1) ≡ f n
  lowest_last n h =
      by_eq (f n) 0
      (λ z. sym (lowest_zero_lem (n + 1) (least_end (n + 1) (λ i l. by_eq i n (λ q. rw q z) (λ q. h i (omega arith))))) ∙ sym z)
      (λ z. sym (lowest_first (n + 1) n (omega arith) (least_end n h) z))

  pub lowest_all : (n : ℕ) → ((i : ℕ) → i < n → f i ≡ 0) → lowest n ≡ 0
  lowest_all n h = sym (lowest_zero_lem n (least_end n h))

-- a g that agrees with f up to the least index
lowest_upto : (f g : ℕ → ℕ) (n : ℕ) → ((i : ℕ) → i ≤ least (marked f) n → i < n → g i ≡ f i) → lowest g n ≡ lowest f n
lowest_upto f g n h =
    let k = least (marked f) n in
    let same : least (marked g) n ≡ k = least_agree (marked f) (marked g) n (λ i l m. ap (λ (x : ℕ). not (eqb x 0)) (h i l m)) in
    by_bool (ltb k n)
    (λ b. rw (same, b) (h k (le_refl k) (ltb-true k n b)))
    (λ b. rw (same, b))

pub lowest_same : (f g : ℕ → ℕ) (n : ℕ) → ((i : ℕ) → i < n → g i ≡ f i) → lowest g n ≡ lowest f n
lowest_same f g n h = lowest_upto f g n (λ i l m. h i m)

pub lowest_agree : (f g : ℕ → ℕ) (v n : ℕ) → v ≢ 0 → ((i : ℕ) → f i ≢ v → g i ≡ f i) → lowest f n ≢ v → lowest g n ≡ lowest f n
lowest_agree f g v n z h d =
    let k = least (marked f) n in
    let other : (i : ℕ) → i ≤ k → i < n → f i ≢ v = λ i l m e.
    by_eq i k
    (λ s. d (rw (lt-ltb k n (rw (← s) m), ← s) e))
    (λ s. z (sym e ∙ eqb-true (f i) 0 (not-false _ (least_before (marked f) n i (omega arith))))) in
    lowest_upto f g n (λ i l m. h i (other i l m))
