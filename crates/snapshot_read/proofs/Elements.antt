-- What is done at each index: an array that `from_fn` makes, a test of all of a range, and where an element ends. Assumes nothing.
use Prim.Native.Nat.{ℕ, zero, suc, ◌+◌, ◌*◌, ◌≤◌, ◌<◌}
use mathlib.Core.Path.{◌≡◌, sym, ◌∙◌, subst}
use mathlib.Core.Bool.{Bool, true, false}
use mathlib.Core.List.{List}
use native.Mathlib.Nat.{mul-le-mul_left}
use native.Mathlib.Omega.{arith}
use denote.Param.Members.{Mut, Called}
use lib.ListN.{length, get_or}
use lib.Seq.{ext_get_or}
use Rattle.std.specs.Array.{IsFromFnResultFrom, IsFromFnResult}
use Rattle.std.specs.Bool.{MatchBool}
use Rattle.std.specs.Iterator.{YieldsThen}
use Rattle.std.specs.List.{range_with_len, FoldsTo, AllWithin, HoldsAt}
use Rattle.std.specs.Option.{MatchOption}
use Rattle.std.specs.declared.option.Option.{Option}
use Rattle.std.specs.declared.ops.Range.{Range}
use Rattle.std.proofs.iter.Yields.{nat_range_steps}
use Rattle.std.proofs.lemmas.Iterator.{cases_from_all, YieldsList-from_range}
use Rattle.std.proofs.lemmas.List.FromFn.{length-range_with_len, get_or-range_with_len}
use Rattle.lists.specs.Scan.{all, tabulate}
use Rattle.lists.proofs.Keeps.{all_intro}
use Rattle.lists.proofs.Scans.{all_fail, length_tabulate, tabulate_at}

-- element i of n elements of w bytes ends within them
pub element_ends : (at w n i k : ℕ) → i < n → at + w * n ≤ k → at + w * i + w ≤ k
element_ends at w n i k h l =
    let m : suc i ≤ n = omega arith in
    omega (arith, mul-le-mul_left w m)

-- an array of what a closure gave at each index, which leaves the closure as it was
module _ {F B : Type 0} (g : Mut F (ℕ × Unit {0}) B) (v : ℕ → B) (f : F)
    (h : (i : ℕ) (y : B) (q : F) → Called g f (i, tt) y q → (y ≡ v i) × (q ≡ f)) where
  made_at : (ys : List B) (d : B) (i n : ℕ) → IsFromFnResultFrom g f ys i n → (k : ℕ) → k < n → get_or ys (i + k) d ≡ v (i + k)
  made_at ys d i zero e k l = absurd (omega arith)
  made_at ys d i (suc n) e zero l = let z : i ≡ i + 0 = omega arith in subst (λ m. get_or ys m d ≡ v m) z (e.2.1 d ∙ (h i e.1 e.0 e.3).0)
  made_at ys d i (suc n) e (suc k) l =
      let z : i + 1 + k ≡ i + suc k = omega arith in
      let r = subst (λ x. IsFromFnResultFrom g x ys (i + 1) n) (h i e.1 e.0 e.3).1 e.4 in
      subst (λ m. get_or ys m d ≡ v m) z (made_at ys d (i + 1) n r k (omega arith))

  pub made : (ys : List B) (n : ℕ) → IsFromFnResult g f ys n → ys ≡ tabulate v n
  made ys n e =
      let d = v 0 in
      ext_get_or d ys (tabulate v n) (e.long ∙ sym (length_tabulate v n d n))
      (λ k l. let b : k < n = omega (arith, e.long) in zero_plus k (made_at ys d 0 n e.each k b) ∙ sym (tabulate_at v n d n k d b))
    where
      zero_plus : (k : ℕ) → get_or ys (0 + k) (v 0) ≡ v (0 + k) → get_or ys k (v 0) ≡ v k
      zero_plus k p = let z : 0 + k ≡ k = omega arith in subst (λ m. get_or ys m (v 0) ≡ v m) z p

listed : (n k : ℕ) → k < n → get_or (range_with_len 0 n) k 0 ≡ k
listed n k l = let z : 0 + k ≡ k = omega arith in get_or-range_with_len 0 n k 0 l ∙ z

-- `all` over the indices below n, where the closure is a test and is left as it was
module _ (test : ℕ → Bool) (n : ℕ) where
  answer : (r : Bool) → MatchBool r (AllWithin (λ x. test x ≡ true) (range_with_len 0 n) 0 (length (range_with_len 0 n)))
      ((k : ℕ) × (k < length (range_with_len 0 n)) × HoldsAt (λ x. test x ≡ false) (range_with_len 0 n) k) → r ≡ all test n
  answer true m =
      sym (all_intro test n (λ i l.
      subst (λ x. test x ≡ true) (listed n i l) (m i 0 (omega arith) (omega (arith, length-range_with_len 0 n)))))
  answer false m =
      let l : m.0 < n = omega (arith, m.1, length-range_with_len 0 n) in
      sym (all_fail test n m.0 l (subst (λ x. test x ≡ false) (listed n m.0 l) (m.2 0)))

  pub all_below : {F : Type 0} {g : Mut F (ℕ × Unit {0}) Bool} (s u : Range ℕ) (f : F) (r : Bool) → (xs : List ℕ) × (o : Option ℕ) × (j : F) × YieldsThen nat_range_steps s xs o u
      × FoldsTo (λ p x q. Called g p (x, tt) true q) f xs j
      × MatchOption o (r ≡ true) (λ x. (r ≡ false) × ((h : F) × Called g j (x, tt) false h))
      → s ≡ record { start = 0; end = n } → ((x : ℕ) (b : Bool) (q : F) → Called g f (x, tt) b q → (q ≡ f) × (b ≡ test x)) → r ≡ all test n
  all_below s u f r ran e h =
      answer r
      (cases_from_all u f r (λ x. test x ≡ true) (λ x. test x ≡ false) ran (YieldsList-from_range 0 n n e (omega arith))
      (λ x q k. let p = h x true q k in (p.0, sym p.1))
      (λ x q k. sym (h x false q k).1))
