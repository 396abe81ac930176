-- What `same_bytes` says of the first bytes of two lists, and of a list and itself. Assumes nothing.
use mathlib.Core.Path.{◌≡◌, refl, sym, ap, ◌∙◌}
use mathlib.Core.Bool.{true, false, ◌&&◌, and_assoc}
use mathlib.Core.List.{List, [], ◌∷◌, ◌++◌}
use Prim.Native.Nat.{ℕ, suc, ◌≤◌}
use native.Mathlib.Omega.{arith}
use borrow.Author.Tests.{eq-eqb, ne_eqb}
use lib.Dec.{eqb}
use lib.ListN.{length, take, get_or}
use lib.Seq.{take-suc, take-length, length-take-le}
use Rattle.lists.proofs.Cases.{and_false, and_true}
use Rattle.book.specs.Book.{same_bytes}

pub differ_in_length : (a b : List ℕ) → (length a ≡ length b → ⊥) → same_bytes a b ≡ false
unfolding same_bytes
differ_in_length [] [] h = absurd (h refl)
differ_in_length [] (y ∷ ys) h = refl
differ_in_length (x ∷ xs) [] h = refl
differ_in_length (x ∷ xs) (y ∷ ys) h = rw (differ_in_length xs ys (λ e. h (ap suc e))) (and_false (eqb x y))

-- all bytes are the first of them, and none is the same as none
pub all_bytes : (a b : List ℕ) → length a ≡ length b → same_bytes a b ≡ same_bytes (take (length a) a) (take (length a) b)
all_bytes a b e = rw (take-length a, e, take-length b)

pub no_bytes : (a b : List ℕ) (i : ℕ) → i ≤ 0 → same_bytes (take i a) (take i b) ≡ true
unfolding same_bytes
no_bytes a b i h = let z : i ≡ 0 = omega arith in rw z

same_last : (xs ys : List ℕ) (x y : ℕ) → length xs ≡ length ys → same_bytes (xs ++ (x ∷ [])) (ys ++ (y ∷ [])) ≡ same_bytes xs ys && eqb x y
unfolding same_bytes
same_last [] [] x y e = and_true (eqb x y)
same_last [] (b ∷ ys) x y e = absurd (omega arith)
same_last (a ∷ xs) [] x y e = absurd (omega arith)
same_last (a ∷ xs) (b ∷ ys) x y e = rw (same_last xs ys x y (omega arith)) (sym (and_assoc (eqb a b) (same_bytes xs ys) (eqb x y)))

-- of two lists of one length, the first i bytes by the first j, one fewer
module _ (a b : List ℕ) (i j : ℕ) (p : suc j ≡ i) (h : i ≤ length a) (k : length a ≡ length b) where
  one_fewer : same_bytes (take i a) (take i b) ≡ same_bytes (take j a) (take j b) && eqb (get_or a j 0) (get_or b j 0)
  one_fewer =
      let m : length (take j a) ≡ length (take j b) = length-take-le j a (omega arith) ∙ sym (length-take-le j b (omega arith)) in
      rw (← p, take-suc a j 0 (omega arith), take-suc b j 0 (omega arith)) (same_last (take j a) (take j b) (get_or a j 0) (get_or b j 0) m)

  pub agree : get_or a j 0 ≡ get_or b j 0 → same_bytes (take i a) (take i b) ≡ same_bytes (take j a) (take j b)
  agree e = one_fewer ∙ rw (eq-eqb _ _ e) (and_true (same_bytes (take j a) (take j b)))

  pub differ : (get_or a j 0 ≡ get_or b j 0 → ⊥) → same_bytes (take i a) (take i b) ≡ false
  differ e = one_fewer ∙ rw (ne_eqb _ _ e) (and_false (same_bytes (take j a) (take j b)))

pub same_itself : (a : List ℕ) → same_bytes a a ≡ true
unfolding same_bytes
same_itself [] = refl
same_itself (x ∷ xs) = rw (eq-eqb x x refl) (same_itself xs)
