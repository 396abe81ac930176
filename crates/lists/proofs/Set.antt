-- A list with one element set: a part of its elements that the new one has as the old one had it. Assumes nothing.
use Prim.Native.Nat.{ℕ}
use mathlib.Core.Path.{◌≡◌}
use mathlib.Core.List.{List}
use borrow.Author.Tests.{ltb-true, ltb-false}
use lib.Dec.{ltb}
use lib.ListN.{length, get_or, set}
use lib.Seq.{get_or-set_same, get_or-set_other, set_out}
use Rattle.lists.proofs.Cases.{by_bool, by_eq}

-- also where there is no element i, since then nothing is written
pub set_part : {A : Type 0} {B : Type 0} (f : A → B) (l : List A) (i : ℕ) (x d : A) → f x ≡ f (get_or l i d)
    → (k : ℕ) → f (get_or (set l i x) k d) ≡ f (get_or l k d)
set_part f l i x d e k =
    by_eq k i
    (λ q. rw q (by_bool (ltb i (length l))
    (λ h. rw (get_or-set_same l i x d (ltb-true _ _ h)) e)
    (λ h. rw (set_out l i x (ltb-false _ _ h)))))
    (λ q. rw (get_or-set_other l i k x d q))
