-- Of a list's first n items, those that pass a test, counted by their indices. Assumes nothing.
use Rattle.std.proofs.Common.{◌≡◌, ℕ, zero, suc, ◌≤◌, ◌<◌, Bool, List, length, get_or, take, sym, ap, ◌∙◌, arith, add-one}
use Rattle.std.specs.List.{count_by}
use Rattle.std.proofs.Math.Seq.{take-length}
use Rattle.std.proofs.lemmas.List.Sums.{count_by_more_yes, count_by_more_no}
use Rattle.lists.specs.Scan.{count_to}
use Rattle.lists.proofs.Cases.{by_bool}
use Rattle.lists.proofs.Scans.{count_none, count_yes, count_no}

module _ {A : Type 0} (p : A → Bool) (d : A) (l : List A) where
  pub counted : (n : ℕ) → n ≤ length l → count_by p (take n l) ≡ count_to (λ j. p (get_or l j d)) n
  counted zero h = count_none _
  counted (suc n) h =
      let le : n ≤ length l = omega arith in
      let lt : n < length l = omega arith in
      let e = counted n le in
      rw (← add-one n)
      (by_bool (p (get_or l n d))
      (λ y. count_by_more_yes p l n d lt y ∙ count_yes (λ j. p (get_or l j d)) n _ e y)
      (λ y. count_by_more_no p l n d lt y ∙ count_no (λ j. p (get_or l j d)) n _ e y))

  pub counted_all : (n : ℕ) → length l ≡ n → count_by p l ≡ count_to (λ j. p (get_or l j d)) n
  counted_all n e = ap (count_by p) (sym (take-length l)) ∙ rw e (counted n (omega arith))
