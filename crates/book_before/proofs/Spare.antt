-- A book whose spare bytes are 0 gets the number that it got, its entries have the bonds that they had, and prices to the same bits; the claim is in
-- specs/Spare.antt. Assumes nothing.
use mathlib.Core.Path.{◌≡◌, ap, ◌∙◌}
use mathlib.Core.Bool.{false}
use mathlib.Core.List.{List}
use Prim.Native.Nat.{ℕ, ◌<◌}
use native.Mathlib.Omega.{arith}
use borrow.Author.Tests.{eqb-true, ltb-true}
use lib.Dec.{ltb, eqb}
use lib.ListN.{get_or}
use Rattle.lists.proofs.Cases.{by_bool}
use Rattle.pricer.specs.Price.{price_bits}
use Rattle.pricer.specs.Range.{lowest_yield}
use Rattle.book.specs.Book.{raw_entry_count, term_at, book_verdict}
use Rattle.book.specs.Parts.{size_at, entry_count_of, bond_in, term_bond_at, bond_of}
use Rattle.book.proofs.Accepted.{accepted_size}
use Rattle.book_before.specs.Before.{entry_count_before, bond_before}
use Rattle.book_before.specs.Spare.{SparesClear, SpareBytes}
use Rattle.book_before.proofs.Terms.{term_same}
use Rattle.book_before.proofs.Formula.{bits_before_lem}
use Rattle.book_before.proofs.Faults.{verdict_same}

module _ (s : List ℕ) (h : SparesClear s) where
  count_same : entry_count_before lowest_yield s ≡ entry_count_of s
  unfolding size_at
  count_same = rw (verdict_same s h)

  refused : eqb (book_verdict s) 0 ≡ false → entry_count_of s ≡ 0
  unfolding size_at
  refused e = rw e

  -- an entry is one of an accepted book
  clear : (i : ℕ) → i < entry_count_of s → get_or (term_at s (entry_count_of s) i) 2 0 ≡ 0
  clear i l =
      by_bool (eqb (book_verdict s) 0)
      (λ e. let n : entry_count_of s ≡ raw_entry_count s = accepted_size s 2 (eqb-true _ _ e) in rw n (h i (rw n at l)))
      (λ e. let n : entry_count_of s ≡ 0 = refused e in absurd (not_below i (rw n at l)))
    where
      not_below : (i : ℕ) → i < 0 → ⊥
      not_below i k = omega arith

  bond_same : (i : ℕ) → bond_of s i ≡ bond_before lowest_yield s i
  unfolding bond_of term_bond_at bond_before
  bond_same i =
      by_bool (ltb i (entry_count_of s))
      (λ l. rw (count_same, l) (ap bond_in (term_same (term_at s (entry_count_of s) i) (clear i (ltb-true i (entry_count_of s) l)))))
      (λ l. rw (count_same, l))

pub spare_bytes : SpareBytes
spare_bytes = record {
  number = verdict_same;
  bond = bond_same;
  price = λ s h i. ap price_bits (bond_same s h i) ∙ bits_before_lem lowest_yield s i;
}
