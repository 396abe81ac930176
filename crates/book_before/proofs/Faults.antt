-- The number of an entry, and of a book: as it was where it was not 7, and where the spare bytes are 0. Assumes nothing.
use Rattle.std.proofs.Common.{Option, None, Some}
use Rattle.pricer.specs.declared.Bond.{Bond}
use mathlib.Core.Path.{◌≡◌, refl, ap}
use mathlib.Core.Logic.{◌≢◌}
use mathlib.Core.Bool.{Bool, true, false, not, cond}
use mathlib.Core.List.{List}
use Prim.Native.Nat.{ℕ, ◌+◌, ◌*◌, ◌<◌}
use lib.Dec.{ltb, eqb}
use lib.ListN.{length}
use lib.Ieee.{Float, le}
use Rattle.lists.proofs.Cases.{by_bool}
use Rattle.lists.proofs.Lowest.{lowest_agree, lowest_same}
use Rattle.isin.specs.Isin.{verdict_of}
use Rattle.book_term.specs.Term.{term_of, term_number}
use Rattle.pricer.specs.Range.{lowest_yield}
use Rattle.book.specs.Book.{raw_machine_count, raw_entry_count, sizes_in_range, identifier_at, term_at, repeated}
use Rattle.book.specs.Book.{fault_at, lowest_faulty, lowest_fault, book_verdict}
use Rattle.book.proofs.Accepted.{no}
use Rattle.book_before.specs.Before.{term_before, fault_before, lowest_faulty_before, lowest_fault_before, verdict_before}
use Rattle.book_before.specs.Spare.{SparesClear}
use Rattle.book_before.proofs.Terms.{Keeps, term_kept, term_same}

number_kept : (x y : Option Bond) → Keeps x y → term_number x ≢ 7 → term_number y ≡ term_number x
number_kept None y h d = absurd (d refl)
number_kept (Some b) y h d = ap term_number (h b refl)

-- the tests of 1, 2 and 3, and a number that comes after them
abbrev short : List ℕ → Bool
short s = ltb (length s) 4

abbrev wrong_sizes : List ℕ → Bool
wrong_sizes s = not (sizes_in_range (raw_machine_count s) (raw_entry_count s))

abbrev wrong_length : List ℕ → Bool
wrong_length s = not (eqb (length s) (4 + 31 * raw_entry_count s))

after_sizes : (a b c : Bool) (v x y : ℕ) → (x ≢ v → y ≡ x) → cond a 1 (cond b 2 (cond c 3 x)) ≢ v
    → cond a 1 (cond b 2 (cond c 3 y)) ≡ cond a 1 (cond b 2 (cond c 3 x))
after_sizes true b c v x y h d = refl
after_sizes false true c v x y h d = refl
after_sizes false false true v x y h d = refl
after_sizes false false false v x y h d = h d

module _ (lo : Float) (up : (y : Float) → le lo y ≡ true → le lowest_yield y ≡ true) where
  fault_kept : (s : List ℕ) (n i : ℕ) → fault_before lo s n i ≢ 7 → fault_at s n i ≡ fault_before lo s n i
  unfolding fault_at fault_before
  fault_kept s n i h =
      let t = term_at s n i in
      by_bool (eqb (verdict_of (identifier_at s i)) 0)
      (λ a. by_bool (repeated s i)
      (λ b. rw (a, b))
      (λ b. rw (a, b) (number_kept (term_before lo t) (term_of t) (term_kept lo up t) (λ e. h (rw (a, b) e)))))
      (λ a. rw a)

  lowest_kept : (s : List ℕ) (n : ℕ) → lowest_fault_before lo s n ≢ 7 → lowest_fault s n ≡ lowest_fault_before lo s n
  unfolding lowest_fault lowest_faulty lowest_fault_before lowest_faulty_before
  lowest_kept s n h = lowest_agree (fault_before lo s n) (fault_at s n) 7 n (no 6) (fault_kept s n) h

  pub verdict_kept : (s : List ℕ) → verdict_before lo s ≢ 7 → book_verdict s ≡ verdict_before lo s
  unfolding book_verdict verdict_before
  verdict_kept s h = after_sizes (short s) (wrong_sizes s) (wrong_length s) 7 _ _ (lowest_kept s (raw_entry_count s)) h

fault_same : (s : List ℕ) → SparesClear s → (i : ℕ) → i < raw_entry_count s
    → fault_at s (raw_entry_count s) i ≡ fault_before lowest_yield s (raw_entry_count s) i
unfolding fault_at fault_before
fault_same s h i l = rw (term_same (term_at s (raw_entry_count s) i) (h i l))

pub verdict_same : (s : List ℕ) → SparesClear s → book_verdict s ≡ verdict_before lowest_yield s
unfolding book_verdict verdict_before lowest_fault lowest_faulty lowest_fault_before lowest_faulty_before
verdict_same s h =
    let n = raw_entry_count s in
    ap (λ (x : ℕ). cond (short s) 1 (cond (wrong_sizes s) 2 (cond (wrong_length s) 3 x)))
    (lowest_same (fault_before lowest_yield s n) (fault_at s n) n (fault_same s h))
