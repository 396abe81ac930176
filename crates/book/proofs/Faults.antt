-- Entries in the code's words: the parts of the book that it takes, what comparing two of them says, and the cases of an entry's fault.
-- Assumes nothing.
use mathlib.Core.Path.{◌≡◌, refl, sym, ◌∙◌}
use mathlib.Core.Logic.{◌≢◌}
use mathlib.Core.Bool.{Bool, true, false, not}
use mathlib.Core.List.{List}
use Prim.Native.Nat.{ℕ, ◌+◌, ◌-◌, ◌*◌, ◌<◌}
use native.Mathlib.Omega.{arith}
use borrow.Author.Tests.{eq-eqb, ne_eqb}
use lib.ListN.{take, drop}
use Rattle.lists.specs.Scan.{all, least}
use Rattle.lists.proofs.Scans.{all_fail}
use Rattle.lists.proofs.Lowest.{marked, lowest, lowest_first, lowest_zero_lem}
use Rattle.isin.specs.Isin.{verdict_of}
use Rattle.book_term.specs.Term.{term_of, term_number}
use Rattle.book.specs.Book.{identifier_at, term_at, same_bytes, repeated, fault_at, lowest_faulty, lowest_fault}
use Rattle.book.specs.Entry.{holds, entry_fault}

-- ---- the parts

-- k bytes from a on, as the code takes them
cut : (s : List ℕ) (a k : ℕ) → take (a + k - a) (drop a s) ≡ take k (drop a s)
cut s a k = rw (size a k)
  where
    size : (a k : ℕ) → a + k - a ≡ k
    size a k = omega arith

abbrev pub identifier_part : List ℕ → ℕ → List ℕ
identifier_part s i = take (4 + 12 * i + 12 - (4 + 12 * i)) (drop (4 + 12 * i) s)

abbrev pub term_part : List ℕ → ℕ → ℕ → List ℕ
term_part s n i = take (4 + 12 * n + 19 * i + 19 - (4 + 12 * n + 19 * i)) (drop (4 + 12 * n + 19 * i) s)

pub is_identifier : (s : List ℕ) (i : ℕ) → identifier_part s i ≡ identifier_at s i
unfolding identifier_at
is_identifier s i = cut s (4 + 12 * i) 12

pub is_term : (s : List ℕ) (n i : ℕ) → term_part s n i ≡ term_at s n i
unfolding term_at
is_term s n i = cut s (4 + 12 * n + 19 * i) 19

-- ---- an entry with the same identifier

-- entry k has another identifier than id
abbrev pub other : List ℕ → List ℕ → ℕ → Bool
other s id k = not (same_bytes (identifier_at s k) id)

module _ (s id : List ℕ) where
  pub compared : (k : ℕ) (part : List ℕ) (r : Bool) → part ≡ identifier_at s k → r ≡ same_bytes part id → other s id k ≡ not r
  compared k part r p e = rw (e, p)

  pub found : (n k : ℕ) → k < n → other s id k ≡ false → true ≡ holds s n id
  unfolding holds
  found n k h e = rw (all_fail (other s id) n k h e)

  pub missed : (n : ℕ) → true ≡ all (other s id) n → false ≡ holds s n id
  unfolding holds
  missed n e = rw (← e)

-- ---- the cases of an entry's fault

module _ (s : List ℕ) (n : ℕ) (id term : List ℕ) where
  pub by_identifier : (verdict_of id ≡ 0 → ⊥) → entry_fault s n id term ≡ verdict_of id
  unfolding entry_fault
  by_identifier h = rw (ne_eqb (verdict_of id) 0 h)

  pub by_earlier : verdict_of id ≡ 0 → holds s n id ≡ true → entry_fault s n id term ≡ 6
  unfolding entry_fault
  by_earlier h k = rw (eq-eqb (verdict_of id) 0 h, k)

  pub by_term : verdict_of id ≡ 0 → holds s n id ≡ false → entry_fault s n id term ≡ term_number (term_of term)
  unfolding entry_fault
  by_term h k = rw (eq-eqb (verdict_of id) 0 h, k)

-- that of an entry of the book
pub fault_is : (s : List ℕ) (n i : ℕ) → fault_at s n i ≡ entry_fault s i (identifier_at s i) (term_at s n i)
unfolding fault_at repeated entry_fault holds
fault_is s n i = refl

-- ---- the lowest faulty entry

abbrev pub is_faulty : List ℕ → ℕ → ℕ → Bool
is_faulty s n = marked (fault_at s n)

-- in the words of the laws of lists
pub lowest_is : (s : List ℕ) (n : ℕ) → lowest_fault s n ≡ lowest (fault_at s n) n
unfolding lowest_fault lowest_faulty
lowest_is s n = refl

module _ (s : List ℕ) (n : ℕ) where
  pub first_fault : (i : ℕ) → i < n → least (is_faulty s n) i ≡ i → fault_at s n i ≢ 0 → fault_at s n i ≡ lowest_fault s n
  first_fault i h e d = lowest_first (fault_at s n) n i h e d ∙ sym (lowest_is s n)

  pub no_fault : least (is_faulty s n) n ≡ n → 0 ≡ lowest_fault s n
  no_fault e = lowest_zero_lem (fault_at s n) n e ∙ sym (lowest_is s n)
