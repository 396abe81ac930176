-- Two books that agree in their first entries: the reader finds the same faults there. Assumes nothing.
use Prim.Native.Nat.{ℕ, ◌<◌}
use mathlib.Core.Path.{◌≡◌, sym, ap, ◌∙◌}
use mathlib.Core.Bool.{not}
use mathlib.Core.List.{List}
use native.Mathlib.Omega.{arith}
use Rattle.lists.proofs.Keeps.{all_same}
use Rattle.book.specs.Book.{identifier_at, term_at, fault_at}
use Rattle.book.specs.Entry.{holds, entry_fault}
use Rattle.book.proofs.Faults.{other, fault_is}

-- the first j entries of the book s of n entries are those of the book g of m
pub record Same (s : List ℕ) (n : ℕ) (g : List ℕ) (m j : ℕ) : Type 0 where
  pub identifier : (i : ℕ) → i < j → identifier_at g i ≡ identifier_at s i
  pub term : (i : ℕ) → i < j → term_at g m i ≡ term_at s n i

module _ (s g : List ℕ) (k : ℕ) (same : (i : ℕ) → i < k → identifier_at g i ≡ identifier_at s i) where
  holds_same : (id : List ℕ) → holds g k id ≡ holds s k id
  unfolding holds
  holds_same id = ap not (all_same (other g id) (other s id) k (λ i h. rw (same i h)))

  -- an entry that is handed over has the same fault beside either
  pub entry_same : (id term : List ℕ) → entry_fault g k id term ≡ entry_fault s k id term
  unfolding entry_fault
  entry_same id term = rw (holds_same id)

pub fault_same : (s : List ℕ) (n : ℕ) (g : List ℕ) (m j : ℕ) → Same s n g m j → (i : ℕ) → i < j → fault_at g m i ≡ fault_at s n i
fault_same s n g m j a i h =
    fault_is g m i ∙ rw (a.identifier i h, a.term i h) (entry_same s g i (λ k l. a.identifier k (omega arith)) (identifier_at s i) (term_at s n i))
    ∙ sym (fault_is s n i)
