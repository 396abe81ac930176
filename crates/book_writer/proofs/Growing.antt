-- The buffer that the code leaves is the grown book and what followed; and the two ends of `add`. Assumes nothing.
use Prim.Native.Nat.{ℕ, ◌+◌, ◌*◌, ◌≤◌, ◌<◌}
use mathlib.Core.Path.{◌≡◌, sym, ap, ◌∙◌}
use mathlib.Core.List.{List, ◌∷◌, ◌++◌, append_assoc}
use native.Mathlib.Omega.{arith}
use lib.ListN.{length, take, drop, set, get_or, length-append}
use lib.Seq.{take-take, take-add, drop-drop, length-take-le, get_or-take}
use Rattle.lists.proofs.Slices.{part, drop_take}
use Rattle.text.specs.Text.{over}
use Rattle.book.specs.Book.{book_verdict}
use Rattle.book.specs.Parts.{machine_count_of, entry_count_of}
use Rattle.book_writer.specs.Writer.{head, laid, identifiers, terms, grown, onto, add_number, add_bytes}
use Rattle.book.proofs.Accepted.{whole_length, count_byte}
use Rattle.book_writer.proofs.Laid.{laid_head, own_laid, own_long}
use Rattle.book_writer.proofs.Answers.{Adds, twelve, nineteen, number_adds, adds_size, added_accepted, added_refused}

-- ---- the two parts of a book around the new identifier

-- the sizes and the identifiers
up_to_terms : (s : List ℕ) → book_verdict s ≡ 0 → take (4 + 12 * entry_count_of s) s ≡ head (machine_count_of s) (entry_count_of s) ++ identifiers s
unfolding identifiers
up_to_terms s e =
    take-add 4 (12 * entry_count_of s) s
    ∙ ap (λ (y : List ℕ). y ++ take (12 * entry_count_of s) (drop 4 s))
    (ap (take 4) (own_laid s e) ∙ laid_head (machine_count_of s) (entry_count_of s) (identifiers s) (terms s))

-- the terms
from_terms : (s : List ℕ) → drop (4 + 12 * entry_count_of s) s ≡ terms s
unfolding terms
from_terms s = sym (drop-drop (12 * entry_count_of s) 4 s)

-- a store into byte 2
stored : (m n x : ℕ) (ids id ts t r : List ℕ) → set (((head m n ++ ids) ++ (id ++ (ts ++ t))) ++ r) 2 x ≡ laid m x (ids ++ id) (ts ++ t) ++ r
unfolding laid
stored m n x ids id ts t r = ap (λ (y : List ℕ). m ∷ 0 ∷ x ∷ 0 ∷ (y ++ r)) (sym (append_assoc ids id (ts ++ t)))

-- ---- where the number is 0

module _ (b : List ℕ) (count : ℕ) (id term : List ℕ) (a : Adds b count id term) where
  counted : count ≡ 4 + 31 * entry_count_of (take count b)
  counted = omega (arith, length-take-le count b a.within, whole_length (take count b) a.accepted)

  -- byte 2 of the buffer
  byte_two : get_or b 2 0 ≡ entry_count_of (take count b)
  byte_two = sym (get_or-take count b 2 0 (omega (arith, counted))) ∙ count_byte (take count b) a.accepted

  twelve_nineteen : (length id ≡ 12) × (length term ≡ 19)
  twelve_nineteen =
      let s = take count b in
      (twelve s (entry_count_of s) id term a.faultless, nineteen s (entry_count_of s) id term a.faultless)

  grow_buffer : let n = entry_count_of (take count b) in
      set (over b (4 + 12 * n) (id ++ (part b (4 + 12 * n) count ++ term))) 2 (n + 1) ≡ onto (grown (take count b) id term) b
  unfolding over grown
  grow_buffer =
      let s = take count b in
      let n = entry_count_of s in
      let at : ℕ = 4 + 12 * n in
      let c : count ≡ 4 + 31 * n = counted in
      let f : take at b ≡ head (machine_count_of s) n ++ identifiers s = sym (take-take at count b (omega arith)) ∙ up_to_terms s a.accepted in
      let p : part b at count ≡ terms s = sym (drop_take b at count (omega arith) a.within) ∙ from_terms s in
      let l : length (terms s) ≡ 19 * n = (own_long s a.accepted).nineteens in
      let i = twelve_nineteen in
      let w : length (id ++ (terms s ++ term)) ≡ length id + length (terms s ++ term) = length-append id (terms s ++ term) in
      let v : length (terms s ++ term) ≡ length (terms s) + length term = length-append (terms s) term in
      let m : at + length (id ++ (terms s ++ term)) ≡ count + 31 = omega (arith, i.0, i.1) in
      rw (p, f, m)
      (stored (machine_count_of s) n (n + 1) (identifiers s) id (terms s) term (drop (count + 31) b)
      ∙ ap (λ (k : ℕ). grown s id term ++ drop k b) (sym (adds_size b count id term a)))

  -- what `grow` asks
  pub grow_asks : let n = get_or b 2 0 in (4 + 12 * n ≤ count) × (count + length id + length term ≤ length b) × (n < 64)
  grow_asks =
      let q : get_or b 2 0 ≡ entry_count_of (take count b) = byte_two in
      let c = counted in
      let i = twelve_nineteen in
      (omega arith, omega (arith, a.space, i.0, i.1), omega (arith, a.few))

-- ---- the two ends of `add`

module _ (b : List ℕ) (count : ℕ) (id term : List ℕ) (r : ℕ) (e : r ≡ add_number b count id term) where
  -- a refusal leaves the buffer as it was
  pub refused : (r ≡ 0 → ⊥) → (r ≡ add_number b count id term) × (b ≡ add_bytes b count id term)
  refused h = (e, sym (added_refused b count id term (λ z. h (e ∙ z))))

  -- and 0 says what the entry is added to
  pub passed : r ≡ 0 → Adds b count id term
  passed z = number_adds b count id term (sym e ∙ z)

-- where the number is 0, what the code leaves is the buffer with the entry added
pub grew : (b : List ℕ) (count : ℕ) (id term : List ℕ) → 0 ≡ add_number b count id term → (o : List ℕ)
    → let n = get_or b 2 0 in o ≡ set (over b (4 + 12 * n) (id ++ (part b (4 + 12 * n) count ++ term))) 2 (n + 1)
    → o ≡ add_bytes b count id term
grew b count id term e o w =
    let a = number_adds b count id term (sym e) in
    w ∙ rw (byte_two b count id term a) (grow_buffer b count id term a) ∙ sym (added_accepted b count id term (sym e))
