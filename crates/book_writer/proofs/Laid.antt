-- A book laid out of its sizes, its identifiers and its terms: what the reader finds in it; and that each accepted book is laid out of its own.
-- Assumes nothing.
use Prim.Native.Nat.{ℕ, ◌+◌, ◌-◌, ◌*◌, ◌≤◌, ◌<◌}
use mathlib.Core.Path.{◌≡◌, refl, sym, ap, ◌∙◌}
use mathlib.Core.List.{List, [], ◌∷◌, ◌++◌}
use native.Mathlib.Omega.{arith}
use lib.ListN.{length, take, drop, length-append, length-drop, take-append-drop}
use lib.Seq.{drop-drop, take_at, drop_at, length-take-le}
use Rattle.lists.proofs.Slices.{part_old}
use Rattle.book.specs.Book.{raw_machine_count, raw_entry_count, identifier_at, term_at, lowest_fault, book_verdict}
use Rattle.book.specs.Parts.{machine_count_of, entry_count_of}
use Rattle.book.proofs.Accepted.{Sizes, accepted, accepted_size, verdict_lowest, counts, whole_length}
use Rattle.book_writer.specs.Writer.{head, laid, identifiers, terms}

-- ---- an entry in the two lists

abbrev pub id_in : List ℕ → ℕ → List ℕ
id_in ids i = take 12 (drop (12 * i) ids)

abbrev pub term_in : List ℕ → ℕ → List ℕ
term_in ts i = take 19 (drop (19 * i) ts)

-- the two lists have n entries
pub record Long (n : ℕ) (ids ts : List ℕ) : Type 0 where
  pub twelves : length ids ≡ 12 * n
  pub nineteens : length ts ≡ 19 * n

-- ---- what the reader finds

module _ (m n : ℕ) (ids ts : List ℕ) where
  pub laid_machines : raw_machine_count (laid m n ids ts) ≡ m
  unfolding laid
  laid_machines = omega arith

  pub laid_entries : raw_entry_count (laid m n ids ts) ≡ n
  unfolding laid
  laid_entries = omega arith

  -- the sizes
  pub laid_head : take 4 (laid m n ids ts) ≡ head m n
  unfolding laid
  laid_head = refl

  laid_rest : drop 4 (laid m n ids ts) ≡ ids ++ ts
  unfolding laid
  laid_rest = refl

  pub laid_four : 4 ≤ length (laid m n ids ts)
  unfolding laid
  laid_four = omega arith

module _ (m : ℕ) {n : ℕ} {ids ts : List ℕ} (z : Long n ids ts) where
  pub length_laid : length (laid m n ids ts) ≡ 4 + 31 * n
  unfolding laid
  length_laid = omega (arith, length-append ids ts, z.twelves, z.nineteens)

  pub laid_identifier : (i : ℕ) → i < n → identifier_at (laid m n ids ts) i ≡ id_in ids i
  unfolding identifier_at
  laid_identifier i h =
      rw (← drop-drop (12 * i) 4 (laid m n ids ts), laid_rest m n ids ts) (part_old ids ts (12 * i) 12 (omega (arith, z.twelves)))

  pub laid_term : (i : ℕ) → term_at (laid m n ids ts) n i ≡ term_in ts i
  unfolding term_at
  laid_term i =
      rw (
        ← drop-drop (19 * i) (4 + 12 * n) (laid m n ids ts),
        ← drop-drop (12 * n) 4 (laid m n ids ts),
        laid_rest m n ids ts,
        drop_at ids ts (12 * n) z.twelves,
      )

  pub laid_verdict : Sizes m n → book_verdict (laid m n ids ts) ≡ lowest_fault (laid m n ids ts) n
  laid_verdict q =
      let s = laid m n ids ts in
      let k : raw_entry_count s ≡ n = laid_entries m n ids ts in
      verdict_lowest s (rw (laid_machines m n ids ts, laid_entries m n ids ts) q) (rw k length_laid) ∙ ap (lowest_fault s) k

  -- where it is accepted
  module _ (e : book_verdict (laid m n ids ts) ≡ 0) where
    pub laid_machine_count : machine_count_of (laid m n ids ts) ≡ m
    laid_machine_count = accepted_size (laid m n ids ts) 0 e ∙ laid_machines m n ids ts

    pub laid_entry_count : entry_count_of (laid m n ids ts) ≡ n
    laid_entry_count = accepted_size (laid m n ids ts) 2 e ∙ laid_entries m n ids ts

    pub laid_identifiers : identifiers (laid m n ids ts) ≡ ids
    unfolding identifiers
    laid_identifiers = rw (laid_entry_count, laid_rest m n ids ts) (take_at ids ts (12 * n) z.twelves)

    pub laid_terms : terms (laid m n ids ts) ≡ ts
    unfolding terms
    laid_terms = rw (laid_entry_count, laid_rest m n ids ts) (drop_at ids ts (12 * n) z.twelves)

-- ---- an accepted book is laid out of its own parts

-- sizes below 256 leave their second bytes 0
four_bytes : (s : List ℕ) (m n : ℕ) → 4 ≤ length s → raw_machine_count s ≡ m → raw_entry_count s ≡ n → m ≤ 16 → n ≤ 64 → s ≡ head m n ++ drop 4 s
four_bytes [] m n h p q a b = absurd (omega arith)
four_bytes (x ∷ []) m n h p q a b = absurd (omega arith)
four_bytes (x ∷ y ∷ []) m n h p q a b = absurd (omega arith)
four_bytes (x ∷ y ∷ v ∷ []) m n h p q a b = absurd (omega arith)
four_bytes (x ∷ y ∷ v ∷ w ∷ s) m n h p q a b =
    let e : x ≡ m = omega arith in
    let f : y ≡ 0 = omega arith in
    let g : v ≡ n = omega arith in
    let k : w ≡ 0 = omega arith in
    cc

module _ (s : List ℕ) (e : book_verdict s ≡ 0) where
  pub own_long : Long (entry_count_of s) (identifiers s) (terms s)
  unfolding identifiers terms
  own_long =
      let n = entry_count_of s in
      let l : length (drop 4 s) ≡ length s - 4 = length-drop 4 s in
      let w : length s ≡ 4 + 31 * n = whole_length s e in
      record {
        twelves = length-take-le (12 * n) (drop 4 s) (omega arith);
        nineteens = length-drop (12 * n) (drop 4 s) ∙ omega arith;
      }

  pub own_laid : s ≡ laid (machine_count_of s) (entry_count_of s) (identifiers s) (terms s)
  unfolding laid identifiers terms
  own_laid =
      let z = counts s e in
      let m = machine_count_of s in
      let n = entry_count_of s in
      four_bytes s m n (accepted s e).four (sym (accepted_size s 0 e)) (sym (accepted_size s 2 e)) z.machine_count_most z.entry_count_most
      ∙ ap (λ (y : List ℕ). head m n ++ y) (sym (take-append-drop (12 * n) (drop 4 s)))

  pub own_identifier : (i : ℕ) → i < entry_count_of s → identifier_at s i ≡ id_in (identifiers s) i
  own_identifier i h = ap (λ (y : List ℕ). identifier_at y i) own_laid ∙ laid_identifier (machine_count_of s) own_long i h

  pub own_term : (i : ℕ) → term_at s (entry_count_of s) i ≡ term_in (terms s) i
  own_term i = ap (λ (y : List ℕ). term_at y (entry_count_of s) i) own_laid ∙ laid_term (machine_count_of s) own_long i
