-- The writer's number: 0 exactly where the count lies in the buffer, the book is accepted and has fewer than 64 entries, the entry has no fault,
-- and the buffer holds the grown book. And what the buffer then is. Assumes nothing.
use Prim.Native.Nat.{ℕ, ◌+◌, ◌≤◌, ◌<◌}
use mathlib.Core.Path.{◌≡◌, ap, ◌∙◌}
use mathlib.Core.List.{List, ◌++◌}
use native.Mathlib.Omega.{arith}
use borrow.Author.Tests.{leb-false, lt-leb, ltb-false, le-ltb, eq-eqb, ne_eqb}
use lib.Dec.{leb, ltb}
use lib.ListN.{length, take, drop, length-append}
use lib.Seq.{take_at, drop-append-add, length-take-le}
use Rattle.lists.proofs.Cases.{by_eq}
use Rattle.isin.specs.Isin.{verdict_of}
use Rattle.isin.proofs.Form.{not_twelve}
use Rattle.book_term.specs.Term.{term_of, term_number}
use Rattle.book_term.proofs.Ranged.{not_nineteen}
use Rattle.book.specs.Book.{book_verdict}
use Rattle.book.specs.Parts.{entry_count_of}
use Rattle.book.specs.Entry.{holds, entry_fault}
use Rattle.book.proofs.Accepted.{past, past_own, past_identifier}
use Rattle.book_writer.specs.Writer.{grown, onto, book_number, add_number, add_bytes}
use Rattle.book_writer.proofs.Grown.{grown_length}

-- ---- the lengths of an entry without fault

module _ (s : List ℕ) (n : ℕ) (id term : List ℕ) (e : entry_fault s n id term ≡ 0) where
  apart : (verdict_of id ≡ 0) × (term_number (term_of term) ≡ 0)
  unfolding entry_fault
  apart = let p = past_identifier (verdict_of id) (holds s n id) (term_number (term_of term)) e in (p.0, p.2)

  pub twelve : length id ≡ 12
  twelve = by_eq (length id) 12 (λ q. q) (λ q. absurd (omega (arith, not_twelve id q, apart.0)))

  pub nineteen : length term ≡ 19
  nineteen = by_eq (length term) 19 (λ q. q) (λ q. absurd (omega (arith, not_nineteen term q, apart.1)))

-- that of the book grown by it
pub longer : (s id term : List ℕ) → book_verdict s ≡ 0 → entry_fault s (entry_count_of s) id term ≡ 0 → length (grown s id term) ≡ length s + 31
longer s id term e f = grown_length s id term e (twelve s (entry_count_of s) id term f) (nineteen s (entry_count_of s) id term f)

-- ---- the number 0

pub record Adds (buffer : List ℕ) (count : ℕ) (id term : List ℕ) : Type 0 where
  pub within : count ≤ length buffer
  pub accepted : book_verdict (take count buffer) ≡ 0
  pub few : entry_count_of (take count buffer) < 64
  pub faultless : entry_fault (take count buffer) (entry_count_of (take count buffer)) id term ≡ 0
  pub space : count + 31 ≤ length buffer

module _ (buffer : List ℕ) (count : ℕ) (id term : List ℕ) where
  pub number_adds : add_number buffer count id term ≡ 0 → Adds buffer count id term
  unfolding add_number book_number
  number_adds e =
      let s = take count buffer in
      let a = past (ltb (length buffer) count) 2 _ e in
      let b = past_own (book_verdict s) _ a.1 in
      let c = past (leb 64 (entry_count_of s)) 1 _ b.1 in
      let d = past_own (entry_fault s (entry_count_of s) id term) _ c.1 in
      let f = past (ltb (length buffer) (length (grown s id term))) 22 0 d.1 in
      let w : count ≤ length buffer = ltb-false (length buffer) count a.0 in
      record {
        within = w;
        accepted = b.0;
        few = leb-false 64 (entry_count_of s) c.0;
        faultless = d.0;
        space = omega (
          arith,
          ltb-false (length buffer) (length (grown s id term)) f.0,
          longer s id term b.0 d.0,
          length-take-le count buffer w,
        );
      }

  module _ (a : Adds buffer count id term) where
    pub adds_size : length (grown (take count buffer) id term) ≡ count + 31
    adds_size = omega (arith, longer (take count buffer) id term a.accepted a.faultless, length-take-le count buffer a.within)

    adds_number : add_number buffer count id term ≡ 0
    unfolding add_number book_number
    adds_number =
        let s = take count buffer in
        rw (
          le-ltb (length buffer) count a.within,
          eq-eqb (book_verdict s) 0 a.accepted,
          lt-leb 64 (entry_count_of s) a.few,
          eq-eqb (entry_fault s (entry_count_of s) id term) 0 a.faultless,
          le-ltb (length buffer) (length (grown s id term)) (omega (arith, adds_size, a.space)),
        )

  -- ---- the buffer

  pub added_accepted : add_number buffer count id term ≡ 0 → add_bytes buffer count id term ≡ onto (grown (take count buffer) id term) buffer
  unfolding add_bytes
  added_accepted e = rw (eq-eqb (add_number buffer count id term) 0 e)

  pub added_refused : (add_number buffer count id term ≡ 0 → ⊥) → add_bytes buffer count id term ≡ buffer
  unfolding add_bytes
  added_refused e = rw (ne_eqb (add_number buffer count id term) 0 e)

-- ---- a buffer that is a book and what follows it

module _ (b rest id term : List ℕ) (count : ℕ) (l : length b ≡ count) (e : book_verdict b ≡ 0) (few : entry_count_of b < 64)
    (f : entry_fault b (entry_count_of b) id term ≡ 0) (space : 31 ≤ length rest) where
  its_book : take count (b ++ rest) ≡ b
  its_book = take_at b rest count l

  adds : Adds (b ++ rest) count id term
  adds =
      let k : length (b ++ rest) ≡ length b + length rest = length-append b rest in
      record {
        within = omega arith;
        accepted = rw its_book e;
        few = rw its_book few;
        faultless = rw its_book f;
        space = omega arith;
      }

  pub book_answer : add_number (b ++ rest) count id term ≡ 0
  book_answer = adds_number (b ++ rest) count id term adds

  pub book_added : add_bytes (b ++ rest) count id term ≡ grown b id term ++ drop 31 rest
  book_added =
      let g = grown b id term in
      let m : length g ≡ length b + 31 = rw its_book at (adds_size (b ++ rest) count id term adds) ∙ omega arith in
      added_accepted (b ++ rest) count id term book_answer
      ∙ ap (λ (x : List ℕ). onto (grown x id term) (b ++ rest)) its_book
      ∙ ap (λ (x : List ℕ). g ++ x) (ap (λ (k : ℕ). drop k (b ++ rest)) m ∙ drop-append-add b rest 31)
