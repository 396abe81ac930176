-- The grown book: the first entries are those of the book, the last one is new, and the reader's number of it is the fault of the new entry.
-- Assumes nothing.
use Prim.Native.Nat.{ℕ, ◌+◌, ◌*◌, ◌≤◌, ◌<◌}
use mathlib.Core.Path.{◌≡◌, sym, ◌∙◌}
use mathlib.Core.Bool.{false, ◌&&◌}
use mathlib.Core.List.{List, ◌++◌}
use native.Mathlib.Omega.{arith}
use borrow.Author.Tests.{lt-leb, le-ltb}
use lib.Dec.{leb}
use lib.ListN.{length, length-append}
use Rattle.lists.proofs.Cases.{and_false}
use Rattle.lists.proofs.Slices.{part_old, part_new}
use Rattle.lists.proofs.Lowest.{lowest_last}
use Rattle.book.specs.Book.{sizes_in_range, identifier_at, term_at, fault_at, book_verdict}
use Rattle.book.specs.Parts.{machine_count_of, entry_count_of}
use Rattle.book.specs.Entry.{entry_fault}
use Rattle.book.proofs.Faults.{fault_is, lowest_is}
use Rattle.book.proofs.Accepted.{resized, counts, whole_length, no_faults}
use Rattle.book.proofs.Entries.{Same, entry_same, fault_same}
use Rattle.book_writer.specs.Writer.{laid, identifiers, terms, grown}
use Rattle.book_writer.proofs.Laid.{Long, id_in, term_in, laid_machines, laid_entries, laid_four, length_laid, laid_identifier, laid_term}
use Rattle.book_writer.proofs.Laid.{laid_verdict, laid_machine_count, laid_entry_count, own_long, own_identifier, own_term}

module _ (s id term : List ℕ) (e : book_verdict s ≡ 0) (twelve : length id ≡ 12) (nineteen : length term ≡ 19) where
  long : Long (entry_count_of s + 1) (identifiers s ++ id) (terms s ++ term)
  long =
      let z = own_long s e in
      record {
        twelves = omega (arith, length-append (identifiers s) id, z.twelves);
        nineteens = omega (arith, length-append (terms s) term, z.nineteens);
      }

  pub grown_length : length (grown s id term) ≡ length s + 31
  unfolding grown
  grown_length = length_laid (machine_count_of s) long ∙ omega (arith, whole_length s e)

  identifier_in : (i : ℕ) → i < entry_count_of s + 1 → identifier_at (grown s id term) i ≡ id_in (identifiers s ++ id) i
  unfolding grown
  identifier_in = laid_identifier (machine_count_of s) long

  term_in_lem : (i : ℕ) → term_at (grown s id term) (entry_count_of s + 1) i ≡ term_in (terms s ++ term) i
  unfolding grown
  term_in_lem = laid_term (machine_count_of s) long

  pub old_entries : Same s (entry_count_of s) (grown s id term) (entry_count_of s + 1) (entry_count_of s)
  old_entries =
      let z = own_long s e in
      record {
        identifier = λ i h.
            identifier_in i (omega arith) ∙ part_old (identifiers s) id (12 * i) 12 (omega (arith, z.twelves)) ∙ sym (own_identifier s e i h);
        term = λ i h. term_in_lem i ∙ part_old (terms s) term (19 * i) 19 (omega (arith, z.nineteens)) ∙ sym (own_term s e i);
      }

  pub new_identifier : identifier_at (grown s id term) (entry_count_of s) ≡ id
  new_identifier =
      identifier_in (entry_count_of s) (omega arith) ∙ part_new (identifiers s) id (12 * entry_count_of s) 12 (own_long s e).twelves twelve

  pub new_term : term_at (grown s id term) (entry_count_of s + 1) (entry_count_of s) ≡ term
  new_term = term_in_lem (entry_count_of s) ∙ part_new (terms s) term (19 * entry_count_of s) 19 (own_long s e).nineteens nineteen

  new_fault : fault_at (grown s id term) (entry_count_of s + 1) (entry_count_of s) ≡ entry_fault s (entry_count_of s) id term
  new_fault =
      fault_is (grown s id term) (entry_count_of s + 1) (entry_count_of s)
      ∙ rw (new_identifier, new_term) (entry_same s (grown s id term) (entry_count_of s) old_entries.identifier id term)

  pub grown_verdict : entry_count_of s < 64 → book_verdict (grown s id term) ≡ entry_fault s (entry_count_of s) id term
  unfolding grown
  grown_verdict few =
      let g = grown s id term in
      let n = entry_count_of s in
      laid_verdict (machine_count_of s) long (resized (counts s e) (n + 1) (omega arith))
      ∙ lowest_is g (n + 1)
      ∙ lowest_last (fault_at g (n + 1)) n (λ i h. fault_same s n g (n + 1) n old_entries i h ∙ no_faults s e i h)
      ∙ new_fault

  -- its sizes, where it is accepted
  module _ (a : book_verdict (grown s id term) ≡ 0) where
    pub grown_machines : machine_count_of (grown s id term) ≡ machine_count_of s
    unfolding grown
    grown_machines = laid_machine_count (machine_count_of s) long a

    pub grown_entries : entry_count_of (grown s id term) ≡ entry_count_of s + 1
    unfolding grown
    grown_entries = laid_entry_count (machine_count_of s) long a

-- ---- a 65th entry

past_64 : (m n : ℕ) → 64 < n → sizes_in_range m n ≡ false
unfolding sizes_in_range
past_64 m n h = rw (lt-leb n 64 h) (and_false (leb 2 m && leb m 16))

laid_full : (m n : ℕ) (ids ts : List ℕ) → 64 < n → book_verdict (laid m n ids ts) ≡ 2
unfolding book_verdict
laid_full m n ids ts h =
    let l : 4 ≤ length (laid m n ids ts) = laid_four m n ids ts in
    rw (le-ltb (length (laid m n ids ts)) 4 l, laid_machines m n ids ts, laid_entries m n ids ts, past_64 m n h)

pub grown_full : (s id term : List ℕ) → 64 ≤ entry_count_of s → book_verdict (grown s id term) ≡ 2
unfolding grown
grown_full s id term h = laid_full (machine_count_of s) (entry_count_of s + 1) (identifiers s ++ id) (terms s ++ term) (omega arith)
