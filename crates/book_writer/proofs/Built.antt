-- The claim of specs/Built.antt: the first k entries of an accepted book are a book, which entry k grows to the first k + 1. Assumes nothing.
use Prim.Native.Nat.{ℕ, zero, suc, ◌+◌, ◌*◌, ◌≤◌, ◌<◌}
use mathlib.Core.Path.{◌≡◌, refl, sym, ap, ◌∙◌}
use mathlib.Core.List.{List, ◌++◌, append-nil}
use native.Mathlib.Nat.{le_refl}
use native.Mathlib.Omega.{arith}
use native.Mathlib.Numerals.{add-one}
use lib.ListN.{length, take, drop, length-drop, drop_of_length-le}
use lib.Seq.{take_all, take-add, drop-drop, length-take-le}
use Rattle.lists.specs.Scan.{up_to}
use Rattle.lists.proofs.Slices.{part_front}
use Rattle.lists.proofs.Lowest.{lowest_all}
use Rattle.book.specs.Book.{identifier_at, fault_at, book_verdict}
use Rattle.book.specs.Parts.{machine_count_of, entry_count_of, identifier_of}
use Rattle.book.specs.Entry.{entry_fault}
use Rattle.book.proofs.Faults.{fault_is, lowest_is}
use Rattle.book.proofs.Accepted.{resized, counts, no_faults, identifier_below}
use Rattle.book.proofs.Entries.{Same, entry_same, fault_same}
use Rattle.book_writer.specs.Writer.{laid, identifiers, terms, grown}
use Rattle.book_writer.specs.Built.{empty_book, term_of_entry, adding, adding_number, built, Builds, BuildsEvery}
use Rattle.book_writer.proofs.Laid.{Long, length_laid, laid_identifier, laid_term, laid_verdict, laid_machine_count, laid_entry_count}
use Rattle.book_writer.proofs.Laid.{laid_identifiers, laid_terms, own_long, own_laid, own_identifier, own_term}
use Rattle.book_writer.proofs.Answers.{book_answer, book_added}

-- the book of the first k entries
unfoldable first : List ℕ → ℕ → List ℕ
first s k = laid (machine_count_of s) k (take (12 * k) (identifiers s)) (take (19 * k) (terms s))

first_is : (s : List ℕ) (k : ℕ) → first s k ≡ laid (machine_count_of s) k (take (12 * k) (identifiers s)) (take (19 * k) (terms s))
unfolding first
first_is s k = refl

module _ (s : List ℕ) (e : book_verdict s ≡ 0) (k : ℕ) (h : k ≤ entry_count_of s) where
  long : Long k (take (12 * k) (identifiers s)) (take (19 * k) (terms s))
  long =
      let z = own_long s e in
      record {
        twelves = length-take-le (12 * k) (identifiers s) (omega (arith, z.twelves));
        nineteens = length-take-le (19 * k) (terms s) (omega (arith, z.nineteens));
      }

  first_length : length (first s k) ≡ 4 + 31 * k
  unfolding first
  first_length = length_laid (machine_count_of s) long

  first_entry : Same s (entry_count_of s) (first s k) k k
  unfolding first
  first_entry =
      let z = own_long s e in
      record {
        identifier = λ i l.
            laid_identifier (machine_count_of s) long i l
            ∙ part_front (identifiers s) (12 * i) 12 (12 * k) (omega arith) (omega (arith, z.twelves))
            ∙ sym (own_identifier s e i (omega arith));
        term = λ i l.
            laid_term (machine_count_of s) long i
            ∙ part_front (terms s) (19 * i) 19 (19 * k) (omega arith) (omega (arith, z.nineteens))
            ∙ sym (own_term s e i);
      }

  first_accepted : book_verdict (first s k) ≡ 0
  unfolding first
  first_accepted =
      let z = counts s e in
      laid_verdict (machine_count_of s) long (resized z k (omega (arith, z.entry_count_most)))
      ∙ lowest_is (first s k) k
      ∙ lowest_all (fault_at (first s k) k) k
      (λ i l. fault_same s (entry_count_of s) (first s k) k k first_entry i l ∙ no_faults s e i (omega arith))

  first_machines : machine_count_of (first s k) ≡ machine_count_of s
  unfolding first
  first_machines = laid_machine_count (machine_count_of s) long first_accepted

  first_count : entry_count_of (first s k) ≡ k
  unfolding first
  first_count = laid_entry_count (machine_count_of s) long first_accepted

  first_identifiers : identifiers (first s k) ≡ take (12 * k) (identifiers s)
  unfolding first
  first_identifiers = laid_identifiers (machine_count_of s) long first_accepted

  first_terms : terms (first s k) ≡ take (19 * k) (terms s)
  unfolding first
  first_terms = laid_terms (machine_count_of s) long first_accepted

-- ---- entry k grows the first k to the first k + 1

module _ (s : List ℕ) (e : book_verdict s ≡ 0) (k : ℕ) (h : k < entry_count_of s) where
  low : k ≤ entry_count_of s
  low = omega arith

  its_identifier : identifier_of s k ≡ identifier_at s k
  its_identifier = sym (identifier_below s k h)

  first_fault : entry_fault (first s k) (entry_count_of (first s k)) (identifier_of s k) (term_of_entry s k) ≡ 0
  first_fault =
      rw (first_count s e k low, its_identifier)
      (entry_same s (first s k) k (first_entry s e k low).identifier (identifier_at s k) (term_of_entry s k)
      ∙ sym (fault_is s (entry_count_of s) k) ∙ no_faults s e k h)

  more_identifiers : identifiers (first s k) ++ identifier_of s k ≡ take (12 * (k + 1)) (identifiers s)
  more_identifiers =
      let m : 12 * (k + 1) ≡ 12 * k + 12 = omega arith in
      rw (first_identifiers s e k low, its_identifier, own_identifier s e k h, m) (sym (take-add (12 * k) 12 (identifiers s)))

  more_terms : terms (first s k) ++ term_of_entry s k ≡ take (19 * (k + 1)) (terms s)
  more_terms =
      let m : 19 * (k + 1) ≡ 19 * k + 19 = omega arith in
      rw (first_terms s e k low, own_term s e k, m) (sym (take-add (19 * k) 19 (terms s)))

  first_grown : grown (first s k) (identifier_of s k) (term_of_entry s k) ≡ first s (k + 1)
  unfolding grown
  first_grown = rw (first_machines s e k low, first_count s e k low, more_identifiers, more_terms) (sym (first_is s (k + 1)))

first_none : (s : List ℕ) → first s 0 ≡ empty_book (machine_count_of s)
unfolding first
first_none s = refl

first_all : (s : List ℕ) → book_verdict s ≡ 0 → first s (entry_count_of s) ≡ s
unfolding first
first_all s e =
    let z = own_long s e in
    rw (
      take_all (12 * entry_count_of s) (identifiers s) (omega (arith, z.twelves)),
      take_all (19 * entry_count_of s) (terms s) (omega (arith, z.nineteens)),
    )
    (sym (own_laid s e))

-- ---- one after another

module _ (s rest : List ℕ) (e : book_verdict s ≡ 0) (space : 31 * entry_count_of s ≤ length rest) where
  module _ (k : ℕ) (h : k < entry_count_of s) where
    room : 31 ≤ length (drop (31 * k) rest)
    room = rw length-drop (omega arith)

    few : entry_count_of (first s k) < 64
    few = rw (first_count s e k (omega arith)) (omega (arith, (counts s e).entry_count_most))

    answer : adding_number s k (first s k ++ drop (31 * k) rest) ≡ 0
    answer =
        book_answer (first s k) (drop (31 * k) rest) (identifier_of s k) (term_of_entry s k) (4 + 31 * k) (first_length s e k (omega arith))
        (first_accepted s e k (omega arith)) few (first_fault s e k h) room

    next : adding s k (first s k ++ drop (31 * k) rest) ≡ first s (suc k) ++ drop (31 * suc k) rest
    next =
        let m : 31 * k + 31 ≡ 31 * suc k = omega arith in
        book_added (first s k) (drop (31 * k) rest) (identifier_of s k) (term_of_entry s k) (4 + 31 * k) (first_length s e k (omega arith))
        (first_accepted s e k (omega arith)) few (first_fault s e k h) room
        ∙ ap (λ (x : List ℕ). x ++ drop 31 (drop (31 * k) rest)) (first_grown s e k h ∙ ap (first s) (add-one k))
        ∙ ap (λ (x : List ℕ). first s (suc k) ++ x) (drop-drop 31 (31 * k) rest ∙ ap (λ (j : ℕ). drop j rest) m)

  build : (k : ℕ) → k ≤ entry_count_of s → built s rest k ≡ first s k ++ drop (31 * k) rest
  unfolding built up_to
  build zero h = rw (first_none s)
  build (suc k) h =
      let i : built s rest k ≡ first s k ++ drop (31 * k) rest = build k (omega arith) in
      ap (adding s k) i ∙ next k h

  whole : built s rest (entry_count_of s) ≡ s ++ drop (31 * entry_count_of s) rest
  whole = build (entry_count_of s) (le_refl (entry_count_of s)) ∙ ap (λ (x : List ℕ). x ++ drop (31 * entry_count_of s) rest) (first_all s e)

  builds : Builds s rest
  builds =
      record {
        answers = λ k h. rw (build k (omega arith)) (answer k h);
        bytes = whole;
        exactly = λ l.
            let m : length rest ≤ 31 * entry_count_of s = omega arith in
            whole ∙ ap (λ (x : List ℕ). s ++ x) (drop_of_length-le rest m) ∙ append-nil s;
      }

pub builds_every : BuildsEvery
builds_every s rest e space = builds s rest e space
