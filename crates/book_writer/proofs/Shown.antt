-- The claims of specs/Shown.antt: reading the result shows the old entries in order and then the new one; the writer's number of an entry is the
-- reader's of the grown book; what other lengths get. Assumes nothing.
use Prim.Native.Nat.{ℕ, ◌+◌, ◌<◌}
use mathlib.Core.Path.{◌≡◌, refl, sym, ap, ◌∙◌}
use mathlib.Core.Bool.{not, cond}
use mathlib.Core.List.{List, ◌++◌}
use native.Mathlib.Omega.{arith}
use borrow.Author.Tests.{leb-true, leb-false, lt-leb, le-ltb, eq-eqb, ne_eqb}
use lib.Dec.{leb, eqb}
use lib.ListN.{length, take, drop}
use lib.Seq.{take_at, drop_at}
use Rattle.lists.proofs.Cases.{by_bool, by_eq}
use Rattle.isin.proofs.Form.{not_twelve}
use Rattle.book_term.specs.Term.{term_of}
use Rattle.book_term.proofs.Ranged.{not_nineteen}
use Rattle.book.specs.Book.{book_verdict, term_at}
use Rattle.book.specs.Parts.{entry_count_of, identifier_of, identifier_number, bond_in, term_bond_at, bond_of}
use Rattle.book.specs.Entry.{entry_fault}
use Rattle.book.proofs.Faults.{by_identifier, by_term}
use Rattle.book.proofs.Accepted.{no, identifier_below, identifier_past, number_below, number_past, bond_below, bond_counted, bond_past}
use Rattle.book_writer.specs.Writer.{grown, book_number, add_bytes}
use Rattle.book_writer.specs.Shown.{with_last, Shows, ShowsEntries, ReadersNumber, OtherLengths}
use Rattle.book_writer.proofs.Grown.{old_entries, new_identifier, new_term, grown_verdict, grown_machines, grown_entries, grown_full}
use Rattle.book_writer.proofs.Answers.{twelve, nineteen, number_adds, adds_size, added_accepted}

-- at each number below n, at n, and at each above
by_last : {A : Type 0} (n : ℕ) (x : A) (f g : ℕ → A) → ((i : ℕ) → i < n → g i ≡ f i) → g n ≡ x → ((i : ℕ) → n < i → g i ≡ f i)
    → (i : ℕ) → g i ≡ with_last n x f i
by_last n x f g below at above i =
    by_eq i n
    (λ q. rw (q, eq-eqb n n refl) at)
    (λ q. rw (ne_eqb i n q) (by_bool (leb i n) (λ b. below i (omega (arith, leb-true i n b))) (λ b. above i (leb-false i n b))))

module _ (s id term : List ℕ) (e : book_verdict s ≡ 0) (few : entry_count_of s < 64) (f : entry_fault s (entry_count_of s) id term ≡ 0) where
  id_length : length id ≡ 12
  id_length = twelve s (entry_count_of s) id term f

  term_length : length term ≡ 19
  term_length = nineteen s (entry_count_of s) id term f

  accepted : book_verdict (grown s id term) ≡ 0
  accepted = grown_verdict s id term e id_length term_length few ∙ f

  one_more : entry_count_of (grown s id term) ≡ entry_count_of s + 1
  one_more = grown_entries s id term e id_length term_length accepted

  -- the bond of entry i is that of its 19 bytes
  bond_is : (i : ℕ) → i < entry_count_of s + 1 → bond_of (grown s id term) i ≡ bond_in (term_of (term_at (grown s id term) (entry_count_of s + 1) i))
  unfolding term_bond_at
  bond_is i h = sym (bond_counted (grown s id term) i (entry_count_of s + 1) (sym one_more) (rw one_more h))

  old_bond : (i : ℕ) → i < entry_count_of s → bond_of (grown s id term) i ≡ bond_of s i
  unfolding term_bond_at
  old_bond i h =
      bond_is i (omega arith) ∙ ap (λ (y : List ℕ). bond_in (term_of y)) ((old_entries s id term e id_length term_length).term i h) ∙ bond_below s i h

  shows : Shows s id term (grown s id term)
  shows =
      let n = entry_count_of s in
      let h = grown s id term in
      record {
        accepted = accepted;
        machines = grown_machines s id term e id_length term_length accepted;
        entries = one_more;
        identifier = by_last n id (identifier_of s) (identifier_of h)
            (λ i k.
            sym (identifier_below h i (rw one_more (omega arith)))
            ∙ (old_entries s id term e id_length term_length).identifier i k ∙ identifier_below s i k)
            (sym (identifier_below h n (rw one_more (omega arith))) ∙ new_identifier s id term e id_length term_length)
            (λ i k. sym (identifier_past h i (rw one_more (omega arith))) ∙ identifier_past s i (omega arith));
        number = by_last n 0 (identifier_number s) (identifier_number h)
            (λ i k. sym (number_below h i (rw one_more (omega arith))) ∙ number_below s i k)
            (sym (number_below h n (rw one_more (omega arith))))
            (λ i k. sym (number_past h i accepted (rw one_more (omega arith))) ∙ number_past s i e (omega arith));
        bond = by_last n (bond_in (term_of term)) (bond_of s) (bond_of h)
            old_bond
            (bond_is n (omega arith) ∙ ap (λ (y : List ℕ). bond_in (term_of y)) (new_term s id term e id_length term_length))
            (λ i k. sym (bond_past h i (rw one_more (omega arith))) ∙ bond_past s i (omega arith));
      }

pub shows_entries : ShowsEntries
shows_entries buffer count id term e =
    let a = number_adds buffer count id term e in
    let h = grown (take count buffer) id term in
    let m : length h ≡ count + 31 = adds_size buffer count id term a in
    let b : add_bytes buffer count id term ≡ h ++ drop (count + 31) buffer =
    added_accepted buffer count id term e ∙ ap (λ (k : ℕ). h ++ drop k buffer) m in
    record {
      shows = rw (b, take_at h (drop (count + 31) buffer) (count + 31) m) (shows (take count buffer) id term a.accepted a.few a.faultless);
      untouched = rw b (drop_at h (drop (count + 31) buffer) (count + 31) m);
    }

pub readers_number : ReadersNumber
unfolding book_number
readers_number s size id term e l t h =
    by_bool (leb 64 (entry_count_of s))
    (λ b. rw (eq-eqb (book_verdict s) 0 e, b) (sym (grown_full s id term (leb-true 64 (entry_count_of s) b))))
    (λ b.
    rw (eq-eqb (book_verdict s) 0 e, b, le-ltb size (length (grown s id term)) h, grown_verdict s id term e l t (leb-false 64 (entry_count_of s) b))
    (own_or_none (entry_fault s (entry_count_of s) id term)))
  where
    own_or_none : (v : ℕ) → cond (not (eqb v 0)) v 0 ≡ v
    own_or_none v = by_eq v 0 (λ q. rw q) (λ q. rw (ne_eqb v 0 q))

-- past the book, the number of a faulty entry is its fault
module _ (s : List ℕ) (size : ℕ) (id term : List ℕ) (e : book_verdict s ≡ 0) (few : entry_count_of s < 64) where
  entry_number : (v : ℕ) → (v ≡ 0 → ⊥) → entry_fault s (entry_count_of s) id term ≡ v → book_number s size id term ≡ v
  unfolding book_number
  entry_number v d q = rw (eq-eqb (book_verdict s) 0 e, lt-leb 64 (entry_count_of s) few, q, ne_eqb v 0 d)

pub other_lengths : OtherLengths
other_lengths =
    record {
      identifier = λ s size id term e few h.
          let v = not_twelve id h in
          entry_number s size id term e few 4 (no 3) (by_identifier s (entry_count_of s) id term (λ z. absurd (omega (arith, v, z))) ∙ v);
      terms = λ s size id term e few p k h.
          entry_number s size id term e few 7 (no 6) (by_term s (entry_count_of s) id term p k ∙ not_nineteen term h);
    }
