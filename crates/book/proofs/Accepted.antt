-- What an accepted book gives, for the crates above, which do not look into the reader: its sizes, identifiers that pass and are all different,
-- and terms in range. Assumes nothing.
use Rattle.std.proofs.Common.{Option, None, Some, Result, Ok, Err, IsErr, Bor}
use Rattle.pricer.specs.declared.Bond.{Bond}
use mathlib.Core.Path.{◌≡◌, refl, sym, ap, ◌∙◌}
use mathlib.Core.Bool.{Bool, true, false, not, cond, ◌&&◌, true≢false}
use mathlib.Core.Logic.{◌≢◌, ⊎_elim}
use mathlib.Core.List.{List, []}
use Prim.Native.Nat.{ℕ, suc, ◌+◌, ◌*◌, ◌≤◌, ◌<◌}
use native.Mathlib.Omega.{arith}
use borrow.Author.Tests.{ltb-false, leb-true, le-leb, eqb-true, eq-eqb, ne_eqb, lt-ltb, le-ltb, not-false}
use lib.Dec.{leb, ltb, eqb}
use lib.ListN.{length, get_or}
use Rattle.lists.specs.Scan.{all}
use Rattle.lists.proofs.Cases.{by_eq, and_left, and_right}
use Rattle.endian.specs.Endian.{le16}
use Rattle.lists.proofs.Scans.{all_at}
use Rattle.lists.proofs.Lowest.{lowest_none}
use Rattle.isin.specs.Isin.{verdict_of}
use Rattle.refusal.specs.declared.Refusal.{Refusal}
use Rattle.pricer.specs.Range.{in_range}
use Rattle.book_term.specs.Term.{term_of, term_number}
use Rattle.book_term.proofs.Ranged.{read_in_range}
use Rattle.book.specs.Book.{raw_machine_count, raw_entry_count, sizes_in_range, identifier_at, term_at, repeated, fault_at, lowest_fault}
use Rattle.book.specs.Book.{book_verdict}
use Rattle.pricer.specs.Bonds.{no_bond}
use Rattle.book.specs.Parts.{IsSize, size_at, machine_count_of, entry_count_of, identifier_of, identifier_number, part_of, bond_in, term_bond_at, bond_of}
use Rattle.book.proofs.SameBytes.{same_itself}
use Rattle.book.proofs.Faults.{other, lowest_is}

-- ---- the sizes

pub record Sizes (machines entries : ℕ) : Type 0 where
  pub some : 2 ≤ machines
  pub machine_count_most : machines ≤ 16
  pub entry_count_most : entries ≤ 64

pub sizes : (m n : ℕ) → sizes_in_range m n ≡ true → Sizes m n
unfolding sizes_in_range
sizes m n e =
    let a : leb 2 m && leb m 16 ≡ true = and_left (leb 2 m && leb m 16) (leb n 64) e in
    record {
      some = leb-true 2 m (and_left (leb 2 m) (leb m 16) a);
      machine_count_most = leb-true m 16 (and_right (leb 2 m) (leb m 16) a);
      entry_count_most = leb-true n 64 (and_right (leb 2 m && leb m 16) (leb n 64) e);
    }

-- with another entry count
pub resized : {m : ℕ} {n : ℕ} → Sizes m n → (k : ℕ) → k ≤ 64 → Sizes m k
resized z k h = record { some = z.some; machine_count_most = z.machine_count_most; entry_count_most = h }

-- ---- a choice that is 0 did not take an arm that is not

pub no : (n : ℕ) → suc n ≡ 0 → ⊥
no n e = omega arith

pub past : (t : Bool) (n a : ℕ) → cond t (suc n) a ≡ 0 → (t ≡ false) × (a ≡ 0)
past true n a e = absurd (no n e)
past false n a e = (refl, e)

-- of a book: 1, 2, 3, then x
pub past_sizes : (a b c : Bool) (x : ℕ) → cond a 1 (cond (not b) 2 (cond (not c) 3 x)) ≡ 0 → (a ≡ false) × (b ≡ true) × (c ≡ true) × (x ≡ 0)
past_sizes a b c x e =
    let p = past a 0 _ e in
    let q = past (not b) 1 _ p.1 in
    let r = past (not c) 2 _ q.1 in
    (p.0, not-false b q.0, not-false c r.0, r.1)

-- a number v of its own, then x
pub past_own : (v x : ℕ) → cond (not (eqb v 0)) v x ≡ 0 → (v ≡ 0) × (x ≡ 0)
past_own v x e = by_eq v 0 (λ z. (z, (rw (eq-eqb v 0 z) at e))) (λ d. let z : v ≡ 0 = rw (ne_eqb v 0 d) at e in absurd (d z))

-- of an entry: the identifier's v, 6, then x
pub past_identifier : (v : ℕ) (t : Bool) (x : ℕ) → cond (not (eqb v 0)) v (cond t 6 x) ≡ 0 → (v ≡ 0) × (t ≡ false) × (x ≡ 0)
past_identifier v t x e =
    let p = past_own v _ e in
    let q = past t 5 x p.1 in
    (p.0, q.0, q.1)

-- ---- the book

pub record Accepted (s : List ℕ) : Type 0 where
  pub four : 4 ≤ length s
  pub sizes_in_range : Sizes (raw_machine_count s) (raw_entry_count s)
  pub whole : length s ≡ 4 + 31 * raw_entry_count s
  pub faultless : (i : ℕ) → i < raw_entry_count s → fault_at s (raw_entry_count s) i ≡ 0

pub accepted : (s : List ℕ) → book_verdict s ≡ 0 → Accepted s
unfolding book_verdict
accepted s e =
    let p = past_sizes (ltb (length s) 4) (sizes_in_range (raw_machine_count s) (raw_entry_count s)) (eqb (length s) (4 + 31 * raw_entry_count s)) _ e in
    record {
      four = ltb-false _ _ p.0;
      sizes_in_range = sizes _ _ p.1;
      whole = eqb-true _ _ p.2;
      faultless = lowest_none (fault_at s (raw_entry_count s)) (raw_entry_count s) (sym (lowest_is s (raw_entry_count s)) ∙ p.3);
    }

-- past the sizes and the length, a book's number is that of its lowest faulty entry
pub verdict_lowest : (s : List ℕ) → Sizes (raw_machine_count s) (raw_entry_count s) → length s ≡ 4 + 31 * raw_entry_count s
    → book_verdict s ≡ lowest_fault s (raw_entry_count s)
unfolding book_verdict sizes_in_range
verdict_lowest s z w =
    rw (
      le-ltb (length s) 4 (omega arith),
      le-leb 2 (raw_machine_count s) z.some,
      le-leb (raw_machine_count s) 16 z.machine_count_most,
      le-leb (raw_entry_count s) 64 z.entry_count_most,
      eq-eqb (length s) (4 + 31 * raw_entry_count s) w,
    )

-- ---- an entry without fault

pub record Entry (s : List ℕ) (n i : ℕ) : Type 0 where
  pub passes : verdict_of (identifier_at s i) ≡ 0
  pub new : (k : ℕ) → k < i → identifier_at s k ≢ identifier_at s i
  pub read : term_of (term_at s n i) ≡ Some (term_bond_at s n i)
  pub in_range : in_range (term_bond_at s n i) ≡ true

-- what reads to no fault is the bond of the entry
pub valid : (r : Option Bond) → term_number r ≡ 0 → r ≡ Some (bond_in r)
valid None e = absurd (no 6 e)
valid (Some b) e = refl

entry_of : (s : List ℕ) (n i : ℕ) → fault_at s n i ≡ 0 → Entry s n i
unfolding fault_at repeated term_bond_at
entry_of s n i e =
    let differs : ℕ → Bool = other s (identifier_at s i) in
    let p = past_identifier (verdict_of (identifier_at s i)) (not (all differs i)) _ e in
    let r : term_of (term_at s n i) ≡ Some (bond_in (term_of (term_at s n i))) = valid (term_of (term_at s n i)) p.2 in
    record {
      passes = p.0;
      new = λ k h q.
          let d : differs k ≡ true = all_at differs i k (not-false _ p.1) h in
          let w : differs k ≡ false = rw q (ap not (same_itself (identifier_at s i))) in
          true≢false (sym d ∙ w);
      read = r;
      in_range = read_in_range (term_at s n i) _ r;
    }

pub entry : (s : List ℕ) → Accepted s → (i : ℕ) → i < raw_entry_count s → Entry s (raw_entry_count s) i
entry s a i h = entry_of s (raw_entry_count s) i (a.faultless i h)

-- ---- by the counts that the reader hands out

pub accepted_size : (s : List ℕ) (at : ℕ) → book_verdict s ≡ 0 → size_at s at ≡ le16 s at
unfolding size_at
accepted_size s at e = rw e

pub refused_size : (s : List ℕ) (at : ℕ) → (book_verdict s ≡ 0 → ⊥) → size_at s at ≡ 0
unfolding size_at
refused_size s at e = rw (ne_eqb (book_verdict s) 0 e)

-- a book with an entry is accepted
pub has_entry : (s : List ℕ) (i : ℕ) → i < entry_count_of s → book_verdict s ≡ 0
has_entry s i h =
    by_eq (book_verdict s) 0 (λ e. e) (λ e. absurd (omega (arith, refused_size s 2 e)))

module _ (s : List ℕ) (e : book_verdict s ≡ 0) where
  pub counts : Sizes (machine_count_of s) (entry_count_of s)
  counts = rw (accepted_size s 0 e, accepted_size s 2 e) (accepted s e).sizes_in_range

  pub whole_length : length s ≡ 4 + 31 * entry_count_of s
  whole_length = rw (accepted_size s 2 e) (accepted s e).whole

  pub no_faults : (i : ℕ) → i < entry_count_of s → fault_at s (entry_count_of s) i ≡ 0
  no_faults = rw (accepted_size s 2 e) (accepted s e).faultless

  -- the entry count stands in byte 2
  pub count_byte : get_or s 2 0 ≡ entry_count_of s
  count_byte =
      let n : entry_count_of s ≡ le16 s 2 = accepted_size s 2 e in
      omega (arith, counts.entry_count_most)

pub record Counted (s : List ℕ) (n : ℕ) : Type 0 where
  pub whole : length s ≡ 4 + 31 * n
  pub most : n < 65

pub counted : (s : List ℕ) (i : ℕ) → i < entry_count_of s → Counted s (entry_count_of s)
counted s i h =
    let e = has_entry s i h in
    record { whole = whole_length s e; most = omega (arith, (counts s e).entry_count_most) }

-- a size fits a byte
pub size_small : (s : List ℕ) (at : ℕ) → book_verdict s ≡ 0 → IsSize at → le16 s at < 256
size_small s at e h =
    let z = (accepted s e).sizes_in_range in
    ⊎_elim (λ q. rw q (omega (arith, z.machine_count_most))) (λ q. rw q (omega (arith, z.entry_count_most))) h

-- a refusal hands back no part
pub no_part : (r : Result (Bor (List ℕ)) Refusal) → IsErr r → part_of r ≡ []
no_part (Ok p) h = absurd (true≢false (sym h))
no_part (Err e) h = refl

-- the parts of an entry below the count, and of one that is not
module _ (s : List ℕ) (i : ℕ) where
  pub identifier_whole : i < entry_count_of s → 16 + 12 * i ≤ length s
  identifier_whole h = let k = counted s i h in omega arith

  pub identifier_below : i < entry_count_of s → identifier_at s i ≡ identifier_of s i
  unfolding identifier_of
  identifier_below h = rw (lt-ltb i (entry_count_of s) h)

  pub identifier_past : entry_count_of s ≤ i → [] ≡ identifier_of s i
  unfolding identifier_of
  identifier_past h = rw (le-ltb i (entry_count_of s) h)

  -- a faulty book has no entry
  pub identifier_refused : book_verdict s ≢ 0 → [] ≡ identifier_of s i
  identifier_refused h = identifier_past (omega (arith, refused_size s 2 h))

  pub number_refused : book_verdict s ≢ 0 → book_verdict s ≡ identifier_number s i
  unfolding identifier_number
  number_refused h = rw (ne_eqb (book_verdict s) 0 h)

  pub number_past : book_verdict s ≡ 0 → entry_count_of s ≤ i → 11 ≡ identifier_number s i
  unfolding identifier_number
  number_past e h = rw (eq-eqb (book_verdict s) 0 e, le-ltb i (entry_count_of s) h)

  pub number_below : i < entry_count_of s → 0 ≡ identifier_number s i
  unfolding identifier_number
  number_below h = rw (eq-eqb (book_verdict s) 0 (has_entry s i h), lt-ltb i (entry_count_of s) h)

  pub bond_below : i < entry_count_of s → term_bond_at s (entry_count_of s) i ≡ bond_of s i
  unfolding bond_of
  bond_below h = rw (lt-ltb i (entry_count_of s) h)

  -- with the count in a number of its own
  pub bond_counted : (n : ℕ) → n ≡ entry_count_of s → i < entry_count_of s → term_bond_at s n i ≡ bond_of s i
  bond_counted n e h = rw e (bond_below h)

  pub bond_past : entry_count_of s ≤ i → no_bond ≡ bond_of s i
  unfolding bond_of
  bond_past h = rw (le-ltb i (entry_count_of s) h)
