-- The fresh table of every accepted book passes check 9, and what stands beside a refused book's number does not.
-- Assumes nothing.
use Prim.Native.Nat.{ℕ, ◌≤◌, ◌<◌}
use mathlib.Core.Path.{◌≡◌, refl, sym, ap, ◌∙◌}
use mathlib.Core.Bool.{true, false}
use mathlib.Core.List.{List}
use native.Mathlib.Omega.{arith}
use borrow.Author.Tests.{ltb-true, ltb-false, le-leb}
use lib.Dec.{eqb, ltb}
use lib.Ieee.{to_bits}
use Rattle.lists.proofs.Cases.{by_bool}
use Rattle.lists.proofs.Count.{count_to_zero}
use Rattle.pricer.specs.Range.{in_range}
use Rattle.book.specs.Book.{book_verdict}
use Rattle.pricer.specs.Bonds.{no_bond}
use Rattle.book.specs.Parts.{machine_count_of, entry_count_of, term_bond_at, bond_of}
use Rattle.book.proofs.Accepted.{accepted, accepted_size, entry, bond_below, bond_past}
use Rattle.table.specs.Views.{job_at, machine_at}
use Rattle.table.specs.Parts.{recount, OPEN}
use Rattle.table.proofs.Views.{Sized}
use Rattle.validity_element.specs.Element.{empty_bond, bond_ok, machine_ok}
use Rattle.validity.specs.Validity.{max_replica, elements_ok, table_ok}
use Rattle.protocol_preservation.proofs.Ok.{Ok, Counts, Valid, passes}
use Rattle.table_opening.specs.Opening.{blank, fresh_of, no_table, open_of}
use Rattle.table_opening.proofs.Counts.{machine_count_most, entry_count_most}
use Rattle.table_opening.proofs.Shown.{sized_fresh, machine_count_fresh, entry_count_fresh, used_fresh, bond_fresh, job_fresh, machine_fresh}
use Rattle.table_opening.proofs.Shown.{open_fresh, machine_past, told_fresh, pool_fresh, flight_fresh, padded_fresh, opened_table}

no_bond_empty : empty_bond no_bond ≡ true
unfolding to_bits
no_bond_empty = refl

module _ (s : List ℕ) (e : book_verdict s ≡ 0) where
  two : 2 ≤ machine_count_of s
  two = omega (arith, accepted_size s 0 e, (accepted s e).sizes_in_range.some)

  -- an entry's bond is in range
  in_range_lem : (j : ℕ) → j < entry_count_of s → in_range (bond_of s j) ≡ true
  in_range_lem j h =
      let n = accepted_size s 2 e in
      ap in_range (sym (bond_below s j h) ∙ ap (λ (k : ℕ). term_bond_at s k j) n) ∙ (entry s (accepted s e) j (omega arith)).in_range

  bond : (j : ℕ) → bond_ok (entry_count_of s) j (bond_of s j) ≡ true
  bond j =
      by_bool (ltb j (entry_count_of s))
      (λ l. rw l (in_range_lem j (ltb-true _ _ l)))
      (λ l. rw (l, ← bond_past s j (ltb-false _ _ l)) no_bond_empty)

  machine : (m : ℕ) → m < 16 → machine_ok (machine_count_of s) (entry_count_of s) (max_replica (fresh_of s)) m (machine_at (fresh_of s) m) ≡ true
  machine m h =
      by_bool (ltb m (machine_count_of s))
      (λ l. let q = machine_fresh s m (ltb-true _ _ l) in simp (q, l, le-leb 0 (machine_count_of s) (omega arith)))
      (λ l. let q = machine_past s m (ltb-false _ _ l) h in simp q)

  fresh_ok : Ok (fresh_of s)
  fresh_ok =
      let q = machine_fresh s 0 (omega (arith, two)) in
      record {
        sizes =
            simp (
              machine_count_fresh s,
              entry_count_fresh s,
              used_fresh s,
              le-leb 2 (machine_count_of s) two,
              le-leb (machine_count_of s) 16 (machine_count_most s),
              le-leb (entry_count_of s) 64 (entry_count_most s),
            );
        bond = λ j h. let r = bond_fresh s j h in simp (entry_count_fresh s, r) (bond j);
        job = λ j h. simp (job_fresh s);
        machine = λ m h. simp (machine_count_fresh s, entry_count_fresh s) (machine m h);
        pool = λ m j h k. simp (pool_fresh s);
        messages = rw (flight_fresh s) tt;
        padded = padded_fresh s;
        root = simp q;
        told = λ m d h k. simp (told_fresh s);
      }

  -- no job is open
  fresh_counts : Counts (fresh_of s)
  unfolding recount
  fresh_counts = record {
    open_jobs = open_fresh s ∙ sym (count_to_zero (λ j. eqb (job_at (fresh_of s) j).state OPEN) 64 (λ j h. simp (job_fresh s)));
  }

  pub fresh_valid : Valid (fresh_of s)
  fresh_valid = record { sized = sized_fresh s; ok = fresh_ok; counts = fresh_counts }

  pub fresh_passes : table_ok (fresh_of s) ≡ true
  fresh_passes = passes (fresh_of s) (sized_fresh s) fresh_ok fresh_counts

  -- of the table as it is opened
  pub opened_passes : table_ok (open_of s).table ≡ true
  opened_passes = rw (opened_table s e) fresh_passes

  pub opened_sized : Sized (open_of s).table
  opened_sized = rw (opened_table s e) (sized_fresh s)

-- its machine count is outside its range
pub no_table_fails : table_ok no_table ≡ false
unfolding table_ok elements_ok no_table blank
no_table_fails = refl
