-- Which tables can be encoded: that of any bytes, the fresh table of a book, and after an event any that could be before it. Assumes nothing.
use Rattle.std.proofs.Common.{Option, None, Some}
use Prim.Native.Nat.{ℕ, ◌+◌, ◌<◌}
use mathlib.Core.Path.{◌≡◌, sym, ap, ◌∙◌, subst}
use mathlib.Core.Bool.{true}
use mathlib.Core.List.{List}
use native.Mathlib.Omega.{arith}
use lib.Dec.{eqb, ltb}
use lib.Ieee.{binary64, fits}
use lib.Ieee.Bits.{of_bits-fits}
use lib.ListN.{length, get_or}
use Rattle.lists.specs.Scan.{tabulate}
use Rattle.lists.proofs.Cases.{by_bool, cond_elim}
use Rattle.lists.proofs.Scans.{length_tabulate, length_pad, tabulate_at}
use Rattle.endian.specs.Endian.{le64}
use Rattle.pricer.specs.declared.Bond.{Bond}
use Rattle.pricer.specs.declared.Terms.TheVariants.{Zero, Fixed}
use Rattle.pricer.specs.Range.{in_range}
use Rattle.book_term.specs.Term.{float_of, checked, term_from, bare_bond, term_of}
use Rattle.book.specs.Book.{term_at}
use Rattle.pricer.specs.Bonds.{no_bond, with_terms}
use Rattle.book.specs.Parts.{entry_count_of, bond_in, term_bond_at, bond_of}
use Rattle.table.specs.declared.Table.{Table}
use Rattle.table.specs.Views.{past_bond}
use Rattle.table.specs.Views as views
use Rattle.validity.specs.Validity.{table_ok}
use Rattle.snapshot.proofs.Changes.{long_from}
use Rattle.table_opening.specs.Opening.{blank, bonds_of, fresh_of}
use Rattle.table_opening.proofs.Counts.{entry_count_most}
use Rattle.table_opening.proofs.Shown.{sized_fresh, bond_fresh}
use Rattle.dispatcher.specs.Step.{step_of}
use Rattle.dispatcher.proofs.Preserved.{step_sized}
use Rattle.dispatcher.proofs.Ready.{passed_sized}
use Rattle.dispatcher.proofs.Fixed.{step_bonds}
use Rattle.snapshot_read.specs.Layout.{coupon_at, yield_at, bond_start, terms_from, bond_from, bonds_from}
use Rattle.snapshot_read.specs.Layout.{decode}
use Rattle.snapshot_round_trip.proofs.Elements.{RatesFit}
use Rattle.snapshot_round_trip.proofs.Decode.{Encodable}

-- ---- the table of any bytes

rates_read : (s : List ℕ) (at : ℕ) → RatesFit (bond_from s at).terms
unfolding bond_from terms_from
rates_read s at =
    by_bool (eqb (get_or s at 0) 0)
    (λ e. rw e (of_bits-fits binary64 (le64 s (at + yield_at))))
    (λ e. rw e (of_bits-fits binary64 (le64 s (at + coupon_at)), of_bits-fits binary64 (le64 s (at + yield_at))))

rates_from : (s : List ℕ) (j : ℕ) → j < 64 → RatesFit (get_or (decode s).bonds j past_bond).terms
unfolding decode bonds_from
rates_from s j k = rw (tabulate_at (λ i. bond_from s (bond_start i)) 64 past_bond 64 j past_bond k) (rates_read s (bond_start j))

pub encodable_from : (s : List ℕ) → Encodable (decode s)
encodable_from s = record { long = long_from s; rates = rates_from s }

-- ---- the fresh table of a book

rates_none : RatesFit no_bond.terms
unfolding fits
rates_none = tt

abbrev Fit : Option Bond → Type 0
Fit r = RatesFit (bond_in r).terms

rates_checked : (b : Bond) → RatesFit b.terms → Fit (checked b)
unfolding checked
rates_checked b f = cond_elim Fit (in_range b) (Some b) None f rates_none

rates_term : (k : ℕ) (b : Bond) (c y : ℕ) → Fit (term_from k b c y)
unfolding term_from
rates_term k b c y =
    cond_elim Fit (eqb k 1) _ _
    (cond_elim Fit (eqb c 0) _ None (rates_checked (with_terms b (Zero (float_of y))) (of_bits-fits binary64 y)) rates_none)
    (cond_elim Fit (eqb k 2) _ None (rates_checked (with_terms b (Fixed (float_of c) (float_of y))) (of_bits-fits binary64 c, of_bits-fits binary64 y))
    rates_none)

rates_of : (s : List ℕ) → Fit (term_of s)
unfolding term_of
rates_of s = cond_elim Fit (eqb (length s) 19) _ None (rates_term (get_or s 0 0) (bare_bond s) (le64 s 3) (le64 s 11)) rates_none

rates_book : (s : List ℕ) (i : ℕ) → RatesFit (bond_of s i).terms
unfolding bond_of term_bond_at
rates_book s i = by_bool (ltb i (entry_count_of s)) (λ e. rw e (rates_of (term_at s (entry_count_of s) i))) (λ e. rw e rates_none)

bonds_long : (s : List ℕ) → length (fresh_of s).bonds ≡ 64
unfolding fresh_of blank bonds_of
bonds_long s =
    let n = entry_count_of s in
    length_pad 64 no_bond (tabulate (bond_of s) n) (omega (arith, length_tabulate (bond_of s) 64 no_bond n, entry_count_most s))

shown_fresh : (s : List ℕ) (j : ℕ) → j < 64 → get_or (fresh_of s).bonds j past_bond ≡ bond_of s j
unfolding views.bond_at
shown_fresh s j k = bond_fresh s j k

rates_fresh : (s : List ℕ) (j : ℕ) → j < 64 → RatesFit (get_or (fresh_of s).bonds j past_bond).terms
rates_fresh s j k = subst (λ (b : Bond). RatesFit b.terms) (sym (shown_fresh s j k)) (rates_book s j)

pub encodable_fresh : (s : List ℕ) → Encodable (fresh_of s)
encodable_fresh s =
    let z = sized_fresh s in
    record {
      long = record { bonds = bonds_long s; jobs = z.jobs; machines = z.machines; told = z.told; pools = z.pools; messages = z.messages };
      rates = rates_fresh s;
    }

-- ---- after an event

module _ (t : Table) (e : List ℕ) (h : Encodable t) where
  passed : table_ok t ≡ true → Encodable (step_of t e).table
  passed k =
      let z = step_sized t e (passed_sized t h.long k) in
      record {
        long =
            record {
              bonds = ap length (step_bonds t e) ∙ h.long.bonds;
              jobs = z.jobs;
              machines = z.machines;
              told = z.told;
              pools = z.pools;
              messages = z.messages;
            };
        rates = λ j l. rw (step_bonds t e) (h.rates j l);
      }

  pub encodable_step : Encodable (step_of t e).table
  unfolding step_of
  encodable_step = by_bool (table_ok t) passed (λ k. rw (k, step_of) h)
