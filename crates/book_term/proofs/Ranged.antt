-- A term that is read has a bond in range, and one that has not 19 bytes is not read: the laws by which crates above use the reader.
-- Assumes nothing.
use Rattle.std.proofs.Common.{Option, None, Some}
use mathlib.Core.Path.{◌≡◌, subst}
use mathlib.Core.Bool.{true}
use mathlib.Core.List.{List}
use Prim.Native.Nat.{ℕ}
use borrow.Author.Tests.{ne_eqb}
use lib.Dec.{eqb}
use lib.ListN.{length, get_or}
use Rattle.lists.proofs.Cases.{by_bool, cond_elim}
use Rattle.endian.specs.Endian.{le64}
use Rattle.pricer.specs.Range.{in_range}
use Rattle.pricer.specs.declared.Bond.{Bond}
use Rattle.book_term.specs.Term.{checked, term_from, bare_bond, term_of, term_number}

-- what is read, if anything, is in range
abbrev Fine : Option Bond → Type 0
Fine None = Unit {0}
Fine (Some b) = in_range b ≡ true

checked_fine : (b : Bond) → Fine (checked b)
unfolding checked
checked_fine b = by_bool (in_range b) (λ e. rw e e) (λ e. rw e tt)

from_fine : (k : ℕ) (b : Bond) (c y : ℕ) → Fine (term_from k b c y)
unfolding term_from
from_fine k b c y =
    cond_elim Fine (eqb k 1) _ _ (cond_elim Fine (eqb c 0) _ None (checked_fine _) tt) (cond_elim Fine (eqb k 2) _ None (checked_fine _) tt)

term_fine : (s : List ℕ) → Fine (term_of s)
unfolding term_of
term_fine s = cond_elim Fine (eqb (length s) 19) _ None (from_fine (get_or s 0 0) (bare_bond s) (le64 s 3) (le64 s 11)) tt

pub read_in_range : (s : List ℕ) (b : Bond) → term_of s ≡ Some b → in_range b ≡ true
read_in_range s b e = subst Fine e (term_fine s)

pub not_nineteen : (s : List ℕ) → (length s ≡ 19 → ⊥) → term_number (term_of s) ≡ 7
unfolding term_of
not_nineteen s h = rw (ne_eqb (length s) 19 h)
