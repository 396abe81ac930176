-- `book::verdict` meets its contract: each return is the definition by the tests that led there. Assumes nothing.
use mathlib.Core.Path.{◌≡◌, sym, ◌∙◌}
use mathlib.Core.Bool.{true}
use native.Mathlib.Omega.{arith}
use Rattle.lists.proofs.Rules.{flags}
use Rattle.book.specs.Book.{raw_machine_count, raw_entry_count, sizes_in_range, book_verdict}
use Rattle.book.proofs.Accepted.{sizes}
use borrow.Author.Rules.{rules}
use Rattle.book.proofs.verdict.Goals as goal
use Rattle.book.proofs.verdict.Goals.{After-sizes_in_range, Else-not-sizes_in_range}

-- the test of the sizes, in the definition's words
sizes_is : (c : After-sizes_in_range) → let s = c.args.s.now in
    sizes_in_range (raw_machine_count s) (raw_entry_count s) ≡ c.sizes_in_range.result
sizes_is c = sym (c.sizes_in_range.ensures ∙ rw (c.u16_at-n.ensures, c.u16_at-m.ensures))

passed : (c : Else-not-sizes_in_range) → let s = c.args.s.now in
    sizes_in_range (raw_machine_count s) (raw_entry_count s) ≡ true
passed c = sizes_is (goal.at.Else-not-sizes_in_range c).After-sizes_in_range ∙ c.if-not-sizes_in_range.false

pub returns-then-s-lt4 : goal.returns-then-s-lt4
unfolding book_verdict
returns-then-s-lt4 c = search flags

pub returns-then-not-sizes_in_range : goal.returns-then-not-sizes_in_range
unfolding book_verdict
returns-then-not-sizes_in_range c = rw (sizes_is (goal.at.returns-then-not-sizes_in_range c).After-sizes_in_range ∙ c.if-not-sizes_in_range.true) (search flags)

pub returns-then-s-entries : goal.returns-then-s-entries
unfolding book_verdict
returns-then-s-entries c = rw (passed (goal.at.returns-then-s-entries c).Else-not-sizes_in_range) (rw (← c.u16_at-n.ensures) (search flags))

pub lowest_fault-requires : goal.lowest_fault-requires
lowest_fault-requires c =
    record {
      s_len = search rules;
      n_bound = omega (arith, (sizes _ _ (sym c.sizes_in_range.ensures ∙ c.if-not-sizes_in_range.false)).entry_count_most);
    }

pub returns : goal.returns
unfolding book_verdict
returns c = rw (passed (goal.at.returns c).Else-not-sizes_in_range) (rw (← c.u16_at-n.ensures, ← c.lowest_fault.ensures) (search flags))
