-- Laws of the line of an entry: which line it is, by the state of its job. Assumes nothing.
use Prim.Native.Nat.{ℕ}
use mathlib.Core.Path.{◌≡◌}
use mathlib.Core.Logic.{◌≢◌}
use mathlib.Core.List.{List}
use borrow.Author.Tests.{eq-eqb, ne_eqb}
use Rattle.table.specs.declared.Job.{Job}
use Rattle.table.specs.Parts.{NOT_ADMITTED, OPEN}
use Rattle.page_lines.specs.Lines.{not_admitted_line, open_line, priced_line, entry_line}

module _ (identifier : List ℕ) (v : Job) where
  -- of a job that is not admitted
  pub entry_none : v.state ≡ NOT_ADMITTED → not_admitted_line identifier ≡ entry_line identifier v
  unfolding entry_line
  entry_none e = rw (eq-eqb v.state NOT_ADMITTED e)

  -- of one that is open
  pub entry_open : v.state ≢ NOT_ADMITTED → v.state ≡ OPEN → open_line identifier v.replica ≡ entry_line identifier v
  unfolding entry_line
  entry_open n e = rw (ne_eqb v.state NOT_ADMITTED n, eq-eqb v.state OPEN e)

  -- and of one in any other state, which is priced
  pub entry_priced : v.state ≢ NOT_ADMITTED → v.state ≢ OPEN → priced_line identifier v.price v.replica ≡ entry_line identifier v
  unfolding entry_line
  entry_priced n e = rw (ne_eqb v.state NOT_ADMITTED n, ne_eqb v.state OPEN e)
