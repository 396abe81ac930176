-- Document 01, "The program's page": the lines of the events that are refused. Definitions only.
use Rattle.std.specs.Prelude.{ℕ, ◌+◌, ◌*◌, ◌≡◌, cond, List, [], ◌∷◌, ◌++◌, eqb}
use Rattle.text.specs.Text.{Written}
use Rattle.page_lines.specs.Lines.{event_refused_line}
use Rattle.table.specs.declared.Table.{Table}
use Rattle.page_run.specs.declared.Ran.{Ran}

-- the lines of 20,000 refused events, at most 23 bytes each
abbrev pub refusals_most : ℕ
refusals_most = 20000 * 23

-- an accepted event, answered 0, prints nothing
unfoldable pub refusal : ℕ → ℕ → List ℕ
refusal place n = cond (eqb n 0) [] (event_refused_line place n)

-- "Otherwise each refused event prints a line": those of events that were answered these numbers, the first of which has this place
unfoldable pub refusals : ℕ → List ℕ → List ℕ
refusals place [] = []
refusals place (n ∷ ns) = refusal place n ++ refusals (place + 1) ns

-- what a function leaves that runs events on a table and writes the lines w over the buffer from position at on:
-- the table u, and the position after w
pub record Listed (before : List ℕ) (at : ℕ) (w : List ℕ) (u : Table) (after : List ℕ) (r : Ran) : Type 0 where
  pub table : r.table ≡ u
  pub lines : Written before at w after r.length
