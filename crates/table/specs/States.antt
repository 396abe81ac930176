-- The states of a job, and what a change of one job's state makes of the number of open jobs that the table keeps (document 02, 2.4).
-- Definitions only.
use Rattle.std.specs.Prelude.{ℕ, ◌+◌, ◌-◌, cond, eqb}

-- "not admitted, open or priced"
abbrev pub NOT_ADMITTED : ℕ
NOT_ADMITTED = 0

abbrev pub OPEN : ℕ
OPEN = 1

abbrev pub PRICED : ℕ
PRICED = 2

-- what a job in this state adds to the number of open jobs: 1 where it is open, else 0
unfoldable pub opens : ℕ → ℕ
opens state = cond (eqb state OPEN) 1 0

-- "The table keeps the number of open jobs": it was n, and one job's state was `was` and is `is`
unfoldable pub open_after : ℕ → ℕ → ℕ → ℕ
open_after n was is = n + opens is - opens was
