-- The lowest job of a machine, read from the pools alone. Definitions only.
use Rattle.std.specs.Prelude.{List, not, cond, ℕ, ◌+◌, ◌*◌, eqb, leb, get_or, Option, None, Some}
use Rattle.lists.specs.Scan.{least}

-- the job of a number: 64 is none's
unfoldable pub job_of : ℕ → Option ℕ
job_of n = cond (leb 64 n) None (Some n)

-- "the lowest job" in the pool of machine m, where it is not empty
unfoldable pub lowest_in : List ℕ → ℕ → Option ℕ
lowest_in pools m = job_of (least (λ j. not (eqb (get_or pools (m * 64 + j) 0) 0)) 64)
