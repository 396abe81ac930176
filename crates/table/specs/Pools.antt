-- The pools: a copy enters, the lowest job, the reserved copy returns, a pool is cleared. Definitions only.
use Rattle.std.specs.Prelude.{not, ℕ, max, eqb}
use Rattle.lists.specs.Scan.{least, up_to}
use Rattle.table.specs.declared.Table.{Table}
use Rattle.table.specs.Views.{machine_at, pool_at, with_machine, with_pool}
use Rattle.table.specs.Parts.{release}

-- "Adding a copy to a pool keeps the larger replica number."
unfoldable pub enter : Table → ℕ → ℕ → ℕ → Table
enter t m j r = with_pool t m j (max (pool_at t m j) r)

-- the reserved copy of machine m returns to its pool
unfoldable pub returned : Table → ℕ → Table
returned t m = with_machine (enter t m (machine_at t m).reserved_job (machine_at t m).reserved_replica) m (release (machine_at t m))

-- "the lowest job" in the pool of machine m, or 64 where it is empty
unfoldable pub lowest : Table → ℕ → ℕ
lowest t m = least (λ j. not (eqb (pool_at t m j) 0)) 64

-- "its pool .. cleared": that of machine m
unfoldable pub clear_pool : Table → ℕ → Table
clear_pool t m = up_to (λ j u. with_pool u m j 0) 64 t
