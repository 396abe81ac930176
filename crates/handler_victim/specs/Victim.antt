-- Document 01, "The table", "Handling, by kind", FISH, AUTH, DENIED and OBSOLETE: what a victim does with a message to it, once it is taken off.
-- m.to is the machine that handles it. Definitions only.
use Rattle.std.specs.Prelude.{Bool, not, cond, ℕ, eqb, leb}
use Rattle.table.specs.declared.Message.{Message}
use Rattle.table.specs.declared.Table.{Table}
use Rattle.table.specs.Views.{machine_at, pool_at, with_machine, with_pool}
use Rattle.table.specs.Messages.{send}
use Rattle.table.specs.Pools.{lowest, returned}
use Rattle.table.specs.Parts.{reserve, release, reserves, message, REQ, SCHEDULE, NOWORK}

-- machine b sends th NOWORK
unfoldable pub no_work : Table → ℕ → ℕ → Table
no_work t b th = send t (message NOWORK b th 0 0 0)

-- job j "leaves the pool" of b "and becomes the copy reserved for" th, "and REQ (job, replica, t) goes to the root"
unfoldable pub grant : Table → ℕ → ℕ → ℕ → Table
grant t b th j =
    send (with_machine (with_pool t b j 0) b (reserve (machine_at t b) j (pool_at t b j) th)) (message REQ b 0 j (pool_at t b j) th)

-- "FISH from t: with a reserved copy or an empty pool, send t NOWORK; otherwise the lowest job .."
unfoldable pub on_fish : Table → Message → Table
on_fish t m =
    cond (not (eqb (machine_at t m.to).reserved_replica 0)) (no_work t m.to m.from)
    (cond (leb 64 (lowest t m.to)) (no_work t m.to m.from)
    (grant t m.to m.from (lowest t m.to)))

-- "Unless all three match the reserved copy they do nothing.": job, replica and thief of an AUTH, DENIED or OBSOLETE
abbrev pub matches : Table → Message → Bool
matches t m = reserves (machine_at t m.to) m.job m.replica m.thief

-- "AUTH sends t SCHEDULE (job, replica) and the reserved copy is gone"
unfoldable pub on_auth : Table → Message → Table
on_auth t m =
    cond (matches t m)
    (send (with_machine t m.to (release (machine_at t m.to))) (message SCHEDULE m.to m.thief m.job m.replica 0))
    t

-- "DENIED returns the copy to the pool and sends t NOWORK"
unfoldable pub on_denied : Table → Message → Table
on_denied t m =
    cond (matches t m)
    (no_work (returned t m.to) m.to m.thief)
    t

-- "OBSOLETE discards it and sends t NOWORK"
unfoldable pub on_obsolete : Table → Message → Table
on_obsolete t m =
    cond (matches t m)
    (no_work (with_machine t m.to (release (machine_at t m.to))) m.to m.thief)
    t
