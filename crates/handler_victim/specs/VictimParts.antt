-- Document 01, "The table", "Handling, by kind", FISH, AUTH, DENIED and OBSOLETE: what a victim makes of itself and of the cell in its pool that a
-- message to it is about. On a table this is specs/Victim.antt (proofs/Made.antt). Definitions only.
use Rattle.std.specs.Prelude.{Bool, not, cond, ◌||◌, ℕ, max, eqb, leb, Option, None, Some}
use Rattle.table.specs.declared.Message.{Message}
use Rattle.table.specs.Parts.{reserve, release, reserves, message, REQ, SCHEDULE, NOWORK}
use Rattle.protocol_change.specs.declared.Parts.{Parts}
use Rattle.protocol_change.specs.declared.Change.{Change}
use Rattle.protocol_change.specs.Change.{silent}

-- "send t NOWORK": machine b sends it to th
abbrev pub no_work_from : ℕ → ℕ → Message
no_work_from b th = message NOWORK b th 0 0 0

-- the job whose cell a FISH looks at: "the lowest job", 0 where there is none. A number of 64 or more is no job's.
unfoldable pub fish_job : Option ℕ → ℕ
fish_job None = 0
fish_job (Some j) = cond (leb 64 j) 0 j

-- no copy is given: the sender of the FISH gets NOWORK, and nothing else happens
abbrev pub no_copy : Parts → Message → Change
no_copy p m = record { job = p.job; machine = p.machine; cell = p.cell; sent = Some (no_work_from m.to m.from) }

-- "FISH from t: with a reserved copy or an empty pool, send t NOWORK; otherwise the lowest job leaves the pool and becomes the copy reserved for t,
-- and REQ (job, replica, t) goes to the root." The last is the lowest job, none or 64 or more where the pool is empty.
unfoldable pub fish_change : Parts → Message → Option ℕ → Change
fish_change p m None = no_copy p m
fish_change p m (Some j) =
    cond (not (eqb p.machine.reserved_replica 0) || leb 64 j)
    (no_copy p m)
    (record {
      job = p.job;
      machine = reserve p.machine j p.cell m.from;
      cell = 0;
      sent = Some (message REQ m.to 0 j p.cell m.from);
    })

-- "Unless all three match the reserved copy they do nothing.": job, replica and thief of an AUTH, DENIED or OBSOLETE
abbrev pub matched : Parts → Message → Bool
matched p m = reserves p.machine m.job m.replica m.thief

-- what they do where all three match: the reserved copy is gone, the cell of its job is this one, and this message is sent
unfoldable pub let_go : Parts → Message → ℕ → Message → Change
let_go p m cell sent = cond (matched p m) (record { job = p.job; machine = release p.machine; cell = cell; sent = Some sent }) (silent p)

-- "AUTH sends t SCHEDULE (job, replica) and the reserved copy is gone"
unfoldable pub auth_change : Parts → Message → Change
auth_change p m =
    cond (matched p m)
    (record {
      job = p.job;
      machine = release p.machine;
      cell = p.cell;
      sent = Some (message SCHEDULE m.to m.thief m.job m.replica 0);
    })
    (silent p)

-- "DENIED returns the copy to the pool and sends t NOWORK"
unfoldable pub denied_change : Parts → Message → Change
denied_change p m =
    cond (matched p m)
    (record {
      job = p.job;
      machine = release p.machine;
      cell = max p.cell m.replica;
      sent = Some (no_work_from m.to m.thief);
    })
    (silent p)

-- "OBSOLETE discards it and sends t NOWORK"
unfoldable pub obsolete_change : Parts → Message → Change
obsolete_change p m =
    cond (matched p m)
    (record { job = p.job; machine = release p.machine; cell = p.cell; sent = Some (no_work_from m.to m.thief) })
    (silent p)
