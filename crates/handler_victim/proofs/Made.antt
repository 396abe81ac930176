-- What a victim makes of itself and of a cell in its pool, made on a table, is what specs/Victim.antt says. Assumes nothing.
use mathlib.Core.Path.{◌≡◌}
use mathlib.Core.Bool.{not, cond}
use Prim.Native.Nat.{ℕ, max, ◌<◌}
use lib.Dec.{eqb, leb}
use borrow.Author.Tests.{leb-false}
use native.Mathlib.Omega.{arith}
use Rattle.std.proofs.Common.{Option, None, Some}
use Rattle.lists.proofs.Cases.{by_bool}
use Rattle.table.specs.declared.Machine.{Machine}
use Rattle.table.specs.declared.Message.{Message}
use Rattle.table.specs.declared.Table.{Table}
use Rattle.table.specs.Views.{machine_at, pool_at}
use Rattle.table.specs.Pools.{lowest, enter, returned}
use Rattle.table.specs.Parts.{reserve, release, reserves, message, REQ, SCHEDULE}
use Rattle.protocol_change.specs.Change.{parts_at, send_some, made}
use Rattle.protocol_change.proofs.Made.{made_silent, made_sent, made_machine, made_machine_cell}
use Rattle.handler_victim.specs.Victim.{no_work, grant, on_fish, on_auth, on_denied, on_obsolete}
use Rattle.handler_victim.specs.VictimParts.{no_work_from, fish_job, fish_change, auth_change, denied_change, obsolete_change}
use Rattle.handler_victim.proofs.Reserved.{reserves_job_lem, reserves_replica}

-- the job whose cell a FISH looks at is one of the 64
pub fish_job_below : (low : Option ℕ) → fish_job low < 64
unfolding fish_job
fish_job_below None = omega arith
fish_job_below (Some j) = by_bool (leb 64 j) (λ a. rw a (omega arith)) (λ a. rw a (leb-false 64 j a))

module _ (t : Table) (m : Message) where
  abbrev n : Machine
  n = machine_at t m.to

  abbrev job : ℕ
  job = lowest t m.to

  pub made_fish : (low : Option ℕ) → low ≡ cond (leb 64 job) None (Some job)
      → made t m.to (fish_job low) (fish_change (parts_at t m.to (fish_job low)) m low) ≡ on_fish t m
  unfolding fish_job fish_change on_fish no_work grant message send_some parts_at
  made_fish low e =
      let no = Some (no_work_from m.to m.from) in
      by_bool (leb 64 job)
      (λ b. by_bool (not (eqb n.reserved_replica 0)) (λ a. rw (e, b, a) (made_sent t m.to 0 no)) (λ a. rw (e, b, a) (made_sent t m.to 0 no)))
      (λ b. by_bool (not (eqb n.reserved_replica 0)) (λ a. rw (e, b, b, a) (made_sent t m.to job no))
      (λ a. rw (e, b, b, a)
      (made_machine_cell t m.to job (reserve n job (pool_at t m.to job) m.from) 0 (Some (message REQ m.to 0 job (pool_at t m.to job) m.from)))))

  pub made_auth : made t m.to m.job (auth_change (parts_at t m.to m.job) m) ≡ on_auth t m
  unfolding auth_change on_auth message send_some parts_at
  made_auth =
      by_bool (reserves n m.job m.replica m.thief)
      (λ a. rw a (made_machine t m.to m.job (release n) (Some (message SCHEDULE m.to m.thief m.job m.replica 0))))
      (λ a. rw a (made_silent t m.to m.job))

  pub made_denied : made t m.to m.job (denied_change (parts_at t m.to m.job) m) ≡ on_denied t m
  unfolding denied_change on_denied no_work returned enter message send_some parts_at machine_at
  made_denied =
      by_bool (reserves n m.job m.replica m.thief)
      (λ a.
      rw (a, reserves_job_lem n m.job m.replica m.thief a, reserves_replica n m.job m.replica m.thief a)
      (made_machine_cell t m.to m.job (release n) (max (pool_at t m.to m.job) m.replica) (Some (no_work_from m.to m.thief))))
      (λ a. rw a (made_silent t m.to m.job))

  pub made_obsolete : made t m.to m.job (obsolete_change (parts_at t m.to m.job) m) ≡ on_obsolete t m
  unfolding obsolete_change on_obsolete no_work message send_some parts_at
  made_obsolete =
      by_bool (reserves n m.job m.replica m.thief)
      (λ a. rw a (made_machine t m.to m.job (release n) (Some (no_work_from m.to m.thief))))
      (λ a. rw a (made_silent t m.to m.job))
