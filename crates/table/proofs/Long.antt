-- What owning a table tells: each of its lists has its array's length.
-- Assumes nothing.
use Prim.Native.Nat.{◌≤◌}
use mathlib.Core.Path.{◌≡◌}
use mathlib.Core.List.{List}
use lib.ListN.{length}
use mir.Val.{Val}
use denote.Laws.{Is}
use Rattle.table.specs.declared.Table.{Table}
use Rattle.table.specs.contracts.Table.{the_row}
use Rattle.table.proofs.Views.{Sized}

pub record Long (t : Table) : Type 0 where
  pub bonds : length t.bonds ≡ 64
  pub jobs : length t.jobs ≡ 64
  pub machines : length t.machines ≡ 16
  pub told : length t.told ≡ 256
  pub pools : length t.pools ≡ 1024
  pub messages : length t.messages ≡ 128

-- owning a table owns its fields, in the order of their declaration
pub long : (t : Table) (vs : List Val) → Is the_row t vs → Long t
long t vs (_, (_, (machine-count, (entry-count, (bonds, (jobs, (machines, (told, (pools, (in_flight, (messages, _))))))))))) =
    record {
      bonds = bonds.1.0.1;
      jobs = jobs.1.0.1;
      machines = machines.1.0.1;
      told = told.1.0.1;
      pools = pools.1.0.1;
      messages = messages.1.0.1;
    }

pub sized : (t : Table) → Long t → t.in_flight ≤ 128 → Sized t
sized t l h = record { jobs = l.jobs; machines = l.machines; told = l.told; pools = l.pools; messages = l.messages; used = h }
