-- A table that passes check 9 gives the code of the events what it asks.
-- Assumes nothing.
use Prim.Native.Nat.{ℕ, ◌≤◌, ◌<◌}
use mathlib.Core.Path.{◌≡◌}
use mathlib.Core.Bool.{true}
use native.Mathlib.Omega.{arith}
use borrow.Author.Tests.{ltb-true, ltb-false, le-leb}
use lib.Dec.{ltb}
use lib.ListN.{get_or-eq_default}
use Rattle.lists.proofs.Cases.{by_bool}
use Rattle.table.specs.declared.Table.{Table}
use Rattle.table.specs.Views.{no_message, job_at, message_at}
use Rattle.table.specs.Parts.{OPEN}
use Rattle.table.proofs.Long.{Long, sized}
use Rattle.table.proofs.Views.{Sized}
use Rattle.table.proofs.Open.{recount_most, recount_some}
use Rattle.validity_message.specs.Message.{empty_message}
use Rattle.validity.specs.Validity.{table_ok}
use Rattle.table.specs.Needs.{Within, Ready}
use Rattle.dispatcher.specs.Apply.{Passed}
use Rattle.protocol_preservation.proofs.Empty.{empty_message_lem}
use Rattle.protocol_preservation.proofs.Ok.{Ok, slot, tests, ok, counts, used_most}
use Rattle.protocol_preservation.proofs.Passed.{facts, message_facts}
use Rattle.protocol_preservation.proofs.Accepted.{in_flight}

-- the lengths are those of the table's arrays, which the code knows
pub passed_sized : (t : Table) → Long t → table_ok t ≡ true → Sized t
passed_sized t l h = sized t l (used_most t (tests t h).sizes)

-- as a record, either way
pub passed : (t : Table) → Sized t → table_ok t ≡ true → Passed t
passed t s h = record { ok = h; jobs = s.jobs; machines = s.machines; told = s.told; pools = s.pools; messages = s.messages }

pub measured : (t : Table) → Passed t → Sized t
measured t p =
    record { jobs = p.jobs; machines = p.machines; told = p.told; pools = p.pools; messages = p.messages; used = used_most t (tests t p.ok).sizes }

within : (t : Table) → Sized t → Ok t → (i : ℕ) → i < t.in_flight → Within (message_at t i)
within t s o i h =
    let g = message_facts t o (message_at t i) (in_flight t s o i h) in
    record { job = g.job; from = g.from; to = g.to; thief = g.thief }

module _ (t : Table) (s : Sized t) (e : table_ok t ≡ true) where
  pub ready : Ready t
  ready =
      let o = ok t s e in
      let f = facts t s o in
      record {
        machine_count = f.machine_count_most;
        entry_count = f.entry_count_most;
        flight = f.used_most;
        messages = within t s o;
        reserved = λ m h. (f.machine m h).reserved_job;
        running = λ m h. (f.machine m h).running_job;
        replicas = λ j h. omega (arith, (f.job j h).replica, f.max_replica_most);
      }

  -- the slots past those in flight are empty
  pub empty_past : (i : ℕ) → t.in_flight ≤ i → message_at t i ≡ no_message
  unfolding message_at
  empty_past i h =
      by_bool (ltb i 128)
      (λ l.
      let c : slot t i ≡ true = (tests t e).slot i (ltb-true _ _ l) in
      let g : empty_message (message_at t i) ≡ true = rw (le-leb t.in_flight i h) at c in
      empty_message_lem (message_at t i) g)
      (λ l. let g : 128 ≤ i = ltb-false _ _ l in get_or-eq_default t.messages no_message (omega (arith, s.messages)))

  -- so what is in a slot has its numbers within the arrays, whichever slot
  pub within_any : (i : ℕ) → Within (message_at t i)
  within_any i =
      by_bool (ltb i t.in_flight)
      (λ l. within t s (ok t s e) i (ltb-true _ _ l))
      (λ l. rw (empty_past i (ltb-false _ _ l)) (record { job = omega arith; from = omega arith; to = omega arith; thief = omega arith }))

-- the number of open jobs, one of which may be job j, fits a byte with one more, and with one fewer where that job is open
pub open_fits : (t : Table) → table_ok t ≡ true → (j : ℕ) → j < 64 → (t.open_jobs < 255) × ((job_at t j).state ≡ OPEN → 1 ≤ t.open_jobs)
open_fits t e j h =
    let c = (counts t e).open_jobs in
    (omega (arith, recount_most t), λ o. omega (arith, recount_some t j h o))
