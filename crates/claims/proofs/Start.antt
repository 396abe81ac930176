-- The table that a run starts with: the fresh table of an accepted book is one of the invariant, and has the book's terms,
-- no job admitted and no machine dead.
-- Assumes nothing.
use Prim.Native.Nat.{ℕ, ◌≤◌, ◌<◌}
use mathlib.Core.Path.{◌≡◌, refl, ap}
use mathlib.Core.List.{List}
use native.Mathlib.Omega.{arith}
use borrow.Author.Tests.{ltb-true, ltb-false}
use lib.Dec.{ltb}
use Rattle.lists.proofs.Cases.{by_bool}
use Rattle.lists.proofs.Count.{count_to_zero}
use Rattle.book.specs.Book.{book_verdict}
use Rattle.book.specs.Parts.{machine_count_of}
use Rattle.table.specs.declared.Job.{Job}
use Rattle.table.specs.declared.Machine.{Machine}
use Rattle.table.specs.Views.{machine_at}
use Rattle.table_opening.specs.Opening.{fresh_of, open_of}
use Rattle.table_opening.proofs.Counts.{entry_count_most}
use Rattle.table_opening.proofs.Shown.{machine_count_fresh, bond_fresh, job_fresh, machine_fresh, machine_past, pool_fresh, flight_fresh}
use Rattle.table_opening.proofs.Shown.{opened_table}
use Rattle.theorem_fresh.proofs.Passes.{fresh_valid}
use Rattle.theorem_invariant.proofs.Fresh.{Fresh, fresh_invariant}
use Rattle.claims.proofs.Deaths.{gone, deaths}
use Rattle.claims.proofs.Shown.{Start}

module _ (book : List ℕ) where
  -- a part that is 0 in every machine, alive or not there
  no_copy : (f : Machine → ℕ) → ((m : ℕ) → m < machine_count_of book → f (machine_at (fresh_of book) m) ≡ 0)
      → ((m : ℕ) → machine_count_of book ≤ m → m < 16 → f (machine_at (fresh_of book) m) ≡ 0)
      → (m : ℕ) → m < 16 → f (machine_at (fresh_of book) m) ≡ 0
  no_copy f a b m l =
      by_bool (ltb m (machine_count_of book))
      (λ e. a m (ltb-true m (machine_count_of book) e))
      (λ e. b m (ltb-false m (machine_count_of book) e) l)

  fresh : Fresh (fresh_of book)
  fresh = record {
    message = flight_fresh book;
    job = λ j l. job_fresh book j;
    pool = λ m j k l. pool_fresh book m j;
    reserved = no_copy (λ n. n.reserved_replica) (λ m h. rw (machine_fresh book m h) refl) (λ m h l. rw (machine_past book m h l) refl);
    running = no_copy (λ n. n.running_replica) (λ m h. rw (machine_fresh book m h) refl) (λ m h l. rw (machine_past book m h l) refl);
  }

  -- every machine is alive
  no_deaths : deaths (fresh_of book) ≡ 0
  no_deaths =
      count_to_zero (λ d. gone (fresh_of book) d) 16 (λ d l.
      by_bool (ltb d (fresh_of book).machine_count)
      (λ e.
      let n = machine_fresh book d (omega (arith, ltb-true d (fresh_of book).machine_count e, machine_count_fresh book)) in
      rw (e, n) refl)
      (λ e. rw e refl))

  start_fresh : book_verdict book ≡ 0 → Start book (fresh_of book)
  start_fresh ok = record {
    invariant = fresh_invariant (fresh_of book) (fresh_valid book ok) fresh;
    new = λ j l. ap (λ (v : Job). v.state) (job_fresh book j);
    bond = λ j l. bond_fresh book j l;
    none = no_deaths;
    entry_count = entry_count_most book;
  }

  pub start : book_verdict book ≡ 0 → Start book (open_of book).table
  start ok = rw (opened_table book ok) (start_fresh ok)
