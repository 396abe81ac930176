-- What the views of a fresh table show: its bonds are the book's, its machines are alive, and nothing has happened in it; and what opening answers.
-- Assumes nothing.
use Prim.Native.Nat.{ℕ, ◌+◌, ◌*◌, ◌≤◌, ◌<◌}
use mathlib.Core.Path.{◌≡◌, refl, sym}
use mathlib.Core.List.{List, []}
use native.Mathlib.Omega.{arith}
use borrow.Author.Tests.{eq-eqb, eqb-true}
use lib.Dec.{eqb}
use lib.ListN.{length-replicate}
use Rattle.lists.specs.Scan.{pad_to, tabulate}
use Rattle.lists.proofs.Scans.{length_pad, length_tabulate, pad_at, pad_past}
use Rattle.lists.proofs.Cases.{by_bool}
use Rattle.lists.proofs.Count.{get_d_same}
use Rattle.book.specs.Book.{book_verdict}
use Rattle.book.specs.Parts.{machine_count_of, entry_count_of, bond_of}
use Rattle.table.specs.Views.{no_job, idle_machine, no_machine, no_message, past_bond, bond_at, job_at, machine_at, pool_at, told_at, flight}
use Rattle.table.proofs.Views.{Sized}
use Rattle.table.proofs.Messages.{Padded}
use Rattle.table_opening.specs.Opening.{blank, machines_of, fresh_of, open_of}
use Rattle.table_opening.proofs.Entries.{bonds_at}
use Rattle.table_opening.proofs.Counts.{machine_count_most}

module _ (s : List ℕ) where
  pub sized_fresh : Sized (fresh_of s)
  unfolding fresh_of blank machines_of
  sized_fresh = record {
    jobs = length-replicate 64 no_job;
    machines = length_pad 16 no_machine (tabulate (λ k. idle_machine 1) (machine_count_of s))
        (omega (arith, length_tabulate (λ k. idle_machine 1) 16 no_machine (machine_count_of s), machine_count_most s));
    told = length-replicate {A = ℕ} 256 0;
    pools = length-replicate {A = ℕ} 1024 0;
    messages = length-replicate 128 no_message;
    used = omega arith;
  }

  pub machine_count_fresh : (fresh_of s).machine_count ≡ machine_count_of s
  unfolding fresh_of blank
  machine_count_fresh = refl

  pub entry_count_fresh : (fresh_of s).entry_count ≡ entry_count_of s
  unfolding fresh_of blank
  entry_count_fresh = refl

  pub used_fresh : (fresh_of s).in_flight ≡ 0
  unfolding fresh_of blank
  used_fresh = refl

  pub open_fresh : (fresh_of s).open_jobs ≡ 0
  unfolding fresh_of blank
  open_fresh = refl

  pub bond_fresh : (j : ℕ) → j < 64 → bond_at (fresh_of s) j ≡ bond_of s j
  unfolding fresh_of blank bond_at
  bond_fresh j h = bonds_at s j past_bond h

  pub job_fresh : (j : ℕ) → job_at (fresh_of s) j ≡ no_job
  unfolding fresh_of blank job_at
  job_fresh j = get_d_same 64 j no_job

  pub machine_fresh : (m : ℕ) → m < machine_count_of s → machine_at (fresh_of s) m ≡ idle_machine 1
  unfolding fresh_of blank machines_of machine_at
  machine_fresh m h = pad_at (λ k. idle_machine 1) 16 no_machine (machine_count_of s) m no_machine h

  pub machine_past : (m : ℕ) → machine_count_of s ≤ m → m < 16 → machine_at (fresh_of s) m ≡ no_machine
  unfolding fresh_of blank machines_of machine_at
  machine_past m h k = pad_past (λ k. idle_machine 1) 16 no_machine (machine_count_of s) m no_machine h k

  pub told_fresh : (m d : ℕ) → told_at (fresh_of s) m d ≡ 0
  unfolding fresh_of blank told_at
  told_fresh m d = get_d_same 256 (m * 16 + d) 0

  pub pool_fresh : (m j : ℕ) → pool_at (fresh_of s) m j ≡ 0
  unfolding fresh_of blank pool_at
  pool_fresh m j = get_d_same 1024 (m * 64 + j) 0

  pub flight_fresh : flight (fresh_of s) ≡ []
  unfolding fresh_of blank flight
  flight_fresh = refl

  pub padded_fresh : Padded (fresh_of s)
  unfolding Padded pad_to fresh_of blank flight
  padded_fresh = refl

  -- ---- opening a book: its own number, and the fresh table of one that is accepted

  pub opened_number : (open_of s).number ≡ book_verdict s
  unfolding open_of
  opened_number =
      by_bool (eqb (book_verdict s) 0)
      (λ e. rw (e, open_of) (sym (eqb-true (book_verdict s) 0 e)))
      (λ e. rw (e, open_of) refl)

  pub opened_table : book_verdict s ≡ 0 → (open_of s).table ≡ fresh_of s
  unfolding open_of
  opened_table e = rw (eq-eqb (book_verdict s) 0 e, open_of) refl
