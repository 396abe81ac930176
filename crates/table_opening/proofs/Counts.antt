-- The counts that the reader hands out are within the table's arrays, for every book. Assumes nothing.
use Prim.Native.Nat.{ℕ, ◌≤◌}
use mathlib.Core.List.{List}
use native.Mathlib.Omega.{arith}
use Rattle.lists.proofs.Cases.{by_eq}
use Rattle.book.specs.Book.{book_verdict}
use Rattle.book.specs.Parts.{machine_count_of, entry_count_of}
use Rattle.book.proofs.Accepted.{accepted, accepted_size, refused_size}

pub machine_count_most : (s : List ℕ) → machine_count_of s ≤ 16
machine_count_most s =
    by_eq (book_verdict s) 0
    (λ e. omega (arith, accepted_size s 0 e, (accepted s e).sizes_in_range.machine_count_most))
    (λ e. omega (arith, refused_size s 0 e))

pub entry_count_most : (s : List ℕ) → entry_count_of s ≤ 64
entry_count_most s =
    by_eq (book_verdict s) 0
    (λ e. omega (arith, accepted_size s 2 e, (accepted s e).sizes_in_range.entry_count_most))
    (λ e. omega (arith, refused_size s 2 e))
