-- How long a line is at most. Assumes nothing.
use Prim.Native.Nat.{ℕ, ◌+◌, ◌≤◌, ◌<◌}
use mathlib.Core.List.{List, ◌++◌}
use native.Mathlib.Omega.{arith}
use Rattle.std.proofs.lemmas.Bool.Decides.{nat_tests}
use lib.ListN.{length, length-append}
use Rattle.text.specs.Text.{ascii, decimal, hex16}
use Rattle.text.proofs.Digits.{two_digits, five_digits, length_hex}
use Rattle.table.specs.declared.Job.{Job}
use Rattle.page_lines.specs.Lines.{line_end, book_refused_line, event_refused_line, not_admitted_line, open_line, priced_line, open_jobs_line, entry_line}

pub line_end_most : (w : List ℕ) (n : ℕ) → n < 100 → length (line_end w n) ≤ length w + 3
unfolding line_end
line_end_most w n h = omega (arith, length-append (w ++ decimal n) (ascii "\n"), length-append w (decimal n), two_digits n h)

pub book_most : (n : ℕ) → n < 100 → length (book_refused_line n) ≤ 16
unfolding book_refused_line
book_most n h = line_end_most (ascii "book refused ") n h

pub open_jobs_most_lem : (n : ℕ) → n < 100 → length (open_jobs_line n) ≤ 8
unfolding open_jobs_line
open_jobs_most_lem n h = line_end_most (ascii "open ") n h

pub event_most : (place n : ℕ) → n < 100 → length (event_refused_line place n) ≤ 23
unfolding event_refused_line
event_most place n h =
    let e = ascii "event " in
    let t = line_end (ascii " refused ") n in
    omega (arith, length-append (e ++ decimal place) t, length-append e (decimal place), five_digits place, line_end_most (ascii " refused ") n h)

-- the lines of an entry, by its state
module _ (identifier : List ℕ) where
  pub not_admitted_most : length (not_admitted_line identifier) ≤ length identifier + 36
  unfolding not_admitted_line
  not_admitted_most = omega (arith, length-append identifier (ascii " not admitted\n"))

  pub open_most : (r : ℕ) → r < 100 → length (open_line identifier r) ≤ length identifier + 36
  unfolding open_line
  open_most r h = omega (arith, length-append identifier (line_end (ascii " open replica ") r), line_end_most (ascii " open replica ") r h)

  pub priced_most : (p r : ℕ) → r < 100 → length (priced_line identifier p r) ≤ length identifier + 36
  unfolding priced_line
  priced_most p r h =
      let w = ascii " priced " in
      let t = line_end (ascii " replica ") r in
      omega (
        arith,
        length-append (identifier ++ w ++ hex16 p) t,
        length-append (identifier ++ w) (hex16 p),
        length-append identifier w,
        length_hex p,
        line_end_most (ascii " replica ") r h,
      )

  pub entry_most : (v : Job) → v.replica < 100 → length (entry_line identifier v) ≤ length identifier + 36
  unfolding entry_line
  entry_most v h = grind (arith, nat_tests, not_admitted_most, open_most v.replica h, priced_most v.price v.replica h)
