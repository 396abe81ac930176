-- How long the lines of a page are at most, and the page itself: length (page_of book events) ≤ longest. Assumes nothing.
use Prim.Native.Nat.{ℕ, ◌+◌, ◌*◌, ◌≤◌, ◌<◌}
use mathlib.Core.Path.{◌≡◌, sym, ◌∙◌}
use mathlib.Core.Bool.{true}
use mathlib.Core.List.{List, [], ◌++◌}
use native.Mathlib.Omega.{arith}
use Rattle.std.proofs.lemmas.Bool.Decides.{nat_tests}
use borrow.Author.Tests.{eqb-true}
use lib.Dec.{eqb}
use lib.ListN.{length, take, drop, length-append, length-take}
use Rattle.lists.proofs.Cases.{by_bool}
use Rattle.lists.proofs.Scans.{length_tabulate}
use Rattle.text.specs.Text.{joined}
use Rattle.text.proofs.Over.{joined_most}
use Rattle.page_lines.specs.Lines.{open_jobs_line, entry_line}
use Rattle.page_lines.proofs.Longest.{book_most, open_jobs_most_lem, entry_most}
use Rattle.book.specs.Book.{identifier_at, book_verdict}
use Rattle.book.specs.Parts.{entry_count_of, identifier_of}
use Rattle.table.specs.declared.Table.{Table}
use Rattle.table.specs.Views.{job_at}
use Rattle.table.proofs.Views.{Sized}
use Rattle.table.proofs.Open.{recount_most}
use Rattle.validity.specs.Validity.{table_ok}
use Rattle.protocol_preservation.proofs.Ok.{ok, counts}
use Rattle.protocol_preservation.proofs.Passed.{facts}
use Rattle.table_opening.specs.Opening.{open_of}
use Rattle.table_opening.proofs.Counts as sizes
use Rattle.dispatcher.specs.Step.{run_of, answers_of}
use Rattle.dispatcher.proofs.Preserved.{run_ok, run_sized}
use Rattle.dispatcher.specs.Events.{bytes_most, event_at, event_count, events_in}
use Rattle.page_run.specs.Run.{refusals_most, refusals}
use Rattle.page_run.proofs.Turns.{refusals_most_lem}
use Rattle.page.specs.Page.{events_of, entries_text, run_text, text_from, page_of, entries_most, longest}
use Rattle.table_opening.proofs.Shown.{opened_number}
use Rattle.theorem_fresh.proofs.Passes.{opened_passes, opened_sized}
use Rattle.page.proofs.Opened.{number_small}

pub identifier_most : (book : List ℕ) (i : ℕ) → length (identifier_of book i) ≤ 12
unfolding identifier_of identifier_at
identifier_most book i = grind (arith, nat_tests, length-take 12 (drop (4 + 12 * i) book))

-- ---- the entries

-- the line of entry i
abbrev pub line_of : List ℕ → Table → ℕ → List ℕ
line_of book t i = entry_line (identifier_of book i) (job_at t i)

module _ (book : List ℕ) (t : Table) (s : Sized t) (h : table_ok t ≡ true) where
  pub replica_small : (i : ℕ) → i < 64 → (job_at t i).replica < 100
  replica_small i l = let f = facts t s (ok t s h) in omega (arith, (f.job i l).replica, f.max_replica_most)

  pub line_most : (i : ℕ) → i < 64 → length (line_of book t i) ≤ 48
  line_most i l = omega (arith, entry_most (identifier_of book i) (job_at t i) (replica_small i l), identifier_most book i)

  pub lines_most : (n : ℕ) → n ≤ 64 → length (joined (line_of book t) n) ≤ n * 48
  lines_most n l = joined_most (line_of book t) 48 n (λ i k. line_most i (omega arith))

  pub open_small : t.open_jobs < 100
  open_small = omega (arith, (counts t h).open_jobs, recount_most t)

  pub entries_most_lem : length (entries_text book t) ≤ entries_most
  unfolding entries_text
  entries_most_lem = omega (arith, lines_most (entry_count_of book) (sizes.entry_count_most book), sizes.entry_count_most book)

-- ---- the events

pub listed_most : (t : Table) (s : List ℕ) → length s ≤ bytes_most → length (refusals 1 (answers_of t (events_in s))) ≤ refusals_most
unfolding events_in
listed_most t s h =
    omega (arith, refusals_most_lem 1 t (events_in s), length_tabulate (event_at s) 0 [] (event_count s))

-- ---- the page

pub run_most : (book : List ℕ) (t : Table) (s : List ℕ) → Sized t → table_ok t ≡ true → length s ≤ bytes_most
    → length (text_from book t (events_in s)) ≤ longest
unfolding run_text
run_most book t s z h l =
    let es = events_in s in
    let u = run_of t es in
    let front = refusals 1 (answers_of t es) in
    let us = run_sized t es z in
    let ok = run_ok t es z h in
    omega (
      arith,
      length-append (front ++ entries_text book u) (open_jobs_line u.open_jobs),
      length-append front (entries_text book u),
      listed_most t s l,
      entries_most_lem book u us ok,
      open_jobs_most_lem u.open_jobs (open_small book u us ok),
    )

pub page_most : (book events : List ℕ) → length (page_of book events) ≤ longest
unfolding page_of events_of
page_most book events =
    by_bool (eqb (open_of book).number 0)
    (λ e.
    let v : book_verdict book ≡ 0 = sym (opened_number book) ∙ eqb-true _ _ e in
    let l : length (take bytes_most events) ≤ bytes_most = omega (arith, length-take bytes_most events) in
    rw (e, page_of) (run_most book (open_of book).table (take bytes_most events) (opened_sized book v) (opened_passes book v) l))
    (λ e. let m = book_most (open_of book).number (omega (arith, number_small book)) in rw (e, page_of) (omega arith))
