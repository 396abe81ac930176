-- Document 01, "The program's page": the text that is printed for a book and a list of events. Definitions only.
use Rattle.std.specs.Prelude.{ℕ, ◌+◌, ◌*◌, ◌≡◌, cond, Option, Some, None, List, ◌++◌, eqb, ltb, length, take}
use Rattle.text.specs.Text.{over, joined}
use Rattle.page_lines.specs.Lines.{book_refused_line, open_jobs_line, entry_line}
use Rattle.book.specs.Parts.{entry_count_of, identifier_of}
use Rattle.table.specs.declared.Table.{Table}
use Rattle.table.specs.Views.{job_at}
use Rattle.table_opening.specs.Opening.{open_of}
use Rattle.dispatcher.specs.Step.{run_of, answers_of}
use Rattle.claims.specs.Claims.{Demand3}
use Rattle.dispatcher.specs.Events.{bytes_most, events_in}
use Rattle.page_run.specs.Run.{refusals_most, refusals}

-- "events.bin (at most 60,000 bytes; later ones are not read)"
unfoldable pub events_of : List ℕ → List (List ℕ)
events_of file = events_in (take bytes_most file)

-- "Then each entry prints a line": by the table that the run ended with
unfoldable pub entries_text : List ℕ → Table → List ℕ
entries_text book t = joined (λ i. entry_line (identifier_of book i) (job_at t i)) (entry_count_of book)

-- "Otherwise each refused event prints a line .. Then each entry prints a line": by the numbers that the events were answered, from place 1 on, and
-- by the table after them. Document 02, 2.4: "After an accepted book the program prints "open" and this number as its last line"
unfoldable pub run_text : List ℕ → List ℕ → Table → List ℕ
run_text book numbers t = refusals 1 numbers ++ entries_text book t ++ open_jobs_line t.open_jobs

-- the text of the events run from the table t
abbrev pub text_from : List ℕ → Table → List (List ℕ) → List ℕ
text_from book t events = run_text book (answers_of t events) (run_of t events)

-- "A refused book prints "book refused" and the number, and nothing more. Otherwise .."
unfoldable pub page_of : List ℕ → List ℕ → List ℕ
page_of book events =
    cond (eqb (open_of book).number 0) (text_from book (open_of book).table (events_of events))
    (book_refused_line (open_of book).number)

-- the lines of 64 entries, at most 48 bytes each
abbrev pub entries_most : ℕ
entries_most = 64 * 48

-- the last line, whose number has at most two digits
abbrev pub open_jobs_most : ℕ
open_jobs_most = 8

-- no page is longer (proofs/Longest.antt)
abbrev pub longest : ℕ
longest = refusals_most + entries_most + open_jobs_most

-- what the function page leaves: a buffer shorter than that is refused and unchanged; otherwise the page stands at its front, and the rest of it is
-- unchanged
unfoldable pub buffer_of : List ℕ → List ℕ → List ℕ → List ℕ
buffer_of book events out = cond (ltb (length out) longest) out (over out 0 (page_of book events))

-- what it answers: the length of the page, unless the buffer is refused
unfoldable pub printed_of : List ℕ → List ℕ → List ℕ → Option ℕ
printed_of book events out = cond (ltb (length out) longest) None (Some (length (page_of book events)))

-- what is promised of the text for an accepted book: it tells numbers and a table of which demand 3 holds. These are then the ones that the run
-- answered and returned, and no text but the page tells them (`reported_only`, proofs/Reports.antt)
pub record Reported (book : List ℕ) (events : List (List ℕ)) (text : List ℕ) : Type 0 where
  pub numbers : List ℕ
  pub table : Table
  pub told : text ≡ run_text book numbers table
  pub demand : Demand3 book events numbers table
