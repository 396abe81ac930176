-- What the function page leaves, by the length of its buffer and the number of the book. Assumes nothing.
use Prim.Native.Nat.{ℕ, ◌-◌, ◌≤◌, ◌<◌}
use mathlib.Core.Path.{◌≡◌, sym, ap, ◌∙◌}
use mathlib.Core.List.{List}
use native.Mathlib.Omega.{arith}
use borrow.Author.Tests.{lt-ltb, le-ltb, eq-eqb, ne_eqb}
use lib.ListN.{length, take}
use lib.Seq.{take_all}
use Rattle.std.specs.Prelude.{Some, None}
use Rattle.std.proofs.lemmas.Option.{same_Some}
use Rattle.text.specs.Text.{Written}
use Rattle.text.specs.declared.Cursor.{Cursor}
use Rattle.text.specs.Cursor.{Writes}
use Rattle.text.proofs.Over.{then_two}
use Rattle.page_lines.specs.Lines.{book_refused_line, open_jobs_line, entry_line}
use Rattle.book.specs.Book.{book_verdict}
use Rattle.book.specs.Parts.{identifier_of}
use Rattle.table.specs.declared.Table.{Table}
use Rattle.table.specs.Views.{job_at}
use Rattle.table_opening.specs.Opening.{fresh_of, open_of}
use Rattle.table_opening.proofs.Shown.{opened_number, opened_table}
use Rattle.dispatcher.specs.Step.{run_of, answers_of}
use Rattle.page_run.specs.declared.Ran.{Ran}
use Rattle.dispatcher.specs.Events.{bytes_most, events_in}
use Rattle.page_run.specs.Run.{refusals, Listed}
use Rattle.page.specs.Page.{events_of, entries_text, run_text, text_from, page_of, longest, buffer_of, printed_of}
use Rattle.page.proofs.Longest.{line_of, page_most}
use Rattle.page.proofs.Reports.{printed_length, written_long}

-- what is answered, and the buffer that is left: of one that is too short, and with a page of r bytes
pub short_printed : (book events d : List ℕ) → length d < longest → None ≡ printed_of book events d
unfolding printed_of
short_printed book events d h = rw (lt-ltb (length d) longest h)

pub short_buffer : (book events d : List ℕ) → length d < longest → d ≡ buffer_of book events d
unfolding buffer_of
short_buffer book events d h = rw (lt-ltb (length d) longest h)

module _ (book events : List ℕ) {d e : List ℕ} {r : ℕ} (h : longest ≤ length d) (w : Written d 0 (page_of book events) e r) where
  pub page_printed : Some r ≡ printed_of book events d
  unfolding printed_of
  page_printed = rw (le-ltb (length d) longest h) (ap (λ (n : ℕ). Some n) (w.end ∙ omega arith))

  pub page_buffer : e ≡ buffer_of book events d
  unfolding buffer_of
  page_buffer = rw (le-ltb (length d) longest h) w.text

-- what is answered is within the buffer, whatever its length
pub printed_fits : (book events d : List ℕ) (n : ℕ) → printed_of book events d ≡ Some n → n ≤ length d
printed_fits book events d n q =
    let h = written_long book events d n q in
    let l = same_Some _ _ (sym (printed_length book events d h) ∙ q) in
    omega (arith, page_most book events)

-- the page of a refused book, and that of an accepted one
module _ (book events : List ℕ) {d : List ℕ} {e : List ℕ} {r : ℕ} where
  pub refused_written : (n : ℕ) → n ≡ book_verdict book → 0 < n → Written d 0 (book_refused_line n) e r → Written d 0 (page_of book events) e r
  unfolding page_of
  refused_written n q h w =
      let m = q ∙ sym (opened_number book) in
      rw (ne_eqb (open_of book).number 0 (λ z. omega arith), page_of) (rw m at w)

  pub accepted_written : 0 ≡ book_verdict book → (t : Table) (s : List ℕ) → t ≡ fresh_of book → s ≡ take bytes_most events
      → Written d 0 (text_from book t (events_in s)) e r
      → Written d 0 (page_of book events) e r
  unfolding page_of events_of
  accepted_written q t s f g w =
      let v = sym q in
      rw (eq-eqb (open_of book).number 0 (opened_number book ∙ v), page_of) (rw (g, f ∙ sym (opened_table book v)) at w)

-- all bytes, where there are fewer than 60,000
pub few_bytes : (s : List ℕ) → length s < bytes_most → take (length s - 0) s ≡ take bytes_most s
few_bytes s h = take_all (length s - 0) s (omega arith) ∙ sym (take_all bytes_most s (omega arith))

-- the line of an entry, whose identifier is that part of the book
pub line_written : (book : List ℕ) (t : Table) (i : ℕ) (identifier : List ℕ) {a b : Cursor}
    → identifier ≡ identifier_of book i
    → Writes a (entry_line identifier (job_at t i)) b → Writes a (line_of book t i) b
line_written book t i identifier q w = rw q at w

-- the lines of the entries after those of the refused events, and then the last line
pub run_written : (book : List ℕ) (t : Table) (es : List (List ℕ)) {d e f g : List ℕ} {r : Ran} {n m : ℕ}
    → Listed d 0 (refusals 1 (answers_of t es)) (run_of t es) e r → Written e r.length (entries_text book r.table) f n
    → Written f n (open_jobs_line r.table.open_jobs) g m → length (text_from book t es) ≤ length d → Written d 0 (text_from book t es) g m
unfolding run_text
run_written book t es p q l h = then_two p.lines (rw p.table at q) (rw p.table at l) (omega arith)
