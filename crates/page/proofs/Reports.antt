-- The page of an accepted book tells a run of which demand 3 holds; no other text does;
-- and it is the front of the buffer that the function page leaves.
-- Assumes nothing.
use Prim.Native.Nat.{ℕ, ◌+◌, ◌≤◌}
use mathlib.Core.Path.{◌≡◌, sym, ◌∙◌}
use mathlib.Core.List.{List}
use native.Mathlib.Omega.{arith}
use borrow.Author.Tests.{ltb-false, le-ltb, eq-eqb}
use lib.Dec.{ltb}
use lib.ListN.{length, take, drop}
use lib.Seq.{take-append_seam}
use Rattle.std.specs.Prelude.{Some}
use Rattle.std.proofs.lemmas.Option.{none-some}
use Rattle.lists.proofs.Cases.{by_bool}
use Rattle.text.specs.Text.{over, Written}
use Rattle.book.specs.Book.{book_verdict}
use Rattle.table_opening.specs.Opening.{open_of}
use Rattle.table_opening.proofs.Shown.{opened_number}
use Rattle.dispatcher.specs.Step.{run_of, answers_of}
use Rattle.claims.proofs.Demand3.{demand_3}
use Rattle.claims.proofs.Only.{only}
use Rattle.page.specs.Page.{events_of, text_from, page_of, longest, buffer_of, printed_of, Reported}

module _ (book events : List ℕ) where
  accepted_page : book_verdict book ≡ 0 → page_of book events ≡ text_from book (open_of book).table (events_of events)
  unfolding page_of
  accepted_page ok = rw (eq-eqb (open_of book).number 0 (opened_number book ∙ ok))

  pub page_reported : book_verdict book ≡ 0 → Reported book (events_of events) (page_of book events)
  page_reported ok = record {
    numbers = answers_of (open_of book).table (events_of events);
    table = run_of (open_of book).table (events_of events);
    told = accepted_page ok;
    demand = demand_3 book ok (events_of events);
  }

  pub reported_only : book_verdict book ≡ 0 → (text : List ℕ) → Reported book (events_of events) text → text ≡ page_of book events
  reported_only ok text r =
      let o = only book (events_of events) r.numbers r.table r.demand in
      r.told ∙ rw (o.0, o.1) (sym (accepted_page ok))

  -- a page of r bytes at the front of a buffer
  module _ {d e : List ℕ} {r : ℕ} (w : Written d 0 (page_of book events) e r) where
    pub page_front : take r e ≡ page_of book events
    unfolding over
    page_front =
        let n : r ≡ length (page_of book events) = omega (arith, w.end) in
        rw (n, w.text) (take-append_seam (page_of book events) (drop (0 + length (page_of book events)) d))

    pub front_reported : book_verdict book ≡ 0 → Reported book (events_of events) (take r e)
    front_reported ok = rw page_front (page_reported ok)

  -- a buffer of which a length is answered is long enough
  pub written_long : (d : List ℕ) (n : ℕ) → printed_of book events d ≡ Some n → longest ≤ length d
  unfolding printed_of
  written_long d n q =
      by_bool (ltb (length d) longest)
      (λ e. absurd (none-some n (rw e at q)))
      (λ e. ltb-false (length d) longest e)

  -- a buffer that is long enough: the length of the page is answered, and the page is its front
  module _ (d : List ℕ) (h : longest ≤ length d) where
    pub printed_length : printed_of book events d ≡ Some (length (page_of book events))
    unfolding printed_of
    printed_length = rw (le-ltb (length d) longest h)

    pub page_part : (x : List ℕ) → x ≡ buffer_of book events d → take (length (page_of book events)) x ≡ page_of book events
    unfolding buffer_of
    page_part x q =
        page_front {d = d} {e = x} {r = length (page_of book events)} (record { text = rw (le-ltb (length d) longest h) at q; end = omega arith })
