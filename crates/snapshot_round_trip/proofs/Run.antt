-- A run that is kept as bytes between its events is the run:
-- bytes that stand for a table stand, after any list of events, for the table of the run from it.
-- Assumes nothing.
use Prim.Native.Nat.{ℕ}
use mathlib.Core.Path.{◌≡◌, refl, ap}
use mathlib.Core.Bool.{true, false}
use mathlib.Core.List.{List, [], ◌∷◌}
use borrow.Author.Tests.{eq-eqb, eqb-true, eqb-false}
use lib.Dec.{eqb}
use lib.ListN.{length}
use Rattle.lists.proofs.Cases.{by_bool}
use Rattle.table.specs.declared.Table.{Table}
use Rattle.book.specs.Book.{book_verdict}
use Rattle.table_opening.specs.Opening.{fresh_of, open_of}
use Rattle.table_opening.proofs.Shown.{opened_table}
use Rattle.dispatcher.specs.Step.{step_of, run_of}
use Rattle.dispatcher.proofs.Events.{step_refused}
use Rattle.snapshot_read.specs.Layout.{table_size, decodable, decode}
use Rattle.snapshot_write.specs.Bytes.{encode}
use Rattle.snapshot.specs.Snapshot.{step_number, step_bytes, open_number, open_bytes, open_jobs_of}
use Rattle.snapshot.proofs.Answers.{decodable_length}
use Rattle.snapshot_round_trip.specs.RoundTrip.{snapshot_after, Represents, SameRun}
use Rattle.snapshot_round_trip.proofs.Decode.{Encodable, decode_encode}
use Rattle.snapshot_round_trip.proofs.Encodable.{encodable_from, encodable_fresh, encodable_step}

-- ---- the question

same_open : (s : List ℕ) (t : Table) → Represents s t → open_jobs_of s ≡ t.open_jobs
unfolding open_jobs_of decode
same_open s t h = rw (eq-eqb (length s) table_size (decodable_length s h.form)) (ap (λ (u : Table). u.open_jobs) h.table)

-- ---- one event

module _ (s : List ℕ) (t : Table) (h : Represents s t) (e : List ℕ) where
  same_number : step_number s e ≡ (step_of t e).number
  unfolding step_number
  same_number = rw (h.form, h.table)

  accepted_bytes : (step_of t e).number ≡ 0 → step_bytes s e ≡ encode (step_of t e).table
  unfolding step_bytes
  accepted_bytes z = rw (same_number, eq-eqb (step_of t e).number 0 z, h.table)

  refused_bytes : eqb (step_of t e).number 0 ≡ false → step_bytes s e ≡ s
  unfolding step_bytes
  refused_bytes z = rw (same_number, z)

  represents_step : Encodable t → Represents (step_bytes s e) (step_of t e).table
  represents_step k =
      by_bool (eqb (step_of t e).number 0)
      (λ z. rw (accepted_bytes (eqb-true (step_of t e).number 0 z)) (decode_encode (step_of t e).table (encodable_step t e k)))
      (λ z. rw (refused_bytes z, step_refused t e (eqb-false (step_of t e).number 0 z)) h)

-- ---- a list of events

after_run : (es : List (List ℕ)) (s : List ℕ) (t : Table) → Represents s t → Encodable t → Represents (snapshot_after s es) (run_of t es)
unfolding snapshot_after run_of
after_run [] s t h k = h
after_run (e ∷ es) s t h k = after_run es (step_bytes s e) (step_of t e).table (represents_step s t h e k) (encodable_step t e k)

same_run : (s : List ℕ) (t : Table) → Represents s t → Encodable t → SameRun s t
same_run s t h k = record {
  after = λ es. after_run es s t h k;
  number = λ es e. same_number (snapshot_after s es) (run_of t es) (after_run es s t h k) e;
  open_jobs = λ es. same_open (snapshot_after s es) (run_of t es) (after_run es s t h k);
}

-- any bytes that can be decoded, also those of a table that fails check 9
pub any_run : (s : List ℕ) → decodable s ≡ true → SameRun s (decode s)
any_run s f = same_run s (decode s) (record { form = f; table = refl }) (encodable_from s)

-- a book opened into a buffer: the run of demand 3, which is from `(open_of book).table`
module _ (book s : List ℕ) (v : book_verdict book ≡ 0) (l : length s ≡ table_size) where
  opens : open_number book s ≡ 0
  unfolding open_number
  opens = rw (eq-eqb (book_verdict book) 0 v, eq-eqb (length s) table_size l)

  opened_bytes : open_bytes book s ≡ encode (fresh_of book)
  unfolding open_bytes
  opened_bytes = rw opens

  pub snapshot_run : SameRun (open_bytes book s) (open_of book).table
  snapshot_run = rw (opened_bytes, opened_table book v)
      (same_run (encode (fresh_of book)) (fresh_of book) (decode_encode (fresh_of book) (encodable_fresh book)) (encodable_fresh book))
