-- The length of bytes that are those of a table, and each way in which opening and stepping a snapshot end, as their definitions say it.
-- Assumes nothing.
use Prim.Native.Nat.{ℕ}
use mathlib.Core.Path.{◌≡◌, sym, ap, ◌∙◌}
use mathlib.Core.Logic.{◌≢◌}
use mathlib.Core.Bool.{Bool, true, false, true≢false}
use mathlib.Core.List.{List}
use borrow.Author.Tests.{eq-eqb, ne_eqb, eqb-true}
use lib.Dec.{eqb}
use lib.ListN.{length}
use Rattle.lists.proofs.Cases.{by_bool}
use Rattle.table.specs.declared.Table.{Table}
use Rattle.table.specs.declared.Answer.{Answer}
use Rattle.book.specs.Book.{book_verdict}
use Rattle.table_opening.specs.Opening.{open_of}
use Rattle.table_opening.proofs.Shown.{opened_number, opened_table}
use Rattle.validity.specs.Validity.{table_ok}
use Rattle.dispatcher.specs.Step.{step_of}
use Rattle.snapshot_read.specs.Layout.{table_size, decodable, decode}
use Rattle.snapshot_write.specs.Bytes.{encode}
use Rattle.snapshot.specs.Snapshot.{check_of, step_number, step_bytes, open_number, open_bytes}

-- the bytes of a table have its size
pub decodable_length : (s : List ℕ) → decodable s ≡ true → length s ≡ table_size
unfolding decodable
decodable_length s e =
    by_bool (eqb (length s) table_size)
    (λ h. eqb-true (length s) table_size h)
    (λ h. let z : ◌≡◌ {A = Bool} false true = rw h at e in absurd (true≢false (sym z)))

-- ---- one event

-- bytes that are no table
pub no_table_lem : (s e : List ℕ) → decodable s ≡ false → (9 ≡ step_number s e) × (s ≡ step_bytes s e)
unfolding step_number step_bytes
no_table_lem s e f = (rw f, rw f)

module _ (s e : List ℕ) where
  -- bytes that the check refuses
  pub unread : check_of s ≢ 0 → (check_of s ≡ step_number s e) × (s ≡ step_bytes s e)
  unfolding check_of step_number step_bytes step_of
  unread h =
      by_bool (decodable s)
      (λ f. by_bool (table_ok (decode s))
      (λ k. let z : check_of s ≡ 0 = rw (check_of, f, k) in absurd (h z))
      (λ k. (rw (f, k), rw (f, k))))
      (λ f. (rw f, rw f))

  -- bytes that it lets pass stand for the table t
  module _ (t : Table) (f : decodable s ≡ true) (r : t ≡ decode s) where
    number_is : (step_of t e).number ≡ step_number s e
    unfolding step_number
    number_is = rw (f, ← r)

    pub refused : (n : ℕ) → n ≡ (step_of t e).number → n ≢ 0 → (n ≡ step_number s e) × (s ≡ step_bytes s e)
    unfolding step_bytes
    refused n q h = let k : n ≡ step_number s e = q ∙ number_is in (k, rw (← k, ne_eqb n 0 h))

    pub accepted : (u : Table) (out : List ℕ) → 0 ≡ (step_of t e).number → u ≡ (step_of t e).table → out ≡ encode u
        → (0 ≡ step_number s e) × (out ≡ step_bytes s e)
    unfolding step_bytes
    accepted u out z q w = let k : 0 ≡ step_number s e = z ∙ number_is in (k, rw (← k, ← r) (w ∙ ap encode q))

-- ---- opening

-- the opening's answer is a
module _ (book s : List ℕ) (a : Answer) (q : a ≡ open_of book) where
  -- its number is the book's own
  verdict : a.number ≡ book_verdict book
  verdict = ap (λ (x : Answer). x.number) q ∙ opened_number book

  -- a refused book opens no table
  pub book_refused : a.number ≢ 0 → (a.number ≡ open_number book s) × (s ≡ open_bytes book s)
  unfolding open_number open_bytes
  book_refused h = let n : eqb (book_verdict book) 0 ≡ false = ap (λ (k : ℕ). eqb k 0) (sym verdict) ∙ ne_eqb a.number 0 h in
      (rw n verdict, rw (n, n))

  -- nor does an accepted one in a buffer of another length
  pub buffer_refused : a.number ≡ 0 → length s ≢ table_size → (9 ≡ open_number book s) × (s ≡ open_bytes book s)
  unfolding open_number open_bytes
  buffer_refused z h =
      let n : eqb (book_verdict book) 0 ≡ true = eq-eqb (book_verdict book) 0 (sym verdict ∙ z) in
      let l : eqb (length s) table_size ≡ false = ne_eqb (length s) table_size h in (rw (n, l), rw (n, l))

  -- otherwise the buffer holds the bytes of the fresh table
  pub opened : (out : List ℕ) → a.number ≡ 0 → length s ≡ table_size → out ≡ encode a.table → (0 ≡ open_number book s) × (out ≡ open_bytes book s)
  unfolding open_number open_bytes
  opened out z h w =
      let v : book_verdict book ≡ 0 = sym verdict ∙ z in
      let n : eqb (book_verdict book) 0 ≡ true = eq-eqb (book_verdict book) 0 v in
      let l : eqb (length s) table_size ≡ true = eq-eqb (length s) table_size h in
      (rw (n, l), rw (n, l) (w ∙ ap (λ (x : Answer). encode x.table) q ∙ ap encode (opened_table book v)))
