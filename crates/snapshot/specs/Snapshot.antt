-- What is answered for a snapshot, and what its bytes are afterwards: document 01's numbers and tables, for the bytes of `snapshot_read`'s layout.
-- "A refusal returns its number; table and buffers are unchanged". Definitions only.
use Rattle.std.specs.Prelude.{ℕ, cond, List, eqb, length, get_or}
use Rattle.book.specs.Book.{book_verdict}
use Rattle.validity.specs.Validity.{table_ok}
use Rattle.table_opening.specs.Opening.{fresh_of}
use Rattle.dispatcher.specs.Step.{step_of}
use Rattle.snapshot_read.specs.Layout.{open_start, table_size, decodable, decode}
use Rattle.snapshot_write.specs.Bytes.{encode}

-- "Table, before any event | 9"; bytes that are no table get 9 too
unfoldable pub check_of : List ℕ → ℕ
check_of s = cond (decodable s) (cond (table_ok (decode s)) 0 9) 9

-- the number of one event on a snapshot; bytes that are no table get 9
unfoldable pub step_number : List ℕ → List ℕ → ℕ
step_number s e = cond (decodable s) (step_of (decode s) e).number 9

-- the bytes after it
unfoldable pub step_bytes : List ℕ → List ℕ → List ℕ
step_bytes s e = cond (eqb (step_number s e) 0) (encode (step_of (decode s) e).table) s

-- opening a book into a buffer: the book's own number first, then 9 for a buffer of another length
unfoldable pub open_number : List ℕ → List ℕ → ℕ
open_number book s = cond (eqb (book_verdict book) 0) (cond (eqb (length s) table_size) 0 9) (book_verdict book)

-- "a refused book opens no table"
unfoldable pub open_bytes : List ℕ → List ℕ → List ℕ
open_bytes book s = cond (eqb (open_number book s) 0) (encode (fresh_of book)) s

-- document 02, 2.4, "How many are still open": the number that the bytes keep, whatever else they hold; bytes of another length keep none, and 255 is no
-- number of jobs
unfoldable pub open_jobs_of : List ℕ → ℕ
open_jobs_of s = cond (eqb (length s) table_size) (get_or s open_start 0) 255
