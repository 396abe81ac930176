-- Document 01, "The program's page": its lines. Definitions only.
use Rattle.std.specs.Prelude.{ℕ, cond, List, ◌++◌, eqb}
use Rattle.text.specs.Text.{ascii, decimal, hex16}
use Rattle.table.specs.declared.Job.{Job}
use Rattle.table.specs.Parts.{NOT_ADMITTED, OPEN}

-- the end of a line: words and a number
unfoldable pub line_end : List ℕ → ℕ → List ℕ
line_end w n = w ++ decimal n ++ ascii "\n"

-- "A refused book prints "book refused" and the number, and nothing more."
unfoldable pub book_refused_line : ℕ → List ℕ
book_refused_line n = line_end (ascii "book refused ") n

-- "each refused event prints a line: "event", its place counted from 1, "refused" and the number"
unfoldable pub event_refused_line : ℕ → ℕ → List ℕ
event_refused_line place n = ascii "event " ++ decimal place ++ line_end (ascii " refused ") n

-- identifier, then "not admitted"
unfoldable pub not_admitted_line : List ℕ → List ℕ
not_admitted_line identifier = identifier ++ ascii " not admitted\n"

-- identifier, then "open replica" and the number
unfoldable pub open_line : List ℕ → ℕ → List ℕ
open_line identifier replica = identifier ++ line_end (ascii " open replica ") replica

-- identifier, then "priced", 16 upper-case hexadecimal digits of the bits, "replica" and the number
unfoldable pub priced_line : List ℕ → ℕ → ℕ → List ℕ
priced_line identifier price replica = identifier ++ ascii " priced " ++ hex16 price ++ line_end (ascii " replica ") replica

-- document 02, 2.4: "the program prints "open" and this number as its last line"
unfoldable pub open_jobs_line : ℕ → List ℕ
open_jobs_line n = line_end (ascii "open ") n

-- "Then each entry prints a line", by the state of its job
unfoldable pub entry_line : List ℕ → Job → List ℕ
entry_line identifier v =
    cond (eqb v.state NOT_ADMITTED) (not_admitted_line identifier)
    (cond (eqb v.state OPEN) (open_line identifier v.replica)
    (priced_line identifier v.price v.replica))
