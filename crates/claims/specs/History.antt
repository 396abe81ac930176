-- Document 01, "A run, and the words of demand 3": what a list of events did to a table, told from the answers and from the messages delivered along
-- the run. t is the table that the first event is given; each later one is given the table that the event before it returned. Definitions only.
use Rattle.std.specs.Prelude.{ℕ, zero, suc, ◌+◌, Bool, true, cond, ◌&&◌, List, [], ◌∷◌, eqb}
use Rattle.lists.specs.Scan.{tabulate}
use Rattle.pricer.specs.Price.{price_bits}
use Rattle.book.specs.Parts.{entry_count_of, bond_of}
use Rattle.table.specs.declared.Message.{Message}
use Rattle.table.specs.declared.Table.{Table}
use Rattle.table.specs.Views.{job_at, message_at}
use Rattle.table.specs.Messages.{oldest}
use Rattle.table.specs.Parts.{RESULT, NOT_ADMITTED, OPEN, PRICED}
use Rattle.event_notice.specs.Notice.{affected}
use Rattle.dispatcher.specs.Codes.{ADMIT, DELIVER, DIE, NOTICE}
use Rattle.dispatcher.specs.Step.{code_of, first_of, second_of, step_of, is_further}

-- "An accepted event returns 0."
abbrev pub is_accepted : Table → List ℕ → Bool
is_accepted t e = eqb (step_of t e).number 0

-- how many of the events pass a test of the table that they are given and of themselves
unfoldable pub count_of : (Table → List ℕ → Bool) → Table → List (List ℕ) → ℕ
count_of p t [] = 0
count_of p t (e ∷ es) = cond (p t e) 1 0 + count_of p (step_of t e).table es

-- "A bond is admitted once an accepted event 1 has named it."
abbrev pub admits : ℕ → Table → List ℕ → Bool
admits j t e = is_accepted t e && (eqb (code_of e) ADMIT && eqb (first_of e) j)

-- "The deaths are the accepted events of code 6."
abbrev pub kills : Table → List ℕ → Bool
kills t e = is_accepted t e && eqb (code_of e) DIE

-- "the root notices that found the job": accepted, and the job is open on the machine told of, or moving from or to it
abbrev pub finds : ℕ → Table → List ℕ → Bool
finds j t e = is_accepted t e && (eqb (code_of e) NOTICE && (eqb (first_of e) 0 && affected (job_at t j) (second_of e)))

-- the message that Deliver takes off: "the oldest message from a to b"
abbrev pub taken_off : Table → List ℕ → Message
taken_off t e = message_at t (oldest t (first_of e) (second_of e))

-- "a RESULT for it has been delivered"
abbrev pub delivers : ℕ → Table → List ℕ → Bool
delivers j t e = is_accepted t e && (eqb (code_of e) DELIVER && (eqb (taken_off t e).kind RESULT && eqb (taken_off t e).job j))

-- the prices of the RESULTs delivered for job j, the first one delivered first
unfoldable pub results_of : ℕ → Table → List (List ℕ) → List ℕ
results_of j t [] = []
results_of j t (e ∷ es) =
    cond (delivers j t e) ((taken_off t e).price ∷ results_of j (step_of t e).table es) (results_of j (step_of t e).table es)

-- what a job's state is after so many admissions and these results: "not admitted, open or priced"
unfoldable pub state_after : ℕ → List ℕ → ℕ
state_after zero [] = NOT_ADMITTED
state_after (suc n) [] = OPEN
state_after n (p ∷ ps) = PRICED

-- "One machine, bond after bond, is fed the book alone. It goes through the entries from the first to the last and gives each the formula's price of
-- its terms. It knows no table, event or message. Prices are compared as their 64 bits."
unfoldable pub serial_of : List ℕ → List ℕ
serial_of book = tabulate (λ i. price_bits (bond_of book i)) (entry_count_of book)

-- "(no admission, steal or death)", and no join, of every event of a list
unfoldable pub all_further : List (List ℕ) → Bool
all_further [] = true
all_further (e ∷ es) = is_further e && all_further es
