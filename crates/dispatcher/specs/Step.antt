-- Document 01, "Where each refusal is checked": one event on a table, whatever the table and the bytes of the event; a list of
-- events, with its table and its numbers; and which events are further ones. Event 8 is document 02's, 2.6. Definitions only.
use Rattle.std.specs.Prelude.{Bool, true, not, cond, ◌&&◌, ◌||◌, List, [], ◌∷◌, ℕ, eqb, leb, ltb, length, get_or}
use Rattle.table.specs.declared.Table.{Table}
use Rattle.table.specs.declared.Answer.{Answer}
use Rattle.table.specs.Views.{refuse}
use Rattle.validity.specs.Validity.{table_ok}
use Rattle.event_admit_deliver_die.specs.AdmitDeliverDie.{admit_of, deliver_of, die_of}
use Rattle.event_steal.specs.Steal.{steal_of}
use Rattle.event_start_done.specs.StartDone.{start_of, done_of}
use Rattle.event_notice.specs.Notice.{notice_of}
use Rattle.event_join.specs.Join.{join_of}
use Rattle.dispatcher.specs.Codes.{ADMIT, STEAL, DELIVER, START, DONE, DIE, NOTICE, JOIN, last_code}

-- "Events are three bytes: code, a, b."
abbrev pub event : ℕ → ℕ → ℕ → List ℕ
event code a b = code ∷ a ∷ b ∷ []

-- code, 0 where there is none
abbrev pub code_of : List ℕ → ℕ
code_of e = get_or e 0 0

-- a
abbrev pub first_of : List ℕ → ℕ
first_of e = get_or e 1 0

-- b
abbrev pub second_of : List ℕ → ℕ
second_of e = get_or e 2 0

-- Admit, Done, Die and Join have no use for b
abbrev pub uses_second : ℕ → Bool
uses_second code = not (eqb code ADMIT || eqb code DONE || eqb code DIE || eqb code JOIN)

-- "code not 1 to 7, unused b not 0, or fewer than three bytes", and "Number 10 now accepts codes 1 to 8": the contrary
unfoldable pub well_formed : List ℕ → Bool
well_formed e = leb 3 (length e) && leb 1 (code_of e) && leb (code_of e) last_code && (uses_second (code_of e) || eqb (second_of e) 0)

-- Steal, Deliver, Done, Die and Notice: a and b are machine numbers, where an unused b is 0, the number of the root
abbrev pub two_machines : ℕ → Bool
two_machines code = eqb code STEAL || eqb code DELIVER || eqb code DONE || eqb code DIE || eqb code NOTICE

-- "machine or entry number too large": the contrary. Admit's a and Start's b are entry numbers. "11 is judged against the current count, except that
-- Join's own a is judged only by the new numbers"
unfoldable pub indices_in_range : Table → ℕ → ℕ → ℕ → Bool
indices_in_range t code a b =
    cond (two_machines code) (ltb a t.machine_count && ltb b t.machine_count)
    (cond (eqb code ADMIT) (ltb a t.entry_count)
    (cond (eqb code START) (ltb a t.machine_count && ltb b t.entry_count)
    true))

-- the event of a code; a code of no event, which refusal 10 has answered before, gets 10
unfoldable pub event_of : Table → ℕ → ℕ → ℕ → Answer
event_of t code a b =
    cond (eqb code ADMIT) (admit_of t a)
    (cond (eqb code STEAL) (steal_of t a b)
    (cond (eqb code DELIVER) (deliver_of t a b)
    (cond (eqb code START) (start_of t a b)
    (cond (eqb code DONE) (done_of t a)
    (cond (eqb code DIE) (die_of t a)
    (cond (eqb code NOTICE) (notice_of t a b)
    (cond (eqb code JOIN) (join_of t a)
    (refuse 10 t))))))))

-- 10 and 11, then the event's own refusals: of a table that passes check 9
unfoldable pub answer_of : Table → List ℕ → Answer
answer_of t e =
    cond (not (well_formed e)) (refuse 10 t)
    (cond (not (indices_in_range t (code_of e) (first_of e) (second_of e))) (refuse 11 t)
    (event_of t (code_of e) (first_of e) (second_of e)))

-- "Table, before any event | 9"
unfoldable pub step_of : Table → List ℕ → Answer
step_of t e = cond (not (table_ok t)) (refuse 9 t) (answer_of t e)

-- "The first event is given the fresh table, each later one the table that the event before it returned."
unfoldable pub run_of : Table → List (List ℕ) → Table
run_of t [] = t
run_of t (e ∷ es) = run_of (step_of t e).table es

-- the numbers that the events are answered, in their order
unfoldable pub answers_of : Table → List (List ℕ) → List ℕ
answers_of t [] = []
answers_of t (e ∷ es) = (step_of t e).number ∷ answers_of (step_of t e).table es

-- "further .. events (no admission, steal or death)", and "a join is not one of those events": three bytes, a Deliver, Start, Done or Notice
abbrev pub is_further : List ℕ → Bool
is_further e = eqb (length e) 3 && (eqb (code_of e) DELIVER || (eqb (code_of e) START || (eqb (code_of e) DONE || eqb (code_of e) NOTICE)))
