-- The starred examples of document 01, all of them, by computation. A run's tables all pass check 9, which is proved of every run and so is not
-- computed: an event is answered as 10, 11 and its own refusals say.
-- Assumes nothing.
use Prim.Native.Nat.{ℕ}
use mathlib.Core.Path.{◌≡◌, refl}
use mathlib.Core.Bool.{true}
use mathlib.Core.List.{List, [], ◌∷◌}
use lib.Ieee.{of_bits, to_bits, of_int, add, div, le}
use Rattle.lists.specs.Scan.{all, least, filter, pad_to, without, up_to, tabulate, count_to}
use Rattle.isin.specs.Isin.{all_in, has_form, expanded, twice, digit_sum, total, verdict_of}
use Rattle.pricer.specs.Price.{zero_after, fixed_after, price_of, price_bits}
use Rattle.pricer.specs.Range.{in_range}
use Rattle.book_term.specs.Term.{checked, term_from, term_of}
use Rattle.book.specs.Book.{sizes_in_range, identifier_at, term_at, same_bytes, repeated, fault_at, lowest_faulty, lowest_fault, book_verdict}
use Rattle.book.specs.Parts.{size_at, term_bond_at, bond_of}
use Rattle.table.specs.declared.Table.{Table}
use Rattle.table.specs.Views.{flight, job_at, told_at, parts}
use Rattle.table.specs.Pools.{enter, lowest, clear_pool, returned}
use Rattle.table.specs.Messages.{push, remove_at, keep_messages, send, oldest}
use Rattle.table.specs.Parts.{pieces, copy_is, reserves, message, result, opened, REQ, DENIED, ACK}
use Rattle.table.proofs.Views.{Sized}
use Rattle.validity.specs.Validity.{table_ok}
use Rattle.table_opening.specs.Opening.{blank, bonds_of, machines_of, fresh_of, open_of}
use Rattle.table_opening.proofs.Shown.{opened_number}
use Rattle.handler_victim.specs.Victim.{no_work, grant, on_fish, on_auth, on_denied, on_obsolete}
use Rattle.handler_thief.specs.Thief.{on_schedule, on_no_work}
use Rattle.handler_root.specs.Root.{reply, on_req, on_ack, on_result}
use Rattle.handler.specs.Handler.{handle}
use Rattle.event_admit_deliver_die.specs.AdmitDeliverDie.{admitted, admit_of, delivered, deliver_of, died, die_of}
use Rattle.event_steal.specs.Steal.{stolen, steal_of}
use Rattle.event_start_done.specs.StartDone.{started, start_of, finished, done_of}
use Rattle.event_notice.specs.Notice.{informed, clear_wait, return_reserved, notice_local, reissue_one, reissue, noticed, notice_of}
use Rattle.dispatcher.specs.Step.{well_formed as eventFormed, indices_in_range, event_of, answer_of, step_of, run_of, answers_of}
use Rattle.dispatcher.proofs.Preserved.{step_answer, step_sized, step_ok}
use Rattle.theorem_fresh.proofs.Passes.{opened_passes, opened_sized}
use Rattle.claims_examples.specs.Rows.{book_with, book, fresh, all_accepted, before_req, dead_thief, before_ack, late_ack, rows, given, stated}

-- ---- what is computed, each group opened by one name

unfoldable leaf_parts : ℕ
unfolding all least all_in has_form expanded twice digit_sum total verdict_of of_bits to_bits of_int add div le zero_after fixed_after price_of price_bits
leaf_parts = 0

unfoldable book_parts : ℕ
unfolding leaf_parts in_range checked term_from term_of sizes_in_range identifier_at term_at same_bytes repeated fault_at lowest_faulty lowest_fault book_verdict
book_parts = 0

unfoldable fresh_parts : ℕ
unfolding book_parts size_at term_bond_at bond_of pad_to tabulate blank bonds_of machines_of fresh_of open_of
fresh_parts = 0

unfoldable handler_parts : ℕ
unfolding push remove_at keep_messages send oldest lowest clear_pool copy_is reserves returned message result no_work grant on_fish reply on_req on_auth
    on_denied on_obsolete on_schedule on_no_work on_ack on_result handle
handler_parts = 0

unfoldable event_parts : ℕ
unfolding handler_parts filter without up_to count_to parts enter pieces admitted admit_of stolen steal_of delivered deliver_of started start_of finished
    done_of died die_of informed clear_wait return_reserved notice_local reissue_one reissue noticed notice_of eventFormed indices_in_range event_of answer_of
event_parts = 0

-- ---- a run without check 9

unfoldable plain_run : Table → List (List ℕ) → Table
plain_run t [] = t
plain_run t (e ∷ es) = plain_run (answer_of t e).table es

unfoldable plain_answers : Table → List (List ℕ) → List ℕ
plain_answers t [] = []
plain_answers t (e ∷ es) = (answer_of t e).number ∷ plain_answers (answer_of t e).table es

run_plain : (t : Table) (es : List (List ℕ)) → Sized t → table_ok t ≡ true → run_of t es ≡ plain_run t es
unfolding run_of plain_run
run_plain t [] s h = refl
run_plain t (e ∷ es) s h = rw (← step_answer t e h) (run_plain (step_of t e).table es (step_sized t e s) (step_ok t e s h))

answers_plain : (t : Table) (es : List (List ℕ)) → Sized t → table_ok t ≡ true → answers_of t es ≡ plain_answers t es
unfolding answers_of plain_answers
answers_plain t [] s h = refl
answers_plain t (e ∷ es) s h = rw (← step_answer t e h, answers_plain (step_of t e).table es (step_sized t e s) (step_ok t e s h))

-- ---- the books

refused_book : book_verdict (book_with 2 241) ≡ 7
unfolding book_parts
refused_book = refl

accepted_book : book_verdict book ≡ 0
unfolding book_parts
accepted_book = refl

-- the table opened from the book passes check 9, so its runs are those without it

ran : (es : List (List ℕ)) → run_of fresh es ≡ plain_run fresh es
ran es = run_plain fresh es (opened_sized book accepted_book) (opened_passes book accepted_book)

answered : (es : List (List ℕ)) → answers_of fresh es ≡ plain_answers fresh es
answered es = answers_plain fresh es (opened_sized book accepted_book) (opened_passes book accepted_book)

-- ---- the dead thief

thief_answers : plain_answers fresh dead_thief ≡ all_accepted dead_thief
unfolding fresh_parts event_parts plain_answers
thief_answers = refl

req_in_flight : flight (plain_run fresh before_req) ≡ message REQ 0 0 0 1 2 ∷ []
unfolding fresh_parts event_parts plain_run
req_in_flight = refl

root_told : told_at (plain_run fresh before_req) 0 2 ≡ 1
unfolding fresh_parts event_parts plain_run
root_told = refl

denied : flight (plain_run fresh dead_thief) ≡ message DENIED 0 0 0 1 2 ∷ []
unfolding fresh_parts event_parts plain_run
denied = refl

-- ---- the late ACK

ack_answers : plain_answers fresh late_ack ≡ all_accepted late_ack
unfolding fresh_parts event_parts plain_answers
ack_answers = refl

ack_in_flight : flight (plain_run fresh before_ack) ≡ message ACK 2 0 0 1 0 ∷ []
unfolding fresh_parts event_parts plain_run
ack_in_flight = refl

job_before : job_at (plain_run fresh before_ack) 0 ≡ opened 2
unfolding fresh_parts event_parts plain_run
job_before = refl

ack_gone : flight (plain_run fresh late_ack) ≡ []
unfolding fresh_parts event_parts plain_run
ack_gone = refl

job_after : job_at (plain_run fresh late_ack) 0 ≡ opened 2
unfolding fresh_parts event_parts plain_run
job_after = refl

-- ---- the rows

pub starred : given ≡ stated
unfolding rows given stated leaf_parts opened message
starred =
    rw (refused_book, opened_number book, accepted_book)
    (rw (answered dead_thief, thief_answers, ran before_req, req_in_flight, root_told, ran dead_thief, denied)
    (rw (answered late_ack, ack_answers, ran before_ack, ack_in_flight, job_before, ran late_ack, ack_gone, job_after) refl))
