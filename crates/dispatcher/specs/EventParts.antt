-- An event by its code, on the parts of a table that it looks at: what it asks for, where it looks, its number, and the change that it makes.
-- Carried to the definitions on tables by proofs/OnTable.antt. Definitions only.
use Rattle.std.specs.Prelude.{Bool, true, not, cond, ◌&&◌, ◌≡◌, List, ℕ, ◌+◌, ◌*◌, eqb, ltb, get_or, Option, Result, Ok, Err}
use Rattle.refusal.specs.declared.Refusal.{Refusal}
use Rattle.refusal.specs.declared.Refusal.TheVariants.{MalformedEvent, NumberTooLarge}
use Rattle.pricer.specs.declared.Bond.{Bond}
use Rattle.pricer.specs.Price.{price_bits}
use Rattle.table.specs.declared.Machine.{Machine}
use Rattle.table.specs.declared.Message.{Message}
use Rattle.table.specs.declared.Table.{Table}
use Rattle.table.specs.declared.Answer.{Answer}
use Rattle.table.specs.Views.{machine_at, message_at, with_job, with_machine, with_pool}
use Rattle.table.specs.Messages.{oldest}
use Rattle.protocol_change.specs.declared.Parts.{Parts}
use Rattle.protocol_change.specs.declared.Change.{Change}
use Rattle.protocol_change.specs.Change.{parts_at, silent}
use Rattle.handler.specs.HandlerParts.{lowest_for, handled_job, handle_change}
use Rattle.event_admit_deliver_die.specs.AdmitDeliverDie.{admit_number, deliver_number, die_number}
use Rattle.event_admit_deliver_die.specs.AdmitDeliverDieParts.{admit_change}
use Rattle.event_steal.specs.Steal.{steal_number}
use Rattle.event_steal.specs.StealParts.{steal_change}
use Rattle.event_start_done.specs.StartDone.{start_number, done_number}
use Rattle.event_start_done.specs.StartDoneParts.{start_change, done_change}
use Rattle.event_notice.specs.Notice.{notice_number}
use Rattle.event_join.specs.Join.{join_number}
use Rattle.dispatcher.specs.declared.Ask.{Ask}
use Rattle.dispatcher.specs.declared.Code.{Code}
use Rattle.dispatcher.specs.declared.Code.TheVariants.{Admit, Steal, Deliver, Start, Done, Die, Notice, Join}
use Rattle.dispatcher.specs.declared.Look.{Look}
use Rattle.dispatcher.specs.declared.Place.{Place}
use Rattle.dispatcher.specs.Codes.{ADMIT, STEAL, DELIVER, START, DONE, DIE, NOTICE, JOIN}
use Rattle.dispatcher.specs.Step.{code_of, first_of, second_of, two_machines, well_formed, indices_in_range, event_of}

-- the code of an event, and the event of a code
abbrev pub code_number : Code → ℕ
code_number Admit = ADMIT
code_number Steal = STEAL
code_number Deliver = DELIVER
code_number Start = START
code_number Done = DONE
code_number Die = DIE
code_number Notice = NOTICE
code_number Join = JOIN

unfoldable pub named : ℕ → Result Code Refusal
named n =
    cond (eqb n ADMIT) (Ok Admit)
    (cond (eqb n STEAL) (Ok Steal)
    (cond (eqb n DELIVER) (Ok Deliver)
    (cond (eqb n START) (Ok Start)
    (cond (eqb n DONE) (Ok Done)
    (cond (eqb n DIE) (Ok Die)
    (cond (eqb n NOTICE) (Ok Notice)
    (cond (eqb n JOIN) (Ok Join)
    (Err MalformedEvent))))))))

-- "machine or entry number too large": the contrary, for m machines and n entries
unfoldable pub in_range : ℕ → ℕ → ℕ → ℕ → ℕ → Bool
in_range m n code a b =
    cond (two_machines code) (ltb a m && ltb b m)
    (cond (eqb code ADMIT) (ltb a n)
    (cond (eqb code START) (ltb a m && ltb b n)
    true))

abbrev pub ask : Code → ℕ → ℕ → Ask
ask c a b = record { code = c; a = a; b = b }

-- the event of a code with its two numbers, where the code is that of an event
abbrev pub ask_by : Result Code Refusal → ℕ → ℕ → Result Ask Refusal
ask_by (Ok c) a b = Ok (ask c a b)
ask_by (Err r) a b = Err r

-- 10 and 11, then what the bytes say
unfoldable pub ask_of : ℕ → ℕ → List ℕ → Result Ask Refusal
ask_of m n e =
    cond (not (well_formed e)) (Err MalformedEvent)
    (cond (not (in_range m n (code_of e) (first_of e) (second_of e))) (Err NumberTooLarge)
    (ask_by (named (code_of e)) (first_of e) (second_of e)))

-- an event whose numbers are those of the table: neither 10 nor 11 refuses it
pub record Asked (t : Table) (q : Ask) : Type 0 where
  pub indices : indices_in_range t (code_number q.code) q.a q.b ≡ true

-- the event that is asked for
abbrev pub asked_event : Table → Ask → Answer
asked_event t q = event_of t (code_number q.code) q.a q.b

-- the slot of the message that is taken off: the oldest for Deliver, past those in flight for any other event
unfoldable pub slot_of : Table → Ask → ℕ
slot_of t q = elim q.code [ Deliver ↦ oldest t q.a q.b | _ ↦ t.in_flight ]

abbrev pub place : ℕ → ℕ → ℕ → ℕ → Place
place m j d p = record { machine = m; job = j; told = d; peer = p }

-- the machine, the job, the told flag and the second machine that an event looks at; x is the message that Deliver takes off, low the lowest job of
-- the machine that a FISH is to. Join needs none of these, and its a may be any byte: its places are 0
unfoldable pub place_of : Ask → Message → Option ℕ → Place
place_of q x low =
    elim q.code [
      | Admit ↦ place 0 q.a 0 0
      | Deliver ↦ place x.to (handled_job x low) x.thief 0
      | Start ↦ place q.a q.b 0 0
      | Join ↦ place 0 0 0 0
      | _ ↦ place q.a 0 (q.a * 16 + q.b) q.b
    ]

-- what an event reads of the table
unfoldable pub look_of : Table → Ask → Look
look_of t q =
    let slot = slot_of t q in
    let x = message_at t slot in
    let low = lowest_for x t.pools in
    let w = place_of q x low in
    record {
      slot = slot;
      message = x;
      low = low;
      place = w;
      parts = parts_at t w.machine w.job;
      told = get_or t.told w.told 0;
      peer = machine_at t w.peer;
    }

-- the number, that of the event of the code; count is the machine count
unfoldable pub number_of : Ask → Parts → Machine → ℕ → ℕ → ℕ → ℕ → ℕ
number_of q p peer told used slot count =
    elim q.code [
      | Admit ↦ admit_number p.job
      | Steal ↦ steal_number p.machine peer told used q.a q.b
      | Deliver ↦ deliver_number used slot
      | Start ↦ start_number p.machine p.cell
      | Done ↦ done_number p.machine used
      | Die ↦ die_number q.a p.machine
      | Notice ↦ notice_number p.machine peer told
      | Join ↦ join_number count q.a
    ]

-- the change that an accepted event of code 1 to 5 makes; bond is that of the copy which the machine runs
unfoldable pub change_of : Ask → Parts → Message → ℕ → Option ℕ → Bond → Change
change_of q p x told low bond =
    elim q.code [
      | Admit ↦ admit_change p
      | Steal ↦ steal_change p q.a q.b
      | Deliver ↦ handle_change p x told low
      | Start ↦ start_change p q.b
      | Done ↦ done_change p q.a (price_bits bond)
      | _ ↦ silent p
    ]

-- the parts as an event leaves them, before the messages
abbrev pub written : Table → ℕ → ℕ → Change → Table
written t m j c = with_pool (with_machine (with_job t j c.job) m c.machine) m j c.cell
