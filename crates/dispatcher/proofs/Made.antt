-- One event on a table that passes check 9: what is read of the table is within its arrays, what that says of the event's number, and that the table
-- which is left is the one that the event makes. Assumes nothing.
use Prim.Native.Nat.{ℕ, zero, suc, ◌≤◌, ◌<◌}
use mathlib.Core.Path.{◌≡◌, refl, ◌∙◌}
use mathlib.Core.Bool.{Bool}
use native.Mathlib.Omega.{arith}
use borrow.Author.Tests.{ltb-true}
use lib.Dec.{ltb}
use Rattle.std.proofs.Common.{None}
use Rattle.lists.specs.Scan.{least}
use Rattle.lists.proofs.Cases.{by_bool}
use Rattle.table.specs.declared.Table.{Table}
use Rattle.table.specs.Views.{bond_at, message_at, parts}
use Rattle.table.specs.Messages.{oldest, remove_at}
use Rattle.table.specs.Needs.{Within}
use Rattle.protocol_change.specs.declared.Change.{Change}
use Rattle.protocol_change.specs.Change.{parts_at, made, send_some}
use Rattle.protocol_messages.specs.InPlace.{taken, stored}
use Rattle.handler.proofs.Made.{handled_job_below}
use Rattle.handler.proofs.Sent.{ToMachine}
use Rattle.dispatcher.proofs.Ready.{measured, ready, within_any}
use Rattle.dispatcher.proofs.OnTable.{Placed, placed, numbered, changed, sent_to, stores_none}
use Rattle.dispatcher.specs.declared.Ask.{Ask}
use Rattle.dispatcher.specs.declared.Code.{Code}
use Rattle.dispatcher.specs.declared.Code.TheVariants.{Admit, Steal, Deliver, Start, Done, Die, Notice, Join}
use Rattle.dispatcher.specs.declared.Look.{Look}
use Rattle.dispatcher.specs.Codes.{DIE}
use Rattle.dispatcher.specs.Apply.{Passed}
use Rattle.dispatcher.specs.EventParts.{code_number, ask, Asked, asked_event, slot_of, look_of, number_of, change_of, written}

-- a message taken off before the parts are written, or after
made_taken : (t : Table) (m j k : ℕ) (c : Change) → send_some (taken (written t m j c) k) c.sent ≡ made (taken t k) m j c
unfolding taken remove_at made parts
made_taken t m j k c = by_bool (ltb k t.in_flight) (λ e. rw (e, taken)) (λ e. rw (e, taken))

least_most : (p : ℕ → Bool) (n : ℕ) → least p n ≤ n
unfolding least
least_most p zero = omega arith
least_most p (suc n) =
    by_bool (ltb (least p n) n) (λ e. let l = ltb-true _ _ e in rw e (omega arith))
    (λ e. by_bool (p n) (λ f. rw (e, f) (omega arith)) (λ f. rw (e, f) (omega arith)))

slot_most : (t : Table) (c : Code) (a b : ℕ) → slot_of t (ask c a b) ≤ t.in_flight
unfolding slot_of oldest
slot_most t Admit a b = omega arith
slot_most t Steal a b = omega arith
slot_most t Deliver a b = least_most _ _
slot_most t Start a b = omega arith
slot_most t Done a b = omega arith
slot_most t Die a b = omega arith
slot_most t Notice a b = omega arith
slot_most t Join a b = omega arith

pub look_most : (t : Table) (q : Ask) → (look_of t q).slot ≤ t.in_flight
unfolding look_of
look_most t q = slot_most t q.code q.a q.b

module _ (t : Table) (p : Passed t) (q : Ask) (k : Asked t q) where
  abbrev v : Look
  v = look_of t q

  within : Within (message_at t (slot_of t q))
  within = within_any t (measured t p) p.ok (slot_of t q)

  pub look_placed : Placed v.place
  unfolding look_of
  look_placed = placed t (ready t (measured t p) p.ok) _ _ within (handled_job_below _ _ within.job) q k

  pub look_number : number_of q v.parts v.peer v.told t.in_flight v.slot t.machine_count ≡ (asked_event t q).number
  unfolding look_of
  look_number = numbered t _ _ q k

  pub look_running : v.parts.machine.running_job < 64
  unfolding look_of parts_at
  look_running = (ready t (measured t p) p.ok).running _ look_placed.machine

  -- the change
  abbrev pub change : Change
  change = change_of q v.parts v.message v.told v.low (bond_at t v.parts.machine.running_job)

  -- what it sends goes to a machine
  pub look_to : ToMachine change.sent
  unfolding look_of parts_at
  look_to = sent_to t (ready t (measured t p) p.ok) _ _ within q k

  abbrev pub after : Table
  after = written t v.place.machine v.place.job change

  module _ (d : code_number q.code < DIE) (z : (asked_event t q).number ≡ 0) where
    pub look_made : send_some (taken after v.slot) change.sent ≡ (asked_event t q).table
    unfolding look_of
    look_made = made_taken t _ _ _ _ ∙ changed t _ _ _ refl refl q k refl d z

    pub look_room : 128 ≤ t.in_flight → t.in_flight ≤ v.slot → stored change.sent after.machines ≡ None
    unfolding look_of
    look_room g f = stores_none t _ _ _ g q k refl f d z
