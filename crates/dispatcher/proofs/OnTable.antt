-- An event on parts, carried to the table: by what its bytes ask for, its number and the change that it makes are those of the definitions on tables.
-- Assumes nothing.
use Prim.Native.Nat.{ℕ, suc, ◌+◌, ◌*◌, ◌≤◌, ◌<◌}
use mathlib.Core.Path.{◌≡◌, refl, sym, ap, ◌∙◌, subst}
use mathlib.Core.Logic.{◌≢◌}
use mathlib.Core.Bool.{true, false, not, ◌&&◌, true≢false}
use mathlib.Core.List.{List}
use native.Mathlib.Nat.{zero-add}
use native.Mathlib.Omega.{arith}
use borrow.Author.Tests.{not-false, ne_eqb, leb-true, le-leb, lt-leb, le-ltb, lt-ltb, eqb-true}
use lib.Dec.{eqb, leb}
use lib.ListN.{get_or}
use Rattle.std.proofs.Common.{Option, None, Result, Ok, Err}
use Rattle.refusal.specs.declared.Refusal.{Refusal}
use Rattle.refusal.specs.declared.Refusal.TheVariants.{MalformedEvent, NumberTooLarge}
use Rattle.refusal.specs.Numbers.{number_of as refusal_number}
use Rattle.lists.proofs.Cases.{by_bool, by_eq}
use Rattle.table.specs.declared.Message.{Message}
use Rattle.table.specs.declared.Table.{Table}
use Rattle.table.specs.declared.Answer.{Answer}
use Rattle.table.specs.Views.{bond_at, machine_at, told_at, message_at, with_machine, refuse, parts}
use Rattle.table.specs.Messages.{remove_at}
use Rattle.table.specs.Needs.{RoomFor, Within, Ready}
use Rattle.table.specs.Parts.{message, result, waiting, pieces}
use Rattle.table.proofs.Views.{alive_machine}
use Rattle.table.proofs.Refusals.{Judged, accepted}
use Rattle.protocol_change.specs.declared.Change.{Change}
use Rattle.protocol_change.specs.Change.{parts_at, made, silent}
use Rattle.protocol_messages.specs.InPlace.{taken, stored}
use Rattle.handler.specs.Handler.{handle}
use Rattle.handler.specs.HandlerParts.{lowest_for, handled_job, handle_change}
use Rattle.handler.proofs.Made.{made_handle, lowest_for_lem}
use Rattle.handler.proofs.Sent.{ToMachine, to_none, to_some, handle_to}
use Rattle.event_admit_deliver_die.specs.AdmitDeliverDie.{admit_of, delivered, deliver_of, die_of}
use Rattle.event_admit_deliver_die.proofs.Cases.{by_admit, by_deliver}
use Rattle.event_admit_deliver_die.proofs.Made.{admit_number_lem, made_admitted, deliver_number_lem, die_number_lem}
use Rattle.event_admit_deliver_die.specs.AdmitDeliverDieParts.{admit_change}
use Rattle.event_steal.specs.Steal.{steal_of}
use Rattle.event_steal.specs.StealParts.{steal_change}
use Rattle.event_steal.proofs.Cases.{by_steal}
use Rattle.event_steal.proofs.Made.{steal_number_lem, made_stolen}
use Rattle.event_start_done.specs.StartDone.{start_of, done_of}
use Rattle.event_start_done.specs.StartDoneParts.{start_change, done_change}
use Rattle.event_start_done.proofs.Cases.{by_start, by_done}
use Rattle.event_start_done.proofs.Made.{start_number_lem, made_started, done_number_lem, made_finished}
use Rattle.event_notice.specs.Notice.{notice_of}
use Rattle.event_notice.proofs.Number.{notice_number_lem}
use Rattle.event_join.specs.Join.{join_of}
use Rattle.event_join.proofs.Cases.{join_number_lem}
use Rattle.dispatcher.proofs.Form.{well_formed_code}
use Rattle.dispatcher.proofs.Numbers.{entry_in, start_in, machines_in}
use Rattle.dispatcher.specs.declared.Ask.{Ask}
use Rattle.dispatcher.specs.declared.Code.{Code}
use Rattle.dispatcher.specs.declared.Code.TheVariants.{Admit, Steal, Deliver, Start, Done, Die, Notice, Join}
use Rattle.dispatcher.specs.declared.Place.{Place}
use Rattle.dispatcher.specs.Codes.{ADMIT, STEAL, DELIVER, START, DONE, DIE, NOTICE, JOIN, last_code}
use Rattle.dispatcher.specs.EventParts.{code_number, named, ask, ask_by, in_range, ask_of, Asked, asked_event, slot_of, place_of, number_of, change_of, written}
use Rattle.dispatcher.specs.Step.{code_of, first_of, second_of, well_formed, indices_in_range, event_of, answer_of}

-- ---- by the code

-- P of a code and of the answer of its event, whose numbers are those of the table
pub record Coded (t : Table) (a b : ℕ) (P : Code → Answer → Type 0) : Type 0 where
  pub admit : a < t.entry_count → P Admit (admit_of t a)
  pub steal : a < t.machine_count → b < t.machine_count → P Steal (steal_of t a b)
  pub deliver : P Deliver (deliver_of t a b)
  pub start : a < t.machine_count → b < t.entry_count → P Start (start_of t a b)
  pub done : a < t.machine_count → b < t.machine_count → P Done (done_of t a)
  pub die : a < t.machine_count → b < t.machine_count → P Die (die_of t a)
  pub notice : a < t.machine_count → b < t.machine_count → P Notice (notice_of t a b)
  pub join : P Join (join_of t a)

by_coded : (t : Table) (c : Code) (a b : ℕ) → indices_in_range t (code_number c) a b ≡ true → (P : Code → Answer → Type 0) → Coded t a b P
    → P c (event_of t (code_number c) a b)
unfolding event_of
by_coded t Admit a b g P r = r.admit (entry_in t ADMIT a b g refl)
by_coded t Steal a b g P r = let p = machines_in t STEAL a b g refl in r.steal p.0 p.1
by_coded t Deliver a b g P r = r.deliver
by_coded t Start a b g P r = let p = start_in t START a b g refl in r.start p.0 p.1
by_coded t Done a b g P r = let p = machines_in t DONE a b g refl in r.done p.0 p.1
by_coded t Die a b g P r = let p = machines_in t DIE a b g refl in r.die p.0 p.1
by_coded t Notice a b g P r = let p = machines_in t NOTICE a b g refl in r.notice p.0 p.1
by_coded t Join a b g P r = r.join

next : (k n : ℕ) → k ≤ n → n ≢ k → suc k ≤ n
next k n l e = omega arith

past : (n : ℕ) → 1 ≤ n → n ≢ ADMIT → n ≢ STEAL → n ≢ DELIVER → n ≢ START → n ≢ DONE → n ≢ DIE → n ≢ NOTICE → n ≢ JOIN → last_code < n
past n l n1 n2 n3 n4 n5 n6 n7 n8 =
    let five = next 4 n (next 3 n (next 2 n (next 1 n l n1) n2) n3) n4 in
    next 8 n (next 7 n (next 6 n (next 5 n five n5) n6) n7) n8

-- the codes are those of the events, and a number that is none is 0 or past the last
by_name : (n : ℕ) (P : Result Code Refusal → Type 0) → ((c : Code) → n ≡ code_number c → P (Ok c))
    → ((leb 1 n && leb n last_code) ≡ false → P (Err MalformedEvent)) → P (named n)
unfolding named
by_name n P some none =
    by_eq n ADMIT (λ e. rw (e, named) (some Admit e))
    (λ n1. by_eq n STEAL (λ e. rw (e, named) (some Steal e))
    (λ n2. by_eq n DELIVER (λ e. rw (e, named) (some Deliver e))
    (λ n3. by_eq n START (λ e. rw (e, named) (some Start e))
    (λ n4. by_eq n DONE (λ e. rw (e, named) (some Done e))
    (λ n5. by_eq n DIE (λ e. rw (e, named) (some Die e))
    (λ n6. by_eq n NOTICE (λ e. rw (e, named) (some Notice e))
    (λ n7. by_eq n JOIN (λ e. rw (e, named) (some Join e))
    (λ n8. rw (ne_eqb n ADMIT n1, ne_eqb n STEAL n2, ne_eqb n DELIVER n3, ne_eqb n START n4, ne_eqb n DONE n5, ne_eqb n DIE n6, ne_eqb n NOTICE n7, ne_eqb n JOIN n8, named)
    (none (by_bool (leb 1 n) (λ l. let a = leb-true 1 n l in let h : last_code < n = past n a n1 n2 n3 n4 n5 n6 n7 n8 in rw (l, lt-leb n last_code h)) (λ l. rw l)))))))))))

pub named_some : (n : ℕ) (c : Code) → named n ≡ Ok c → n ≡ code_number c
named_some n c = by_name n (λ r. r ≡ Ok c → n ≡ code_number c) (λ d e z. let i : d ≡ c = cc in e ∙ ap code_number i) (λ f z. absurd (cc))

pub named_none : (n : ℕ) (r : Refusal) → named n ≡ Err r → (r ≡ MalformedEvent) × ((leb 1 n && leb n last_code) ≡ false)
named_none n r =
    by_name n (λ x. x ≡ Err r → (r ≡ MalformedEvent) × ((leb 1 n && leb n last_code) ≡ false)) (λ d e z. absurd (cc))
    (λ f z. let i : MalformedEvent ≡ r = cc in (sym i, f))

-- the code of an event, whichever number it is
pub by_code : (t : Table) (code a b : ℕ) → indices_in_range t code a b ≡ true → 1 ≤ code → code ≤ last_code → (P : ℕ → Answer → Type 0)
    → Coded t a b (λ c o. P (code_number c) o) → P code (event_of t code a b)
by_code t code a b g l m P r =
    by_name code (λ x. P code (event_of t code a b))
    (λ c e. let h : indices_in_range t (code_number c) a b ≡ true = rw e at g in rw e (by_coded t c a b h (λ d o. P (code_number d) o) r))
    (λ f. absurd (true≢false (sym (rw (le-leb 1 code l, le-leb code last_code m) refl) ∙ f)))

-- ---- by what the bytes ask for

in_range_lem : (t : Table) (code a b : ℕ) → in_range t.machine_count t.entry_count code a b ≡ indices_in_range t code a b
unfolding in_range indices_in_range
in_range_lem t code a b = refl

-- an event is refused by 10 or 11, or it is that of its code, with its numbers in the table
pub by_ask : (t : Table) (e : List ℕ) (P : Result Ask Refusal → Type 0) → ((r : Refusal) → answer_of t e ≡ refuse (refusal_number r) t → P (Err r))
    → ((q : Ask) → Asked t q → answer_of t e ≡ asked_event t q → P (Ok q)) → P (ask_of t.machine_count t.entry_count e)
unfolding ask_of answer_of
by_ask t e P refused asked =
    let c = code_of e in
    let a = first_of e in
    let b = second_of e in
    by_bool (not (well_formed e)) (λ f. rw (f, ask_of) (refused MalformedEvent (rw (f, answer_of) refl)))
    (λ f. by_bool (not (indices_in_range t c a b))
    (λ g. rw (f, in_range_lem t c a b, g, ask_of) (refused NumberTooLarge (rw (f, g, answer_of) refl)))
    (λ g. rw (f, in_range_lem t c a b, g, ask_of)
    (let y : answer_of t e ≡ event_of t c a b = rw (f, g, answer_of) refl in
    let w = well_formed_code e (not-false _ f) in
    by_name c (λ x. P (ask_by x a b))
    (λ d i. let h : indices_in_range t (code_number d) a b ≡ true = rw i at (not-false _ g) in
    asked (ask d a b) (record { indices = h }) (y ∙ ap (λ (n : ℕ). event_of t n a b) i))
    (λ n. absurd (true≢false (sym (rw (le-leb 1 c w.0, le-leb c last_code w.1) refl) ∙ n))))))

pub ask_refused : (t : Table) (e : List ℕ) (r : Refusal) → ask_of t.machine_count t.entry_count e ≡ Err r → answer_of t e ≡ refuse (refusal_number r) t
ask_refused t e r =
    by_ask t e (λ x. x ≡ Err r → answer_of t e ≡ refuse (refusal_number r) t)
    (λ p y z. let i : p ≡ r = cc in subst (λ (n : Refusal). answer_of t e ≡ refuse (refusal_number n) t) i y)
    (λ q k y z. absurd (cc))

pub ask_accepted : (t : Table) (e : List ℕ) (q : Ask) → ask_of t.machine_count t.entry_count e ≡ Ok q → Asked t q × (answer_of t e ≡ asked_event t q)
ask_accepted t e q =
    by_ask t e (λ x. x ≡ Ok q → Asked t q × (answer_of t e ≡ asked_event t q))
    (λ r y z. absurd (cc))
    (λ p k y z. let i : p ≡ q = cc in subst (λ (o : Ask). Asked t o × (answer_of t e ≡ asked_event t o)) i (k, y))

-- an event past Done is that of its code, with its numbers in the table
pub by_value : (t : Table) (e : List ℕ) (q : Ask) → ask_of t.machine_count t.entry_count e ≡ Ok q → DIE ≤ code_number q.code
    → (indices_in_range t (code_number q.code) q.a q.b ≡ true) × (answer_of t e ≡ event_of t (code_number q.code) q.a q.b)
by_value t e q o g = let k = ask_accepted t e q o in (k.0.indices, k.1)

-- P of what is asked, by its code
by_asked : (t : Table) (q : Ask) → Asked t q → (P : Ask → Type 0) → Coded t q.a q.b (λ c o. asked_event t q ≡ o → P (ask c q.a q.b)) → P q
by_asked t q k P r = by_coded t q.code q.a q.b k.indices (λ c o. asked_event t q ≡ o → P (ask c q.a q.b)) r refl

-- ---- where the event looks is within the arrays

pub record Placed (w : Place) : Type 0 where
  pub machine : w.machine < 16
  pub job : w.job < 64
  pub told : w.told < 256
  pub peer : w.peer < 16

module _ (t : Table) (r : Ready t) (x : Message) (low : Option ℕ) (i : Within x) (j : handled_job x low < 64) where
  two : (a b : ℕ) → a < t.machine_count → b < t.machine_count → Placed (record { machine = a; job = 0; told = a * 16 + b; peer = b })
  two a b h k =
      let m = r.machine_count in record { machine = omega arith; job = omega arith; told = omega arith; peer = omega arith }

  pub placed : (q : Ask) → Asked t q → Placed (place_of q x low)
  unfolding place_of
  placed q o =
      by_asked t q o (λ y. Placed (place_of y x low))
      (record {
        admit = λ h y. let m = r.entry_count in record { machine = omega arith; job = omega arith; told = omega arith; peer = omega arith };
        steal = λ h k y. two _ _ h k;
        deliver = λ y. record { machine = i.to; job = j; told = omega (arith, i.thief); peer = omega arith };
        start = λ h k y. let m = r.machine_count in
            let n = r.entry_count in record { machine = omega arith; job = omega arith; told = omega arith; peer = omega arith };
        done = λ h k y. two _ _ h k;
        die = λ h k y. two _ _ h k;
        notice = λ h k y. two _ _ h k;
        join = λ y. record { machine = omega arith; job = omega arith; told = omega arith; peer = omega arith };
      })

-- ---- the number

-- what is told of the event's place
abbrev pub told_in : Table → Place → ℕ
told_in t w = get_or t.told w.told 0

pub numbered : (t : Table) (x : Message) (low : Option ℕ) (q : Ask) → Asked t q
    → let w = place_of q x low in
    number_of q (parts_at t w.machine w.job) (machine_at t w.peer) (told_in t w) t.in_flight (slot_of t q) t.machine_count
    ≡ (asked_event t q).number
unfolding place_of number_of parts_at told_at slot_of
numbered t x low q o =
    by_asked t q o (λ y.
    let w = place_of y x low in
    number_of y (parts_at t w.machine w.job) (machine_at t w.peer) (told_in t w) t.in_flight (slot_of t y) t.machine_count
    ≡ (asked_event t q).number)
    (record {
      admit = λ h y. admit_number_lem t q.a ∙ sym (number_is y);
      steal = λ h k y. steal_number_lem t q.a q.b ∙ sym (number_is y);
      deliver = λ y. deliver_number_lem t q.a q.b ∙ sym (number_is y);
      start = λ h k y. start_number_lem t q.a q.b ∙ sym (number_is y);
      done = λ h k y. done_number_lem t q.a ∙ sym (number_is y);
      die = λ h k y. die_number_lem t q.a ∙ sym (number_is y);
      notice = λ h k y. notice_number_lem t q.a q.b ∙ sym (number_is y);
      join = λ y. join_number_lem t q.a ∙ sym (number_is y);
    })
  where
    number_is : {a : Answer} → asked_event t q ≡ a → (asked_event t q).number ≡ a.number
    number_is y = ap (λ (a : Answer). a.number) y

-- the number of what the bytes ask for: the refusal's where 10 or 11 refuses it, else that of the event on the parts where it looks
abbrev pub number_in : Table → Message → Option ℕ → Result Ask Refusal → ℕ
number_in t x low (Err r) = refusal_number r
number_in t x low (Ok q) =
    let w = place_of q x low in
    number_of q (parts_at t w.machine w.job) (machine_at t w.peer) (told_in t w) t.in_flight (slot_of t q) t.machine_count

-- so of any bytes it is that of document 01
pub numbered_bytes : (t : Table) (e : List ℕ) (x : Message) (low : Option ℕ) (o : Result Ask Refusal) → o ≡ ask_of t.machine_count t.entry_count e
    → number_in t x low o ≡ (answer_of t e).number
numbered_bytes t e x low (Err r) h = sym (ap (λ (a : Answer). a.number) (ask_refused t e r (sym h)))
numbered_bytes t e x low (Ok q) h =
    let k = ask_accepted t e q (sym h) in numbered t x low q k.0 ∙ sym (ap (λ (a : Answer). a.number) k.1)

-- ---- the change

taken_none : (t : Table) (k : ℕ) → k ≡ t.in_flight → taken t k ≡ t
unfolding taken
taken_none t k h = rw (le-ltb k t.in_flight (omega arith))

taken_some : (t : Table) (k : ℕ) → k < t.in_flight → taken t k ≡ remove_at t k
unfolding taken
taken_some t k h = rw (lt-ltb k t.in_flight h)

-- the change that an event makes of the parts where it looks
abbrev pub change_in : Table → Ask → Message → Option ℕ → Change
change_in t q x low =
    let w = place_of q x low in
    let p = parts_at t w.machine w.job in
    change_of q p x (told_in t w) low (bond_at t p.machine.running_job)

-- the table on which it is made: with the message taken off, where the event takes one off
abbrev pub made_in : Table → Ask → Message → Option ℕ → ℕ → Table
made_in t q x low slot = let w = place_of q x low in made (taken t slot) w.machine w.job (change_in t q x low)

-- the event has the answer o, which accepts with the table u
ends : (t : Table) (q : Ask) {D : Type 0} {u : Table} (o : Answer) → asked_event t q ≡ o → Judged t D u o
    → (asked_event t q).number ≡ 0 → D × (u ≡ (asked_event t q).table)
ends t q {D} {u} o y by z =
    let r = accepted t D u o by (ap (λ (a : Answer). a.number) (sym y) ∙ z) in
    (r.0, ap (λ (a : Answer). a.table) (r.1 ∙ sym y))

module _ (t : Table) (x : Message) (low : Option ℕ) (slot : ℕ) (hx : x ≡ message_at t slot) (hl : low ≡ lowest_for x t.pools) where
  delivers : (q : Ask) → q.code ≡ Deliver → slot < t.in_flight → made_in t q x low slot ≡ delivered t slot
  unfolding place_of change_of parts_at delivered remove_at parts
  delivers q c l =
      let j = handled_job x low in
      let told : get_or t.told x.thief 0 ≡ told_at (remove_at t slot) 0 x.thief = ap (λ (n : ℕ). get_or t.told n 0) (sym (zero-add x.thief)) in
      rw (c, taken_some t slot l)
      (ap (λ (n : ℕ). made (remove_at t slot) x.to j (handle_change (parts_at t x.to j) x n low)) told
      ∙ made_handle (remove_at t slot) x low (λ f. hl ∙ lowest_for_lem (remove_at t slot) x f)
      ∙ ap (handle (remove_at t slot)) hx)

  pub changed : (q : Ask) → Asked t q → slot ≡ slot_of t q → code_number q.code < DIE → (asked_event t q).number ≡ 0
      → made_in t q x low slot ≡ (asked_event t q).table
  unfolding place_of change_of parts_at slot_of
  changed q o =
      by_asked t q o (λ y. slot ≡ slot_of t y → code_number y.code < DIE → (asked_event t q).number ≡ 0
      → made_in t y x low slot ≡ (asked_event t q).table)
      (record {
        admit = λ h y s c f. rw (taken_none t slot s) (made_admitted t q.a ∙ (ends t q (admit_of t q.a) y (by_admit t q.a h) f).1);
        steal = λ h k y s c f. rw (taken_none t slot s)
            (made_stolen t q.a q.b 0 ∙ (ends t q (steal_of t q.a q.b) y (by_steal t q.a q.b h k) f).1);
        deliver = λ y s c f.
            let d = ends t q (deliver_of t q.a q.b) y (by_deliver t q.a q.b) f in
            delivers (ask Deliver q.a q.b) refl (rw s d.0.slot) ∙ ap (delivered t) s ∙ d.1;
        start = λ h k y s c f. rw (taken_none t slot s)
            (made_started t q.a q.b ∙ (ends t q (start_of t q.a q.b) y (by_start t q.a q.b h k) f).1);
        done = λ h k y s c f. rw (taken_none t slot s)
            (made_finished t q.a 0 ∙ (ends t q (done_of t q.a) y (by_done t q.a h) f).1);
        die = λ h k y s c f. absurd (omega arith);
        notice = λ h k y s c f. absurd (omega arith);
        join = λ y s c f. absurd (omega arith);
      })

  -- the same of the bytes that ask for it
  pub changed_bytes : (e : List ℕ) (q : Ask) → ask_of t.machine_count t.entry_count e ≡ Ok q → slot ≡ slot_of t q → code_number q.code < DIE
      → (answer_of t e).number ≡ 0 → made_in t q x low slot ≡ (answer_of t e).table
  changed_bytes e q o s c f =
      let k = ask_accepted t e q o in
      changed q k.0 s c (ap (λ (a : Answer). a.number) (sym k.1) ∙ f) ∙ sym (ap (λ (a : Answer). a.table) k.1)

-- ---- what is sent

module _ (t : Table) (r : Ready t) (x : Message) (low : Option ℕ) (i : Within x) where
  -- it goes to a machine
  pub sent_to : (q : Ask) → Asked t q → ToMachine (change_in t q x low).sent
  unfolding place_of change_of admit_change steal_change start_change done_change silent message result
  sent_to q o =
      by_asked t q o (λ y. ToMachine (change_in t y x low).sent)
      (record {
        admit = λ h y. to_none;
        steal = λ h k y. to_some _ (omega (arith, r.machine_count));
        deliver = λ y. handle_to _ x _ low i;
        start = λ h k y. to_none;
        done = λ h k y. to_some _ (omega arith);
        die = λ h k y. to_none;
        notice = λ h k y. to_none;
        join = λ y. to_none;
      })

-- with every slot taken nothing is stored: what sends with no message taken off has been refused 16, or sends to a dead machine
module _ (t : Table) (x : Message) (low : Option ℕ) (slot : ℕ) (g : 128 ≤ t.in_flight) where
  steal_none : (a b : ℕ) → RoomFor t b → let c = steal_change (parts_at t a 0) a b in
      stored c.sent (written t a 0 c).machines ≡ None
  unfolding stored steal_change message machine_at parts_at parts pieces
  steal_none a b r =
      let n = machine_at t a in
      by_bool (eqb (machine_at (with_machine t a (waiting n (b + 1))) b).alive 1)
      (λ z. absurd (omega (arith, r (sym (alive_machine t a (waiting n (b + 1)) refl b) ∙ eqb-true _ 1 z))))
      (λ z. rw (z, stored))

  pub stores_none : (q : Ask) → Asked t q
      → let w = place_of q x low in
      let c = change_in t q x low in
      slot ≡ slot_of t q → t.in_flight ≤ slot → code_number q.code < DIE → (asked_event t q).number ≡ 0
      → stored c.sent (written t w.machine w.job c).machines ≡ None
  unfolding place_of change_of slot_of stored admit_change steal_change start_change done_change message
  stores_none q o =
      let a = q.a in
      let b = q.b in
      by_asked t q o (λ y.
      let w = place_of y x low in
      let c = change_in t y x low in
      slot ≡ slot_of t y → t.in_flight ≤ slot → code_number y.code < DIE → (asked_event t q).number ≡ 0
      → stored c.sent (written t w.machine w.job c).machines ≡ None)
      (record {
        admit = λ h y s l c f. refl;
        steal = λ h k y s l c f. steal_none a b (ends t q (steal_of t a b) y (by_steal t a b h k) f).0.room;
        deliver = λ y s l c f. absurd (omega (arith, (ends t q (deliver_of t a b) y (by_deliver t a b) f).0.slot));
        start = λ h k y s l c f. refl;
        done = λ h k y s l c f. absurd (omega (arith, (ends t q (done_of t a) y (by_done t a h) f).0.room));
        die = λ h k y s l c f. absurd (omega arith);
        notice = λ h k y s l c f. absurd (omega arith);
        join = λ y s l c f. absurd (omega arith);
      })

  -- the same of the bytes that ask for it
  pub stores_none_bytes : (e : List ℕ) (q : Ask) → ask_of t.machine_count t.entry_count e ≡ Ok q
      → let w = place_of q x low in
      let c = change_in t q x low in
      slot ≡ slot_of t q → t.in_flight ≤ slot → code_number q.code < DIE → (answer_of t e).number ≡ 0
      → stored c.sent (written t w.machine w.job c).machines ≡ None
  stores_none_bytes e q o s l d f =
      let k = ask_accepted t e q o in stores_none q k.0 s l d (ap (λ (a : Answer). a.number) (sym k.1) ∙ f)

-- ---- Steal

-- the victim's number is a machine's
pub steal_below : (t : Table) → Ready t → (q : Ask) → Asked t q → q.code ≡ Steal → q.b < 255
steal_below t r q k e =
    let g : indices_in_range t STEAL q.a q.b ≡ true = rw e at k.indices in
    omega (arith, (machines_in t STEAL q.a q.b g refl).1, r.machine_count)
