-- What the loop that moves messages up leaves, and the slot written after it, are a message taken off and one sent. Assumes nothing.
use Prim.Native.Nat.{ℕ, ◌+◌, ◌-◌, ◌≤◌, ◌<◌}
use mathlib.Core.Path.{◌≡◌, refl, sym, ap, ◌∙◌}
use mathlib.Core.Bool.{true, not}
use mathlib.Core.List.{List, ◌++◌}
use native.Mathlib.Omega.{arith}
use borrow.Author.Tests.{ltb-true, ltb-false, lt-ltb, le-ltb}
use lib.Dec.{eqb, ltb}
use Rattle.std.proofs.Common.{Option, None, Some, unwrap_or}
use lib.ListN.{length, get_or, take, drop, set}
use lib.Seq.{set-get_or}
use Rattle.lists.specs.Scan.{without}
use Rattle.lists.proofs.Cases.{by_bool}
use Rattle.lists.proofs.Shift.{shift_none, shift_more, shift_last, shift_off}
use Rattle.table.specs.declared.Message.{Message}
use Rattle.table.specs.declared.Table.{Table}
use Rattle.table.specs.Views.{no_message, machine_at, message_at, with_messages, parts}
use Rattle.table.specs.Messages.{send, push, remove_at}
use Rattle.protocol_change.specs.Change.{send_some}
use Rattle.protocol_messages.specs.InPlace.{taken, kept, stored, counted}

-- the messages from slot k on have moved up as far as i
abbrev pub moved_up : Table → ℕ → ℕ → Table
moved_up t k i = with_messages t t.in_flight (take i (without k t.messages) ++ drop i t.messages)

pub moved_none : (t : Table) (k : ℕ) → k ≤ length t.messages → t ≡ moved_up t k k
unfolding with_messages
moved_none t k h = ap (λ (l : List Message). with_messages t t.in_flight l) (shift_none no_message k t.messages h)

pub moved_more : (t : Table) (k i : ℕ) (u : Table) → u ≡ moved_up t k i → k ≤ i → i + 1 < length t.messages
    → with_messages u u.in_flight (set u.messages i (message_at u (i + 1))) ≡ moved_up t k (i + 1)
unfolding with_messages message_at
moved_more t k i u e b c =
    ap (λ (v : Table). with_messages v v.in_flight (set v.messages i (message_at v (i + 1)))) e
    ∙ ap (λ (l : List Message). with_messages t t.in_flight l) (shift_more no_message k t.messages i _ refl b c)

-- what is written last, once those that stay have moved up: l at the slot after them
abbrev pub settled : Table → ℕ → Option Message → Table
settled t k l =
    with_messages t (counted (kept k t.in_flight) l)
    (set (moved_up t k (kept k t.in_flight)).messages (kept k t.in_flight) (unwrap_or l no_message))

-- nothing is sent, or a message of no kind, which is none; else it is stored where the machine lives
sent_by : (P : Option Message → Table → Type 0) (u : Table) (x : Option Message)
    → P None u → ((m : Message) → not (eqb m.kind 0) ≡ true → P (Some m) (push u m)) → P (stored x u.machines) (send_some u x)
unfolding stored send_some send machine_at
sent_by P u None none some = none
sent_by P u (Some m) none some =
    by_bool (eqb m.kind 0) (λ e. rw (e, stored, send_some) none)
    (λ e. by_bool (eqb (machine_at u m.to).alive 1)
    (λ f. rw (e, f, stored, send_some, send) (some m (ap not e)))
    (λ f. rw (e, f, stored, send_some, send) none))

-- what is stored nowhere changes nothing
sent_none : (u : Table) (x : Option Message) → stored x u.machines ≡ None → u ≡ send_some u x
sent_none u x = sent_by (λ y v. y ≡ None → u ≡ v) u x (λ z. refl) (λ m g z. absurd (cc))

pub kept_none : (k n : ℕ) → n ≤ k → kept k n ≡ n
unfolding kept
kept_none k n h = rw (le-ltb k n h)

kept_some : (k n : ℕ) → k < n → kept k n ≡ n - 1
unfolding kept
kept_some k n h = rw (lt-ltb k n h)

pub kept_least : (k n : ℕ) → k ≤ n → k ≤ kept k n
kept_least k n h =
    by_bool (ltb k n) (λ e. let l = ltb-true k n e in omega (arith, kept_some k n l)) (λ e. let l = ltb-false k n e in omega (arith, kept_none k n l))

pub kept_most : (k n : ℕ) → kept k n ≤ n
kept_most k n =
    by_bool (ltb k n) (λ e. let l = ltb-true k n e in omega (arith, kept_some k n l)) (λ e. let l = ltb-false k n e in omega (arith, kept_none k n l))

-- what moves up to a slot that stays comes from one in use
pub kept_next : (k n i : ℕ) → k ≤ i → i < kept k n → i + 1 < n
kept_next k n i b h =
    by_bool (ltb k n) (λ e. let l = ltb-true k n e in omega (arith, kept_some k n l))
    (λ e. let l = ltb-false k n e in absurd (omega (arith, kept_none k n l)))

-- every slot is in use still, so none was taken off
pub kept_full : (k n : ℕ) → n ≤ 128 → 128 ≤ kept k n → n ≤ k
unfolding kept
kept_full k n h b = by_bool (ltb k n) (λ e. let c : 128 ≤ n - 1 = rw e at b in absurd (omega arith)) (λ e. ltb-false _ _ e)

-- the slots past those in flight are empty
module _ (t : Table) (k : ℕ) (x : Option Message) (l : length t.messages ≡ 128) (h : t.in_flight ≤ 128)
    (p : (i : ℕ) → t.in_flight ≤ i → message_at t i ≡ no_message) where
  taken_off_lem : k < t.in_flight → settled t k (stored x t.machines) ≡ send_some (remove_at t k) x
  unfolding counted kept remove_at push parts
  taken_off_lem b =
      let n = t.in_flight - 1 in
      let m = take n (without k t.messages) ++ drop n t.messages in
      let e : kept k t.in_flight ≡ n = rw (lt-ltb k t.in_flight b) in
      let q : (i : ℕ) → n < i → get_or t.messages i no_message ≡ no_message = λ i g. p i (omega arith) in
      sent_by (λ y v. settled t k y ≡ v) (remove_at t k) x
      (ap (λ (j : ℕ). with_messages t j (set (take j (without k t.messages) ++ drop j t.messages) j no_message)) e
      ∙ ap (λ (y : List Message). with_messages t n y) (shift_off no_message k t.messages n m refl (omega arith) (omega arith) q))
      (λ w g.
      ap (λ (j : ℕ). with_messages t (counted j (Some w)) (set (take j (without k t.messages) ++ drop j t.messages) j w)) e
      ∙ rw g (ap (λ (y : List Message). with_messages t (n + 1) y) (shift_last no_message k t.messages n m w refl (omega arith) (omega arith) q)))

  none_off : k ≡ t.in_flight → k < 128 → settled t k (stored x t.machines) ≡ send_some t x
  unfolding counted push parts
  none_off b c =
      let e : kept k t.in_flight ≡ k = kept_none k t.in_flight (omega arith) ∙ sym b in
      let m : take k (without k t.messages) ++ drop k t.messages ≡ t.messages = sym (shift_none no_message k t.messages (omega arith)) in
      let z : get_or t.messages k no_message ≡ no_message = p k (omega arith) in
      sent_by (λ y v. settled t k y ≡ v) t x
      (ap (λ (j : ℕ). with_messages t j (set (take j (without k t.messages) ++ drop j t.messages) j no_message)) e
      ∙ ap (λ (y : List Message). with_messages t k (set y k no_message)) m
      ∙ ap (λ (y : Message). with_messages t k (set t.messages k y)) (sym z)
      ∙ ap (λ (y : List Message). with_messages t k y) (set-get_or t.messages k no_message)
      ∙ ap (λ (j : ℕ). with_messages t j t.messages) b)
      (λ w g.
      ap (λ (j : ℕ). with_messages t (counted j (Some w)) (set (take j (without k t.messages) ++ drop j t.messages) j w)) e
      ∙ rw g (ap (λ (y : List Message). with_messages t (k + 1) (set y k w)) m ∙ ap (λ (j : ℕ). with_messages t (j + 1) (set t.messages j w)) b))

  pub settled_is : k ≤ t.in_flight → kept k t.in_flight < 128 → settled t k (stored x t.machines) ≡ send_some (taken t k) x
  unfolding taken
  settled_is b c =
      by_bool (ltb k t.in_flight)
      (λ e. rw (e, taken) (taken_off_lem (ltb-true _ _ e)))
      (λ e. let g = ltb-false _ _ e in let d = kept_none k t.in_flight g in rw (e, taken) (none_off (omega arith) (omega arith)))

  -- with no slot left nothing is stored, and nothing is written
  pub settled_full : k ≡ t.in_flight → stored x t.machines ≡ None
      → with_messages t (counted (kept k t.in_flight) (stored x t.machines)) (moved_up t k (kept k t.in_flight)).messages
      ≡ send_some (taken t k) x
  unfolding taken counted parts
  settled_full b z =
      let e : kept k t.in_flight ≡ k = kept_none k t.in_flight (omega arith) ∙ sym b in
      let m : take k (without k t.messages) ++ drop k t.messages ≡ t.messages = sym (shift_none no_message k t.messages (omega arith)) in
      ap (λ (y : Option Message). with_messages t (counted (kept k t.in_flight) y) (moved_up t k (kept k t.in_flight)).messages) z
      ∙ ap (λ (j : ℕ). with_messages t j (take j (without k t.messages) ++ drop j t.messages)) e
      ∙ ap (λ (y : List Message). with_messages t k y) m
      ∙ ap (λ (j : ℕ). with_messages t j t.messages) b
      ∙ rw (le-ltb k t.in_flight (omega arith), taken) (sent_none t x z)
