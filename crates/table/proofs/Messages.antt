-- What sending, taking off and dropping do to the list of the messages in flight, and that the slots past it stay empty.
-- Assumes nothing.
use Prim.Native.Nat.{ℕ, suc, ◌+◌, ◌-◌, ◌<◌}
use mathlib.Core.Path.{◌≡◌, refl, sym, ap, ◌∙◌}
use mathlib.Core.Bool.{Bool}
use mathlib.Core.List.{List, [], ◌∷◌, ◌++◌, append_assoc}
use native.Mathlib.Numerals.{add-one}
use native.Mathlib.Omega.{arith}
use lib.ListN.{length, get_or, take, drop, set, replicate, length-set, length-append, length-take, length-drop, take-append-drop}
use lib.ListN.{replicate-append-replicate}
use lib.Seq.{take-suc-set, take-append_seam, take-append-le, drop-append-le, take_at, length-take-le, get_or-take, drop_at}
use Rattle.table.specs.declared.Table.{Table}
use Rattle.table.specs.declared.Message.{Message}
use Rattle.table.specs.Views.{no_message, machine_at, flight, message_at, with_messages}
use Rattle.table.specs.Messages.{push, remove_at, keep_messages, send}
use Rattle.table.specs.Needs.{RoomFor}
use Rattle.lists.specs.Scan.{without, filter, pad_to}
use lib.Dec.{eqb}
use borrow.Author.Tests.{eqb-true}
use Rattle.lists.proofs.Cases.{by_bool}
use Rattle.lists.proofs.Scans.{pad_more, length_pad, length_filter}
use Rattle.table.proofs.Views.{Sized, sized_messages, length_flight}

-- the slots past those in flight are empty
unfoldable pub Padded : Table → Type 0
Padded t = t.messages ≡ pad_to 128 no_message (flight t)

pub flight_keep_messages : (t : Table) (p : Message → Bool) → flight (keep_messages t p) ≡ filter p (flight t)
unfolding flight keep_messages with_messages pad_to
flight_keep_messages t p = take-append_seam (filter p (take t.in_flight t.messages)) _

module _ (t : Table) (s : Sized t) where
  pub flight_push : (m : Message) → t.in_flight < 128 → flight (push t m) ≡ flight t ++ (m ∷ [])
  unfolding flight push with_messages
  flight_push m l = rw (add-one, take-suc-set t.messages t.in_flight m (omega arith))

  -- the list of slots is that of the messages in flight and a rest
  split : (k : ℕ) → k < t.in_flight → without k t.messages ≡ without k (flight t) ++ drop t.in_flight t.messages
  unfolding flight without
  split k h =
      let n = t.in_flight in
      let xs = take n t.messages in
      let ys = drop n t.messages in
      let e : length xs ≡ n = length-take-le n t.messages (omega arith) in
      ap (λ (l : List Message). take k l ++ drop (suc k) l) (sym (take-append-drop n t.messages))
      ∙ rw (take-append-le k xs ys (omega arith), drop-append-le (suc k) xs ys (omega arith), append_assoc)

  length_rest : (k : ℕ) → k < t.in_flight → length (without k (flight t)) ≡ t.in_flight - 1
  unfolding without
  length_rest k h = let e = length_flight t s in simp (length-append, length-take, length-drop) (omega arith)

  pub flight_remove_at : (k : ℕ) → k < t.in_flight → flight (remove_at t k) ≡ without k (flight t)
  flight_remove_at k h =
      left ∙ rw (split k h, append_assoc) (take_at (without k (flight t)) (drop t.in_flight t.messages ++ (no_message ∷ []))
      (t.in_flight - 1) (length_rest k h))
    where
      left : flight (remove_at t k) ≡ take (t.in_flight - 1) (without k t.messages ++ (no_message ∷ []))
      left = unfold flight remove_at with_messages in refl

  pub sized_push : (m : Message) → t.in_flight < 128 → Sized (push t m)
  unfolding push
  sized_push m l = sized_messages t _ _ (simp length-set s.messages) (omega arith) s

  pub sized_send : (m : Message) → RoomFor t m.to → Sized (send t m)
  unfolding send
  sized_send m l = by_bool (eqb (machine_at t m.to).alive 1) (λ e. rw (e, send) (sized_push m (l (eqb-true _ 1 e)))) (λ e. rw (e, send) s)

  pub sized_remove_at : (k : ℕ) → k < t.in_flight → Sized (remove_at t k)
  unfolding remove_at without
  sized_remove_at k h = sized_messages t _ _ (simp (length-append, length-take, length-drop) (omega arith)) (omega arith) s

  pub sized_keep_messages : (p : Message → Bool) → Sized (keep_messages t p)
  unfolding keep_messages
  sized_keep_messages p =
      let a = length_filter p (flight t) in
      let b = length_flight t s in
      sized_messages t _ _ (length_pad 128 no_message (filter p (flight t)) (omega arith)) (omega arith) s

  pub message_flight : (i : ℕ) → i < t.in_flight → get_or (flight t) i no_message ≡ message_at t i
  unfolding flight message_at
  message_flight i h = get_or-take t.in_flight t.messages i no_message h

  pub padded_push : (m : Message) → t.in_flight < 128 → Padded t → Padded (push t m)
  unfolding Padded
  padded_push m l p =
      let e = length_flight t s in
      pushed
      ∙ ap (λ (r : List Message). set r t.in_flight m) p
      ∙ ap (λ (k : ℕ). set (pad_to 128 no_message (flight t)) k m) (sym e)
      ∙ pad_more 128 no_message (flight t) m (omega arith)
      ∙ ap (pad_to 128 no_message) (sym (flight_push m l))
    where
      pushed : (push t m).messages ≡ set t.messages t.in_flight m
      pushed = unfold push with_messages in refl

  pub padded_remove_at : (k : ℕ) → k < t.in_flight → Padded t → Padded (remove_at t k)
  unfolding Padded pad_to
  padded_remove_at k h p =
      let n = t.in_flight in
      let e = length_flight t s in
      let d : drop n t.messages ≡ replicate (128 - n) no_message =
      ap (drop n) p ∙ drop_at (flight t) (replicate (128 - length (flight t)) no_message) n e ∙ ap (λ (i : ℕ). replicate (128 - i) no_message) e in
      let c : 128 - length (without k (flight t)) ≡ 128 - n + 1 = omega (arith, length_rest k h) in
      let f : replicate (128 - n) no_message ++ (no_message ∷ []) ≡ replicate (128 - n + 1) no_message =
      replicate-append-replicate (128 - n) 1 no_message in
      let r : without k t.messages ++ (no_message ∷ []) ≡ without k (flight t) ++ replicate (128 - n + 1) no_message =
      rw (split k h, append_assoc, d, f) in
      removed
      ∙ r
      ∙ ap (λ (i : ℕ). without k (flight t) ++ replicate i no_message) (sym c)
      ∙ ap (pad_to 128 no_message) (sym (flight_remove_at k h))
    where
      removed : (remove_at t k).messages ≡ without k t.messages ++ (no_message ∷ [])
      removed = unfold remove_at with_messages in refl

  pub padded_keep_messages : (p : Message → Bool) → Padded (keep_messages t p)
  unfolding Padded
  padded_keep_messages p = filtered ∙ ap (pad_to 128 no_message) (sym (flight_keep_messages t p))
    where
      filtered : (keep_messages t p).messages ≡ pad_to 128 no_message (filter p (flight t))
      filtered = unfold keep_messages with_messages in refl
