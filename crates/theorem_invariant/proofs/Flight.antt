-- Sending a message and taking one off, for any property of a table and a list of messages: what the property must bear, so that it is kept.
-- Assumes nothing.
use mathlib.Core.Path.{◌≡◌, refl}
use mathlib.Core.Logic.{◌≢◌}
use mathlib.Core.Bool.{Bool}
use mathlib.Core.List.{List, [], ◌∷◌, ◌++◌}
use Prim.Native.Nat.{ℕ, ◌<◌}
use native.Mathlib.Omega.{arith}
use lib.Dec.{eqb}
use borrow.Author.Tests.{eqb-true, eqb-false}
use lib.ListN.{length}
use Rattle.lists.specs.Scan.{without}
use Rattle.lists.proofs.Cases.{by_bool, cond_elim}
use Rattle.lists.proofs.Count.{count, count_delete, Every, every_delete, every_at}
use Rattle.table.specs.declared.Message.{Message}
use Rattle.table.specs.declared.Table.{Table}
use Rattle.table.specs.Views.{no_message, machine_at, message_at, flight, with_messages}
use Rattle.table.specs.Messages.{push, remove_at, send}
use Rattle.table.specs.Needs.{RoomFor}
use Rattle.table.proofs.Views.{Sized, length_flight}
use Rattle.table.proofs.Messages.{flight_push, flight_remove_at, message_flight}

-- a view of either of two tables
pub view_send : {A : Type 0} (f : Table → A) (t : Table) (x : Message) → ((n : ℕ) (l : List Message) → f (with_messages t n l) ≡ f t)
    → f (send t x) ≡ f t
unfolding send push
view_send f t x h = cond_elim (λ u. f u ≡ f t) (eqb (machine_at t x.to).alive 1) _ t (h _ _) refl

-- P does not read the slots of the table
abbrev pub Apart : (Table → List Message → Type 0) → Type 0
Apart P = (t : Table) (n : ℕ) (k l : List Message) → P t l → P (with_messages t n k) l

pub pushed : (P : Table → List Message → Type 0) → Apart P → (t : Table) (x : Message) (l : List Message) → P t l → P (push t x) l
unfolding push
pushed P a t x l i = a t _ _ l i

pub removed : (P : Table → List Message → Type 0) → Apart P → (t : Table) (k : ℕ) (l : List Message) → P t l → P (remove_at t k) l
unfolding remove_at
removed P a t k l i = a t _ _ l i

-- the message that is sent is stored at the end, or nowhere where its receiver is dead
pub sends : (P : Table → List Message → Type 0) → Apart P → (t : Table) (x : Message) → Sized t → RoomFor t x.to
    → (P t (x ∷ flight t) → P t (flight t ++ x ∷ []))
    → ((machine_at t x.to).alive ≢ 1 → P t (x ∷ flight t) → P t (flight t))
    → P t (x ∷ flight t) → P (send t x) (flight (send t x))
unfolding send
sends P a t x s l last drop i =
    by_bool (eqb (machine_at t x.to).alive 1)
    (λ e. rw (e, send) (rw (flight_push t s x (l (eqb-true _ 1 e))) (pushed P a t x (flight t ++ x ∷ []) (last i))))
    (λ e. rw (e, send) (drop (eqb-false _ _ e) i))

-- the message in slot k is taken off
module _ (t : Table) (k : ℕ) (s : Sized t) (h : k < t.in_flight) where
  slot : k < length (flight t)
  slot = let n = length_flight t s in omega arith

  pub takes : (P : Table → List Message → Type 0) → Apart P → P t (message_at t k ∷ without k (flight t))
      → P (remove_at t k) (message_at t k ∷ flight (remove_at t k))
  takes P a i = rw (flight_remove_at t s k h) (removed P a t k (message_at t k ∷ without k (flight t)) i)

  pub count_taken : (p : Message → Bool) → count p (message_at t k ∷ without k (flight t)) ≡ count p (flight t)
  count_taken p = rw (← message_flight t s k h) (count_delete p (flight t) k no_message slot)

  pub every_taken : (P : Message → Type 0) → Every P (flight t) → Every P (message_at t k ∷ without k (flight t))
  every_taken P e = rw (← message_flight t s k h) (every_at P (flight t) k no_message slot e, every_delete P (flight t) k e)
