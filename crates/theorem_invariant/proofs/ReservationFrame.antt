-- Clause C through sending and through updates that leave every reserved copy as it was.
-- Assumes nothing.
use mathlib.Core.Path.{◌≡◌, refl, sym, ap, ◌∙◌}
use mathlib.Core.Bool.{true}
use mathlib.Core.List.{List, [], ◌∷◌, ◌++◌}
use Prim.Native.Nat.{ℕ, ◌<◌}
use native.Mathlib.Omega.{arith}
use Rattle.lists.proofs.Count.{ind, count, count_append}
use Rattle.table.specs.declared.Message.{Message}
use Rattle.table.specs.declared.Table.{Table}
use Rattle.table.specs.Views.{machine_at, message_at, flight}
use Rattle.table.specs.Messages.{remove_at, send}
use Rattle.table.specs.Needs.{RoomFor}
use Rattle.table.specs.Parts.{reserves, REQ}
use Rattle.table.proofs.Views.{Sized, views}
use Rattle.theorem_invariant.proofs.State.{ReservationMatched, about}
use Rattle.theorem_invariant.proofs.Flight.{Apart, sends, takes, count_taken}
use Rattle.theorem_invariant.proofs.Frame.{Frame, frame_room}
use Rattle.theorem_invariant.proofs.About.{plain, about_plain, plain_not, about_dead}

-- every machine of u has the copy reserved that it has in s
abbrev pub SameReserved : Table → Table → Type 0
SameReserved s u = (m j q th : ℕ) → reserves (machine_at u m) j q th ≡ reserves (machine_at s m) j q th

-- another table with the same reserved copies, another list with as many messages about each
pub reservation_frame : (s u : Table) (l k : List Message) → Frame s u → SameReserved s u
    → ((m th j q : ℕ) → count (about m th j q) k ≡ count (about m th j q) l) → ReservationMatched s l → ReservationMatched u k
reservation_frame s u l k f re ct c m th j q ml tl alive told =
    ct m th j q ∙ c m th j q ml tl (sym (f.alive m) ∙ alive) (sym (f.told m th) ∙ told) ∙ ap ind (sym (re m j q th))

-- a message that is about no copy does not count
pub reservation_forget : (t : Table) (x : Message) (l : List Message) → plain x.kind ≡ true → ReservationMatched t (x ∷ l) → ReservationMatched t l
reservation_forget t x l p c m th j q ml tl alive told = omega (arith, ap ind (about_plain m th j q x p), c m th j q ml tl alive told)

pub reservation_add : (t : Table) (y : Message) (l : List Message) → plain y.kind ≡ true → ReservationMatched t l → ReservationMatched t (y ∷ l)
reservation_add t y l p c m th j q ml tl alive told = omega (arith, ap ind (about_plain m th j q y p), c m th j q ml tl alive told)

pub reservation_apart : Apart ReservationMatched
reservation_apart t n k l c = simp views c

reservation_last : (t : Table) (x : Message) (l : List Message) → ReservationMatched t (x ∷ l) → ReservationMatched t (l ++ x ∷ [])
reservation_last t x l c m th j q ml tl alive told = omega (arith, count_append (about m th j q) l (x ∷ []), c m th j q ml tl alive told)

-- a message x, counted already, is sent: it counts for a living receiver alone
pub reservation_sends : (t : Table) (x : Message) → Sized t → RoomFor t x.to → (machine_at t 0).alive ≡ 1 → (x.kind ≡ REQ → x.to ≡ 0)
    → ReservationMatched t (x ∷ flight t) → ReservationMatched (send t x) (flight (send t x))
reservation_sends t x s l root asks =
    sends ReservationMatched reservation_apart t x s l
    (reservation_last t x (flight t))
    (λ d c m th j q ml tl alive told. omega (arith, ap ind (about_dead t x m th j q asks root d alive), c m th j q ml tl alive told))

-- a message is taken off
pub reservation_takes : (t : Table) (k : ℕ) → Sized t → k < t.in_flight → ReservationMatched t (flight t)
    → ReservationMatched (remove_at t k) (message_at t k ∷ flight (remove_at t k))
reservation_takes t k s h c =
    takes t k s h ReservationMatched reservation_apart (λ m th j q ml tl alive told. count_taken t k s h (about m th j q)
    ∙ c m th j q ml tl alive told)

-- over the table s, an updated table u sends a message that is about no copy
module _ (s u : Table) (y : Message) (f : Frame s u) (re : SameReserved s u)
    (room : RoomFor s y.to) (root : (machine_at s 0).alive ≡ 1) (p : plain y.kind ≡ true) where
  pub reservation_plain : ReservationMatched s (flight s) → ReservationMatched (send u y) (flight (send u y))
  reservation_plain c =
      reservation_sends u y f.sized (frame_room s u f y.to room) (f.alive 0 ∙ root) (λ e. absurd (plain_not y p e))
      (reservation_add u y (flight u) p (rw f.flight (reservation_frame s u (flight s) (flight s) f re (λ m th j q. refl) c)))

-- no message is sent
pub reservation_unsent : (s u : Table) → Frame s u → SameReserved s u → ReservationMatched s (flight s) → ReservationMatched u (flight u)
reservation_unsent s u f re c = rw f.flight (reservation_frame s u (flight s) (flight s) f re (λ m th j q. refl) c)
