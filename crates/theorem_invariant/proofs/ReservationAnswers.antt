-- Clause C through AUTH, DENIED and OBSOLETE: the reserved copy that all three parts match goes on its way, or back to the pool, or is discarded.
-- Assumes nothing.
use mathlib.Core.Path.{◌≡◌, refl, sym, ap, ◌∙◌}
use mathlib.Core.Logic.{◌≢◌}
use mathlib.Core.Bool.{true, false, ◌&&◌}
use mathlib.Core.List.{◌∷◌}
use Prim.Native.Nat.{ℕ, ◌+◌}
use native.Mathlib.Omega.{arith}
use lib.Dec.{eqb}
use borrow.Author.Tests.{eq-eqb, ne_eqb, eqb-true}
use Rattle.lists.proofs.Cases.{by_bool, by_eq, and_left, and_right}
use Rattle.lists.proofs.Count.{ind, count}
use Rattle.table.specs.declared.Message.{Message}
use Rattle.table.specs.declared.Table.{Table}
use Rattle.table.specs.Views.{machine_at, flight, with_machine}
use Rattle.table.specs.Messages.{send}
use Rattle.table.specs.Parts.{copy_is, reserves, release, message, REQ, SCHEDULE, NOWORK}
use Rattle.table.specs.Pools.{returned}
use Rattle.table.proofs.Views.{machine_same, machine_other}
use Rattle.handler_victim.specs.Victim.{no_work, on_auth, on_denied, on_obsolete}
use Rattle.theorem_invariant.proofs.State.{ReservationMatched, Received, is_answer, about}
use Rattle.theorem_invariant.proofs.Frame.{Frame, frame_refl, frame_machine, frame_returned, machine_returned, machine_returned_other}
use Rattle.theorem_invariant.proofs.About.{plain, about_plain, plain_not, about_answer, copy_eqs, reserves_release, reserves_same}
use Rattle.theorem_invariant.proofs.About.{alive_release, kind_message}
use Rattle.theorem_invariant.proofs.ReservationFrame.{reservation_sends}

module _ (s : Table) (x : Message) (h : Received s x) (nr : eqb x.kind REQ ≡ false) (ans : is_answer x.kind ≡ true)
    (c : ReservationMatched s (x ∷ flight s)) where
  is : (m th j q : ℕ) → about m th j q x ≡ eqb x.to m && copy_is x.job x.replica x.thief j q th
  is m th j q = about_answer m th j q x nr ans

  -- no match: the answer counted for nobody
  unmatched : reserves (machine_at s x.to) x.job x.replica x.thief ≡ false → ReservationMatched s (flight s)
  unmatched differs m th j q ml tl alive told =
      by_bool (about m th j q x)
      (λ t.
      let b : eqb x.to m && copy_is x.job x.replica x.thief j q th ≡ true = sym (is m th j q) ∙ t in
      let es = copy_eqs x.job x.replica x.thief j q th (and_right (eqb x.to m) _ b) in
      let e : x.to ≡ m = eqb-true x.to m (and_left (eqb x.to m) _ b) in
      let f : reserves (machine_at s m) j q th ≡ false = cc in
      omega (arith, ap ind t, ap ind f, c m th j q ml tl alive told))
      (λ t. omega (arith, ap ind t, c m th j q ml tl alive told))

  -- a match: in u the receiver's copy is released and nothing else is reserved otherwise; y is about no copy
  module _ (match : reserves (machine_at s x.to) x.job x.replica x.thief ≡ true)
      (u : Table) (f : Frame s u)
      (own : machine_at u x.to ≡ release (machine_at s x.to))
      (other : (k : ℕ) → k ≢ x.to → machine_at u k ≡ machine_at s k) where
    matched : (y : Message) → plain y.kind ≡ true → ReservationMatched u (y ∷ flight s)
    matched y p m th j q ml tl alive told =
        let old : ind (about m th j q x) + count (about m th j q) (flight s) ≡ ind (reserves (machine_at s m) j q th) =
        c m th j q ml tl (sym (f.alive m) ∙ alive) (sym (f.told m th) ∙ told) in
        let new : about m th j q y ≡ false = about_plain m th j q y p in
        by_eq m x.to
        (λ e.
        let a : about m th j q x ≡ copy_is x.job x.replica x.thief j q th = is m th j q ∙ rw (eq-eqb x.to m (sym e)) in
        let b : reserves (machine_at s m) j q th ≡ copy_is x.job x.replica x.thief j q th =
        rw e (reserves_same (machine_at s x.to) x.job x.replica x.thief j q th match) in
        let d : reserves (machine_at u m) j q th ≡ false = rw (e, own) (reserves_release (machine_at s x.to) j q th) in
        omega (arith, ap ind a, ap ind b, ap ind d, ap ind new))
        (λ e.
        let a : about m th j q x ≡ false = is m th j q ∙ rw (ne_eqb x.to m (λ d. e (sym d))) in
        let b : reserves (machine_at u m) j q th ≡ reserves (machine_at s m) j q th = rw (other m e) in
        omega (arith, ap ind a, ap ind b, ap ind new))

    sent : (k o j r : ℕ) → plain k ≡ true → ReservationMatched (send u (message k x.to o j r 0)) (flight (send u (message k x.to o j r 0)))
    sent k o j r p =
        let y = message k x.to o j r 0 in
        let q : plain y.kind ≡ true = rw (kind_message k x.to o j r 0) p in
        reservation_sends u y f.sized (λ e. omega (arith, f.used, h.room)) (f.alive 0 ∙ h.facts.root) (λ e. absurd (plain_not y q e))
        (rw f.flight (matched y q))

  module _ (match : reserves (machine_at s x.to) x.job x.replica x.thief ≡ true) where
    abbrev freed : Table
    freed = with_machine s x.to (release (machine_at s x.to))

    -- the copy is released
    discards : (k o j r : ℕ) → plain k ≡ true
        → ReservationMatched (send freed (message k x.to o j r 0)) (flight (send freed (message k x.to o j r 0)))
    discards =
        let b = x.to in
        let v = release (machine_at s b) in
        let bl = h.message.to in
        sent match freed (frame_machine s s (frame_refl s h.sized) b v (alive_release (machine_at s b)))
        (machine_same s h.sized b v bl) (λ k e. machine_other s b k v e)

    -- the copy returns to the pool
    returns : (k o j r : ℕ) → plain k ≡ true
        → ReservationMatched (send (returned s x.to) (message k x.to o j r 0)) (flight (send (returned s x.to) (message k x.to o j r 0)))
    returns = sent match (returned s x.to) (frame_returned s x.to h.sized) own other
      where
        own : machine_at (returned s x.to) x.to ≡ release (machine_at s x.to)
        own = machine_returned s x.to h.sized h.message.to

        other : (k : ℕ) → k ≢ x.to → machine_at (returned s x.to) k ≡ machine_at s k
        other k e = machine_returned_other s x.to k e

  pub reservation_auth : ReservationMatched (on_auth s x) (flight (on_auth s x))
  unfolding on_auth
  reservation_auth =
      by_bool (reserves (machine_at s x.to) x.job x.replica x.thief)
      (λ e. rw (e, on_auth) (discards e SCHEDULE x.thief x.job x.replica (unfold plain is_answer in refl)))
      (λ e. rw (e, on_auth) (unmatched e))

  pub reservation_denied : ReservationMatched (on_denied s x) (flight (on_denied s x))
  unfolding on_denied no_work
  reservation_denied =
      by_bool (reserves (machine_at s x.to) x.job x.replica x.thief)
      (λ e. rw (e, on_denied) (returns e NOWORK x.thief 0 0 (unfold plain is_answer in refl)))
      (λ e. rw (e, on_denied) (unmatched e))

  pub reservation_obsolete : ReservationMatched (on_obsolete s x) (flight (on_obsolete s x))
  unfolding on_obsolete no_work
  reservation_obsolete =
      by_bool (reserves (machine_at s x.to) x.job x.replica x.thief)
      (λ e. rw (e, on_obsolete) (discards e NOWORK x.thief 0 0 (unfold plain is_answer in refl)))
      (λ e. rw (e, on_obsolete) (unmatched e))
