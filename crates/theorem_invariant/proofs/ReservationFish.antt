-- Clause C through FISH: a copy leaves the pool and is reserved for the thief, and the root is asked.
-- Assumes nothing.
use mathlib.Core.Path.{◌≡◌, refl, sym, ap, ◌∙◌}
use mathlib.Core.Logic.{◌≢◌}
use mathlib.Core.Bool.{true, false}
use mathlib.Core.List.{◌∷◌}
use Prim.Native.Nat.{ℕ, ◌+◌}
use native.Mathlib.Omega.{arith}
use lib.Dec.{eqb, leb}
use borrow.Author.Tests.{eq-eqb, ne_eqb, eqb-true, leb-false}
use Rattle.lists.proofs.Cases.{by_bool, by_eq}
use Rattle.lists.proofs.Count.{ind, count}
use Rattle.table.specs.declared.Machine.{Machine}
use Rattle.table.specs.declared.Message.{Message}
use Rattle.table.specs.declared.Table.{Table}
use Rattle.table.specs.Views.{machine_at, pool_at, flight, with_machine, with_pool}
use Rattle.table.specs.Pools.{lowest}
use Rattle.table.specs.Parts.{copy_is, reserves, reserve, message, REQ, FISH, NOWORK}
use Rattle.table.proofs.Views.{machine_same, machine_other, machine_pool, sized_pool}
use Rattle.handler_victim.specs.Victim.{no_work, grant, on_fish}
use Rattle.protocol_preservation.proofs.Facts.{lowest_in_lem}
use Rattle.theorem_invariant.proofs.State.{ReservationMatched, Received, is_answer, about}
use Rattle.theorem_invariant.proofs.Frame.{Frame, frame_refl, frame_pool, frame_machine}
use Rattle.theorem_invariant.proofs.About.{plain, about_plain, about_req, reserves_none, reserves_reserve, alive_reserve}
use Rattle.theorem_invariant.proofs.ReservationFrame.{reservation_forget, reservation_sends, reservation_plain}

module _ (s : Table) (x : Message) (h : Received s x) (fish : x.kind ≡ FISH) (c : ReservationMatched s (x ∷ flight s)) where
  off : plain x.kind ≡ true
  unfolding plain is_answer
  off = rw fish

  refuses : ReservationMatched (no_work s x.to x.from) (flight (no_work s x.to x.from))
  unfolding no_work
  refuses =
      reservation_plain s s (message NOWORK x.to x.from 0 0 0) (frame_refl s h.sized) (λ m j q th. refl) (λ e. h.room) h.facts.root
      (unfold plain is_answer message in refl) (reservation_forget s x (flight s) off c)

  module _ (j₀ : ℕ) (free : (machine_at s x.to).reserved_replica ≡ 0) (some : pool_at s x.to j₀ ≢ 0) where
    abbrev v : Machine
    v = reserve (machine_at s x.to) j₀ (pool_at s x.to j₀) x.from

    abbrev u : Table
    u = with_machine (with_pool s x.to j₀ 0) x.to (reserve (machine_at s x.to) j₀ (pool_at s x.to j₀) x.from)

    abbrev y : Message
    y = message REQ x.to 0 j₀ (pool_at s x.to j₀) x.from

    frame_u : Frame s u
    frame_u = frame_machine s (with_pool s x.to j₀ 0) (frame_pool s s (frame_refl s h.sized) x.to j₀ 0) x.to _ (alive_reserve _ _ _ _)

    own : machine_at u x.to ≡ v
    own = machine_same (with_pool s x.to j₀ 0) (sized_pool s x.to j₀ 0 h.sized) x.to _ h.message.to

    other : (k : ℕ) → k ≢ x.to → machine_at u k ≡ machine_at s k
    other k e = rw (machine_other, machine_pool)

    granted : ReservationMatched u (y ∷ flight s)
    granted m th j q ml tl alive told =
        let old : ind (about m th j q x) + count (about m th j q) (flight s) ≡ ind (reserves (machine_at s m) j q th) =
        c m th j q ml tl (sym (frame_u.alive m) ∙ alive) (sym (frame_u.told m th) ∙ told) in
        let none : about m th j q x ≡ false = about_plain m th j q x off in
        let is = about_req x.to j₀ (pool_at s x.to j₀) x.from m th j q in
        by_eq m x.to
        (λ e.
        let before : reserves (machine_at s m) j q th ≡ false = rw e (reserves_none (machine_at s x.to) j q th free) in
        let sent : about m th j q y ≡ copy_is j₀ (pool_at s x.to j₀) x.from j q th = is ∙ rw (eq-eqb x.to m (sym e)) in
        let kept : reserves (machine_at u m) j q th ≡ copy_is j₀ (pool_at s x.to j₀) x.from j q th =
        rw (e, own) (reserves_reserve (machine_at s x.to) j₀ (pool_at s x.to j₀) x.from j q th some) in
        omega (arith, ap ind none, ap ind before, ap ind sent, ap ind kept))
        (λ e.
        let sent : about m th j q y ≡ false = is ∙ rw (ne_eqb x.to m (λ d. e (sym d))) in
        let kept : reserves (machine_at u m) j q th ≡ reserves (machine_at s m) j q th = rw (other m e) in
        omega (arith, ap ind none, ap ind sent, ap ind kept))

    grants : ReservationMatched (grant s x.to x.from j₀) (flight (grant s x.to x.from j₀))
    unfolding grant
    grants =
        reservation_sends u y frame_u.sized (λ e. omega (arith, frame_u.used, h.room))
        (frame_u.alive 0 ∙ h.facts.root) (unfold message in λ e. refl)
        (rw frame_u.flight granted)

  pub reservation_fish : ReservationMatched (on_fish s x) (flight (on_fish s x))
  unfolding on_fish
  reservation_fish =
      by_bool (eqb (machine_at s x.to).reserved_replica 0)
      (λ a. by_bool (leb 64 (lowest s x.to))
      (λ b. rw (a, b, on_fish) refuses)
      (λ b. rw (a, b, on_fish) (grants (lowest s x.to) (eqb-true _ _ a) (lowest_in_lem s x.to (leb-false _ _ b)))))
      (λ a. rw (a, on_fish) refuses)
