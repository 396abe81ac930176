-- Clause C through Die: it no longer speaks of the dead machine, and the dropped messages counted for that machine alone.
-- Assumes nothing.
use mathlib.Core.Path.{◌≡◌, sym, ap, ◌∙◌}
use mathlib.Core.Logic.{◌≢◌}
use mathlib.Core.Bool.{true, ◌&&◌}
use Prim.Native.Nat.{ℕ}
use native.Mathlib.Omega.{arith}
use lib.Dec.{eqb}
use borrow.Author.Tests.{ne_eqb, eqb-true}
use Rattle.lists.proofs.Cases.{by_bool, and_left, and_right}
use Rattle.lists.proofs.Count.{ind, count, count_filter, every_map}
use Rattle.table.specs.declared.Machine.{Machine}
use Rattle.table.specs.declared.Message.{Message}
use Rattle.table.specs.declared.Table.{Table}
use Rattle.table.specs.Views.{machine_at, flight}
use Rattle.table.specs.Messages.{not_to}
use Rattle.table.specs.Parts.{copy_is, reserves, REQ}
use Rattle.event_admit_deliver_die.specs.AdmitDeliverDie.{died}
use Rattle.event_admit_deliver_die.proofs.Cases.{Dying}
use Rattle.protocol_preservation.proofs.Facts.{MessageFacts}
use Rattle.theorem_invariant.proofs.State.{ReservationMatched, Invariant, machine_16, is_answer, about}
use Rattle.event_admit_deliver_die.proofs.Views.{told_died, flight_died, machine_died, machine_died_other}

-- a message about m's copy is to m or to the root
about_kept : (m th j q a : ℕ) (x : Message) → a ≢ 0 → m ≢ a → (x.kind ≡ REQ → x.to ≡ 0) → about m th j q x ≡ true → not_to a x ≡ true
unfolding about
about_kept m th j q a x nz nm asks e =
    by_bool (eqb x.kind REQ)
    (λ f. rw (asks (eqb-true x.kind REQ f), ne_eqb 0 a (λ d. nz (sym d))))
    (λ f.
    let g : is_answer x.kind && eqb x.to m && copy_is x.job x.replica x.thief j q th ≡ true = rw f at e in
    let to : x.to ≡ m = eqb-true x.to m (and_right (is_answer x.kind) (eqb x.to m) (and_left (is_answer x.kind && eqb x.to m) _ g)) in
    rw (to, ne_eqb m a nm))

module _ (t : Table) (w : Invariant t) (a : ℕ) (d : Dying t a) where
  alive_not : (m : ℕ) → (machine_at (died t a) m).alive ≡ 1 → m ≢ a
  alive_not m alive e =
      let z : ◌≡◌ {A = ℕ} 0 1 = sym (ap (λ (n : Machine). n.alive) (machine_died t a w.sized (machine_16 t w a d.machine)))
      ∙ ap (λ (k : ℕ). (machine_at (died t a) k).alive) (sym e) ∙ alive in
      omega arith

  pub reservation_died : ReservationMatched (died t a) (flight (died t a))
  reservation_died m th j q ml tl alive told =
      let e : m ≢ a = alive_not m alive in
      let same : machine_at (died t a) m ≡ machine_at t m = machine_died_other t a m e in
      ap (count (about m th j q)) (flight_died t a)
      ∙ count_filter (about m th j q) (not_to a) (flight t)
      (every_map (MessageFacts t) (λ x. about m th j q x ≡ true → not_to a x ≡ true) (flight t)
      (λ x f. about_kept m th j q a x d.other e (λ k. f.root (rw k))) w.facts.message)
      ∙ w.reservation m th j q ml tl (sym (ap (λ (n : Machine). n.alive) same) ∙ alive) (sym (told_died t a m th) ∙ told)
      ∙ ap (λ (n : Machine). ind (reserves n j q th)) (sym same)
