-- Clause C through Notice: of the messages about a living machine's copy none is dropped, and only a copy for the dead thief is returned.
-- Assumes nothing.
use mathlib.Core.Path.{◌≡◌, refl, sym, ap, ◌∙◌}
use mathlib.Core.Logic.{◌≢◌}
use mathlib.Core.Bool.{Bool, true, false, not, ◌&&◌}
use mathlib.Core.List.{List}
use Prim.Native.Nat.{ℕ, ◌+◌, ◌<◌}
use native.Mathlib.Omega.{arith}
use lib.Dec.{eqb}
use borrow.Author.Tests.{ne_eqb, eqb-true}
use Rattle.lists.specs.Scan.{filter}
use Rattle.lists.proofs.Cases.{by_bool, by_eq, by_and, and_left}
use Rattle.lists.proofs.Count.{ind, count, count_filter, Every, every_map}
use Rattle.table.specs.declared.Machine.{Machine}
use Rattle.table.specs.declared.Message.{Message}
use Rattle.table.specs.declared.Table.{Table}
use Rattle.table.specs.Views.{machine_at, told_at, flight}
use Rattle.table.specs.Messages.{not_from}
use Rattle.table.specs.Parts.{copy_is, reserves, REQ}
use Rattle.event_notice.specs.Notice.{notice_local, noticed}
use Rattle.event_notice.proofs.Cases.{Noticing}
use Rattle.theorem_invariant.proofs.State.{ReservationMatched, Invariant, machine_16, Sender, is_answer, about}
use Rattle.theorem_invariant.proofs.About.{reserves_release, reserves_waiting, alive_release, alive_waiting}
use Rattle.theorem_invariant.proofs.NoticeLocal.{return_reserved_machine, clear_wait_machine, notice_local_machine, flight_notice_local}
use Rattle.theorem_invariant.proofs.NoticeLocal.{told_notice_local, told_notice_local_other, told_notice_local_others, machine_notice_local}
use Rattle.theorem_invariant.proofs.NoticeLocal.{machine_notice_local_other}
use Rattle.theorem_invariant.proofs.Reissued.{machine_reissue, told_reissue, flight_reissue}

-- ---- the machine that is told

-- a copy for b is not one for another thief
for_other : (n : Machine) (b j q th : ℕ) → n.reserved_thief ≡ b → th ≢ b → reserves n j q th ≡ false
unfolding reserves copy_is
for_other n b j q th e d =
    rw (ne_eqb n.reserved_thief th (λ f. d (sym f ∙ e)))
    (off (not (eqb n.reserved_replica 0)) (eqb n.reserved_job j) (eqb n.reserved_replica q))
  where
    off : (a c d : Bool) → a && (c && (d && false)) ≡ false
    off true true true = refl
    off true true false = refl
    off true false d = refl
    off false c d = refl

pub alive_notice_local : (n : Machine) (b : ℕ) → (notice_local_machine n b).alive ≡ n.alive
unfolding notice_local_machine
alive_notice_local n b = waits (return_reserved_machine n b) ∙ returns
  where
    waits : (v : Machine) → (clear_wait_machine v b).alive ≡ v.alive
    waits v = unfold clear_wait_machine in by_bool (eqb v.waits (b + 1)) (λ e. rw e (alive_waiting v 0)) (λ e. rw e)

    returns : (return_reserved_machine n b).alive ≡ n.alive
    returns = unfold return_reserved_machine in
        by_bool (not (eqb n.reserved_replica 0) && eqb n.reserved_thief b) (λ e. rw e (alive_release n)) (λ e. rw e)

reserves_clear_wait : (n : Machine) (b j q th : ℕ) → reserves (clear_wait_machine n b) j q th ≡ reserves n j q th
unfolding clear_wait_machine
reserves_clear_wait n b j q th = by_bool (eqb n.waits (b + 1)) (λ e. rw e (reserves_waiting n 0 j q th)) (λ e. rw e)

reserves_return_reserved : (n : Machine) (b j q th : ℕ) → th ≢ b → reserves (return_reserved_machine n b) j q th ≡ reserves n j q th
unfolding return_reserved_machine
reserves_return_reserved n b j q th d =
    by_and (not (eqb n.reserved_replica 0)) (eqb n.reserved_thief b)
    (λ p f e. rw e (reserves_release n j q th ∙ sym (for_other n b j q th (eqb-true _ _ f) d)))
    (λ e. rw e)

reserves_notice_local : (n : Machine) (b j q th : ℕ) → th ≢ b → reserves (notice_local_machine n b) j q th ≡ reserves n j q th
unfolding notice_local_machine
reserves_notice_local n b j q th d = reserves_clear_wait (return_reserved_machine n b) b j q th ∙ reserves_return_reserved n b j q th d

-- ---- the messages

about_from : (m th j q : ℕ) (x : Message) → about m th j q x ≡ true → x.from ≢ m → is_answer x.kind ≡ true
unfolding about
about_from m th j q x e n =
    let is = copy_is x.job x.replica x.thief j q th in
    by_bool (eqb x.kind REQ)
    (λ f.
    let g : eqb x.from m && is ≡ true = rw f at e in
    absurd (n (eqb-true x.from m (and_left (eqb x.from m) is g))))
    (λ f.
    let g : is_answer x.kind && eqb x.to m && is ≡ true = rw f at e in
    and_left (is_answer x.kind) (eqb x.to m) (and_left (is_answer x.kind && eqb x.to m) is g))

pub not_from_lem : (a b : ℕ) (x : Message) → (x.from ≡ b → ⊥) → not_from b a x ≡ true
not_from_lem a b x n = rw (ne_eqb x.from b n)

-- those about a living machine's copy are not from b: a REQ is from the machine, an answer from the root
about_stays : (t : Table) (l : List Message) (a b m th j q : ℕ) → b ≢ 0 → m ≢ b → Every (Sender t) l
    → count (about m th j q) (filter (not_from b a) l) ≡ count (about m th j q) l
about_stays t l a b m th j q nz nm h =
    count_filter (about m th j q) (not_from b a) l
    (every_map (Sender t) (λ x. about m th j q x ≡ true → not_from b a x ≡ true) l
    (λ x f e. not_from_lem a b x (λ d. nz (sym d ∙ f.root (about_from m th j q x e (λ g. nm (sym g ∙ d))))))
    h)

-- ---- the event

module _ (t : Table) (a b : ℕ) (w : Invariant t) (al : a < 16) (bl : b < 16) (gone : (machine_at t b).alive ≢ 1) where
  not_root : b ≢ 0
  not_root e = gone (ap (λ (k : ℕ). (machine_at t k).alive) e ∙ w.facts.root)

  reservation_notice_local : ReservationMatched (notice_local t a b) (filter (not_from b a) (flight t))
  reservation_notice_local m th j q ml tl alive told =
      let old : (machine_at t m).alive ≡ 1 → told_at t m th ≡ 0
      → count (about m th j q) (filter (not_from b a) (flight t)) ≡ ind (reserves (machine_at t m) j q th) = λ v o.
      about_stays t (flight t) a b m th j q not_root (λ d. gone (rw (← d) v)) w.untold.sender ∙ w.reservation m th j q ml tl v o in
      by_eq m a
      (λ e.
      let own : machine_at (notice_local t a b) m ≡ notice_local_machine (machine_at t m) b = rw e (machine_notice_local t a b w.sized al) in
      let other : th ≢ b = λ f.
      let z : ◌≡◌ {A = ℕ} 1 0 = sym (told_notice_local t a b w.sized al bl) ∙ ap (λ (d : ℕ). told_at (notice_local t a b) a d) (sym f)
      ∙ ap (λ (k : ℕ). told_at (notice_local t a b) k th) (sym e) ∙ told in
      omega arith in
      old (sym (ap (λ (n : Machine). n.alive) own ∙ alive_notice_local (machine_at t m) b) ∙ alive)
      (sym (told_notice_local_other t a b m th bl tl other) ∙ told)
      ∙ ap ind (sym (ap (λ (n : Machine). reserves n j q th) own ∙ reserves_notice_local (machine_at t m) b j q th other)))
      (λ e.
      let same : machine_at (notice_local t a b) m ≡ machine_at t m = machine_notice_local_other t a b m e in
      old (sym (ap (λ (n : Machine). n.alive) same) ∙ alive) (sym (told_notice_local_others t a b m th bl tl e) ∙ told)
      ∙ ap (λ (n : Machine). ind (reserves n j q th)) (sym same))

pub reservation_noticed : (t : Table) → Invariant t → (a b : ℕ) → Noticing t a b → ReservationMatched (noticed t a b) (flight (noticed t a b))
unfolding noticed
reservation_noticed t w a b n =
    let s = notice_local t a b in
    let c = reservation_notice_local t a b w (machine_16 t w a n.machine) (machine_16 t w b n.named) n.dead in
    by_bool (eqb a 0)
    (λ e. rw (e, noticed) (rw (flight_reissue s b, flight_notice_local t a b) (simp (machine_reissue, told_reissue) c)))
    (λ e. rw (e, noticed) (rw (flight_notice_local t a b) c))
