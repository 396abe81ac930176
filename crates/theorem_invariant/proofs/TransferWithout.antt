-- Clauses R, O, N, H and S without a dead machine: its copies are gone, or messages from it or to it,
-- and the other machines and their messages are as before.
-- Assumes nothing.
use mathlib.Core.Path.{◌≡◌, sym, ap, ◌∙◌}
use mathlib.Core.Logic.{◌≢◌}
use mathlib.Core.Bool.{Bool, true, ◌&&◌}
use mathlib.Core.List.{List}
use Prim.Native.Nat.{ℕ, ◌≤◌, ◌<◌}
use native.Mathlib.Omega.{arith}
use lib.Dec.{eqb}
use borrow.Author.Tests.{eqb-true}
use Rattle.table.specs.declared.Job.{Job}
use Rattle.table.specs.declared.Machine.{Machine}
use Rattle.table.specs.declared.Message.{Message}
use Rattle.table.specs.declared.Table.{Table}
use Rattle.table.specs.Views.{job_at, machine_at, pool_at, flight}
use Rattle.table.specs.Parts.{RESULT, OPEN}
use Rattle.protocol_preservation.proofs.Facts.{MessageFacts}
use Rattle.lists.specs.Scan.{filter}
use Rattle.lists.proofs.Cases.{by_eq, and_left, and_right}
use Rattle.lists.proofs.Count.{count, count_filter, count_filter_le, every_map, every_filter, every_zip}
use Rattle.theorem_invariant.proofs.State.{Transfer, Known, Ends, Sender, Invariant, is_answer, transfer, ack_from, result_from, dead, has, held}
use Rattle.theorem_invariant.proofs.TransferLaws.{dead_same, dead_one, transfer_eqs, transfer_kinds, has_same}
use Rattle.theorem_invariant.proofs.TransferFrame.{transfer_frame}

module _ (t u : Table) (d : ℕ) (q : Message → Bool) (w : Invariant t) (nz : d ≢ 0)
    (jb : (j : ℕ) → job_at u j ≡ job_at t j)
    (gone : dead u d ≡ 1)
    (nd : (m : ℕ) → m ≢ d → machine_at u m ≡ machine_at t m)
    (po : (m j : ℕ) → j < 64 → m ≢ d → pool_at u m j ≡ pool_at t m j)
    (pl : (j : ℕ) → d < 16 → j < 64 → pool_at u d j ≤ (job_at t j).replica)
    (keeps : (x : Message) → x.from ≢ d → x.to ≢ d → q x ≡ true) where
  abbrev l : List Message
  l = filter q (flight t)

  -- a dead machine stays dead
  dead_le : (p : ℕ) → dead t p ≤ dead u p
  dead_le p =
      by_eq p d
      (λ e. omega (arith, gone, ap (dead u) e, dead_one t p))
      (λ e. omega (arith, dead_same t u p (ap (λ (n : Machine). n.alive) (nd p e))))

  -- what is counted by p is neither from d nor to d, and stays
  counts : (p : Message → Bool) → ((x : Message) → Known t x → MessageFacts t x → Sender t x → p x ≡ true → (x.from ≢ d) × (x.to ≢ d))
      → count p l ≡ count p (flight t)
  counts p far =
      count_filter p q (flight t)
      (every_map (λ x. Known t x × (MessageFacts t x × Sender t x)) (λ x. p x ≡ true → q x ≡ true) (flight t)
      (λ x k e. let f = far x k.0 k.1.0 k.1.1 e in keeps x f.0 f.1)
      (every_zip (Known t) (λ x. MessageFacts t x × Sender t x) (flight t) w.transfer.known
      (every_zip (MessageFacts t) (Sender t) (flight t) w.facts.message w.untold.sender)))

  -- the RESULTs of the others stay
  results : (j p : ℕ) → p ≢ d → count (result_from j p) l ≡ count (result_from j p) (flight t)
  unfolding result_from
  results j p np =
      counts (result_from j p)
      (λ x k f s e.
      let k9 : x.kind ≡ RESULT = eqb-true x.kind RESULT (and_left (eqb x.kind RESULT) (eqb x.from p && eqb x.job j) e) in
      let fr : x.from ≡ p =
      eqb-true x.from p (and_left (eqb x.from p) (eqb x.job j) (and_right (eqb x.kind RESULT) (eqb x.from p && eqb x.job j) e)) in
      ((λ z. np (sym fr ∙ z)), (λ z. nz (sym z ∙ f.root (rw k9)))))

  held_kept : (j r p : ℕ) → j < 64 → 1 ≤ held t (flight t) j r p → 1 ≤ held u l j r p
  unfolding held has
  held_kept j r p a h =
      by_eq p d
      (λ e. omega (arith, gone, ap (dead u) e))
      (λ e. let s : has u j r p ≡ has t j r p = has_same t u j r p (nd p e) (po p j a e) in omega (arith, s, results j p e))

  -- the messages of a move between two others stay
  transfers : (j : ℕ) → (job_at t j).state ≡ OPEN → (job_at t j).holder ≢ d → (job_at t j).thief ≢ d
      → count (transfer j (job_at t j).replica) l ≡ count (transfer j (job_at t j).replica) (flight t)
  transfers j o nh nt =
      counts (transfer j (job_at t j).replica)
      (λ x k f s e.
      let es = transfer_eqs j (job_at t j).replica x e in
      let job : job_at t x.job ≡ job_at t j = ap (job_at t) es.1 in
      let en : Ends t x = k.ends (rw job o) (rw job es.2) in
      let holder : (job_at t j).holder ≡ (job_at t x.job).holder = sym (ap (λ (b : Job). b.holder) job) in
      let thief : (job_at t j).thief ≡ (job_at t x.job).thief = sym (ap (λ (b : Job). b.thief) job) in (
        (λ z. transfer_kinds x.kind es.0
            (λ k3. nz (sym z ∙ s.root (unfold is_answer in rw k3)))
            (λ k6. nh (holder ∙ (en.schedule k6).0 ∙ z))
            (λ k7. nt (thief ∙ en.ack k7 ∙ z))),
        (λ z. transfer_kinds x.kind es.0
            (λ k3. nh (holder ∙ (en.auth k3).0 ∙ z))
            (λ k6. nt (thief ∙ (en.schedule k6).1 ∙ z))
            (λ k7. nz (sym z ∙ f.root (rw k7)))),
      ))

  pub transfer_without : Transfer u l
  transfer_without =
      let g = w.transfer in
      let fewer : (p : Message → Bool) → count p l ≤ count p (flight t) = λ p. count_filter_le p q (flight t) in
      transfer_frame t u l jb
      (every_map (λ x. Known t x × (q x ≡ true)) (Known t) l (λ x a. a.0) (every_filter (Known t) q (flight t) g.known))
      (λ m j a b. by_eq m d (λ e. rw e (pl j (rw e at a) b)) (λ e. rw (po m j b e) (g.pools m j a b)))
      (λ j a o. omega (arith, fewer (transfer j (job_at t j).replica), g.moves j a o))
      (λ j a o c. held_kept j (job_at t j).replica (job_at t j).holder a (g.on j a o c))
      (λ j a o c.
      by_eq (job_at t j).holder d (λ e. omega (arith, gone, ap (dead u) e))
      (λ nh. by_eq (job_at t j).thief d (λ e. omega (arith, gone, ap (dead u) e))
      (λ nt. omega (arith, g.moved j a o c, transfers j o nh nt, dead_le (job_at t j).holder, dead_le (job_at t j).thief))))
      (λ j p a b o c. held_kept j (job_at t j).replica p a (g.acked j p a b o (omega (arith, c, fewer (ack_from j (job_at t j).replica p)))))
