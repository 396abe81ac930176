-- Clauses R, O, N, H and S through REQ, ACK and RESULT: the handlers that change a job.
-- Assumes nothing.
use mathlib.Core.Path.{◌≡◌, refl, sym, ap, ◌∙◌}
use mathlib.Core.Logic.{◌≢◌}
use mathlib.Core.Bool.{Bool, true, false, not, ◌&&◌, ◌||◌, true≢false, false≢true}
use mathlib.Core.List.{◌∷◌}
use Prim.Native.Nat.{ℕ, ◌≤◌}
use native.Mathlib.Omega.{arith}
use lib.Dec.{eqb}
use borrow.Author.Tests.{eq-eqb, eqb-true, eqb-false, not-true, not-false}
use Rattle.table.specs.declared.Job.{Job}
use Rattle.table.specs.declared.Message.{Message}
use Rattle.table.specs.declared.Table.{Table}
use Rattle.table.specs.Views.{job_at, told_at, flight, with_job}
use Rattle.table.specs.Parts.{moved, placed, priced, message, REQ, AUTH, DENIED, OBSOLETE, ACK, RESULT, OPEN, PRICED}
use Rattle.table.proofs.Views.{job_same, job_other, machine_job, pool_job, flight_job}
use Rattle.handler_root.specs.Root.{reply, on_req, on_ack, on_result}
use Rattle.lists.proofs.Cases.{by_bool, by_eq, by_and}
use Rattle.lists.proofs.Count.{ind, count, Every}
use Rattle.theorem_invariant.proofs.Frame.{frame_refl, frame_job}
use Rattle.theorem_invariant.proofs.State.{Transfer, Known, Received, transfer, is_transfer, ack_from, has, held}
use Rattle.theorem_invariant.proofs.TransferLaws.{transfer_eqs, transfer_other, transfer_not, ack_other, ack_not, acks_transfers, result_other}
use Rattle.theorem_invariant.proofs.TransferLaws.{result_not, has_same, known_plain, places}
use Rattle.theorem_invariant.proofs.TransferFrame.{transfer_lost}
use Rattle.theorem_invariant.proofs.TransferSend.{transfer_sends, transfer_swap}
use Rattle.theorem_invariant.proofs.TransferJob.{transfer_job, known_still, known_not_open, known_others}
use Rattle.theorem_invariant.proofs.TransferAnswers.{TransferNow}

or_right : (a b : Bool) → a || b ≡ false → b ≡ false
or_right true b e = absurd (true≢false e)
or_right false b e = e

-- the message counts for the move of its own job
transfer_own : (k r : ℕ) (x : Message) → x.kind ≡ k → is_transfer k ≡ true → x.replica ≡ r → transfer x.job r x ≡ true
unfolding transfer
transfer_own k r x e t h = rw (e, t, eq-eqb x.job x.job refl, eq-eqb x.replica r h)

transfer_sent : (f j q th r : ℕ) → q ≡ r → transfer j r (message AUTH 0 f j q th) ≡ true
unfolding transfer is_transfer message
transfer_sent f j q th r e = rw (eq-eqb j j refl, eq-eqb q r e)

ack_own : (r : ℕ) (x : Message) → x.kind ≡ ACK → x.replica ≡ r → ack_from x.job r x.from x ≡ true
unfolding ack_from
ack_own r x e h = rw (e, eq-eqb x.from x.from refl, eq-eqb x.job x.job refl, eq-eqb x.replica r h)

has_job : (s : Table) (i : ℕ) (v : Job) (j r p : ℕ) → has (with_job s i v) j r p ≡ has s j r p
has_job s i v j r p = has_same s (with_job s i v) j r p (machine_job s i v p) (pool_job s i v p j)

module _ (s : Table) (x : Message) (h : Received s x) (g : Transfer s (x ∷ flight s)) where
  abbrev i : ℕ
  i = x.job

  abbrev v₀ : Job
  v₀ = job_at s x.job

  same : (v : Job) → job_at (with_job s i v) i ≡ v
  same v = job_same s h.sized i v h.message.job

  -- ---- ACK of an open job's current copy: the job is on its sender
  arrives : x.kind ≡ ACK → v₀.state ≡ OPEN → v₀.replica ≡ x.replica → TransferNow (with_job s i (placed v₀ x.from))
  unfolding held placed
  arrives k7 op cu =
      let l = flight s in
      let r = v₀.replica in
      let v = placed v₀ x.from in
      let u = with_job s i v in
      let w = h.message in
      let tx : transfer i r x ≡ true = transfer_own ACK r x k7 (unfold is_transfer in refl) (sym cu) in
      let zero : count (transfer i r) l ≡ 0 = omega (arith, ap ind tx, g.moves i w.job op, (h.facts.job i w.job).moving) in
      let ax : ack_from i r x.from x ≡ true = ack_own r x k7 (sym cu) in
      let hr : 1 ≤ held s (x ∷ l) i r x.from = g.acked i x.from w.job w.from op (omega (arith, ap ind ax)) in
      let t : Transfer u l =
      transfer_job s u i v (x ∷ l) l (same v) (λ j e. job_other s i j v e) (machine_job s i v) (λ m j a e. pool_job s i v m j)
      (known_still s u i l (rw (same v)) (rw (same v)) g.known.1 (rw (same v) zero)) (known_others s i l g.known.1)
      (λ a q e. omega (arith, ap ind (transfer_not a q x (λ d. e (sym d)))))
      (λ a p e. omega (arith, ap ind (result_other ACK a p x k7 refl)))
      (λ a q p e. omega (arith, ap ind (ack_not a q p x (λ d. e (sym d)))))
      (λ m a. rw pool_job (g.pools m i a w.job))
      (λ o. omega arith)
      (λ o c. omega (arith, hr, has_job s i v i r x.from, ap ind (result_other ACK i x.from x k7 refl)))
      (λ o (c : ◌≡◌ {A = ℕ} 0 1). absurd (omega arith))
      (λ p a o c. absurd (omega (arith, acks_transfers i r p l)))
      g in
      simp flight_job t

  pub transfer_ack : x.kind ≡ ACK → TransferNow (on_ack s x)
  unfolding on_ack
  transfer_ack k7 =
      by_and (eqb v₀.state OPEN) (eqb v₀.replica x.replica)
      (λ a b c. rw (c, on_ack) (arrives k7 (eqb-true _ _ a) (eqb-true _ _ b)))
      (λ c. rw (c, on_ack) (transfer_lost s x (flight s)
      (λ j a o e.
      let es = transfer_eqs j (job_at s j).replica x e in
      let job : job_at s x.job ≡ job_at s j = ap (job_at s) es.1 in
      let z : eqb v₀.state OPEN && eqb v₀.replica x.replica ≡ true =
      rw (eq-eqb v₀.state OPEN (rw job o), eq-eqb v₀.replica x.replica (rw job (sym es.2))) in
      absurd (true≢false (sym z ∙ c)))
      (λ j p o. result_other ACK j p x k7 refl) g))

  -- ---- RESULT: the job is open no more
  prices : x.kind ≡ RESULT → TransferNow (with_job s i (priced v₀ x.price))
  unfolding priced
  prices k9 =
      let l = flight s in
      let v = priced v₀ x.price in
      let u = with_job s i v in
      let w = h.message in
      let re : (job_at u i).replica ≡ v₀.replica = ap (λ (b : Job). b.replica) (same v) in
      let shut : ◌≡◌ {A = ℕ} 2 1 → ⊥ = λ e. omega arith in
      let t : Transfer u l =
      transfer_job s u i v (x ∷ l) l (same v) (λ j e. job_other s i j v e) (machine_job s i v) (λ m j a e. pool_job s i v m j)
      (known_not_open s u i l (omega arith) g.known.1 (rw (same v) shut)) (known_others s i l g.known.1)
      (λ a q e. omega (arith, ap ind (transfer_other RESULT a q x k9 (unfold is_transfer in refl))))
      (λ a p e. omega (arith, ap ind (result_not a p x (λ d. e (sym d)))))
      (λ a q p e. omega (arith, ap ind (ack_other RESULT a q p x k9 refl)))
      (λ m a. rw pool_job (g.pools m i a w.job))
      (λ o. absurd (shut o))
      (λ o c. absurd (shut o))
      (λ o c. absurd (shut o))
      (λ p a o c. absurd (shut o))
      g in
      simp flight_job t

  pub transfer_result : x.kind ≡ RESULT → TransferNow (on_result s x)
  unfolding on_result
  transfer_result k9 =
      by_bool (eqb v₀.state OPEN)
      (λ a. rw (a, on_result) (prices k9))
      (λ a. rw (a, on_result) (transfer_lost s x (flight s)
      (λ j b o e. absurd (true≢false (sym e ∙ transfer_other RESULT j (job_at s j).replica x k9 (unfold is_transfer in refl))))
      (λ j p o. result_not j p x (λ e. eqb-false v₀.state OPEN a (rw e o)))
      g))

  -- ---- REQ
  known_obsolete : eqb v₀.state PRICED || not (eqb v₀.replica x.replica) ≡ true
      → Known s (message OBSOLETE 0 x.from x.job x.replica x.thief)
  unfolding message
  known_obsolete a = record {
    cap = g.known.0.cap;
    old = λ e o.
        let z : not (eqb v₀.replica x.replica) ≡ true = rw o at a in
        let f : v₀.replica ≢ x.replica = eqb-false _ _ (not-true _ z) in
        omega (arith, g.known.0.cap);
    ends =
        λ b c. record {
          auth = λ (e : ◌≡◌ {A = ℕ} 5 3). absurd (omega arith);
          schedule = λ (e : ◌≡◌ {A = ℕ} 5 6). absurd (omega arith);
          ack = λ (e : ◌≡◌ {A = ℕ} 5 7). absurd (omega arith);
        };
  }

  known_auth : Known (with_job s i (moved v₀ x.from x.thief)) (message AUTH 0 x.from x.job x.replica x.thief)
  unfolding message moved
  known_auth =
      let jb = same (moved v₀ x.from x.thief) in
      record {
        cap = rw jb g.known.0.cap;
        old = λ (e : ◌≡◌ {A = ℕ} 3 5). absurd (omega arith);
        ends =
            λ a b. record {
              auth = λ e. rw jb (refl, refl);
              schedule = λ (e : ◌≡◌ {A = ℕ} 3 6). absurd (omega arith);
              ack = λ (e : ◌≡◌ {A = ℕ} 3 7). absurd (omega arith);
            };
      }

  -- the root's answer leaves the table as it was
  answers : (c : ℕ) → x.kind ≡ REQ → is_transfer c ≡ false → eqb c ACK ≡ false → eqb c RESULT ≡ false → eqb c REQ ≡ false
      → Known s (message c 0 x.from x.job x.replica x.thief) → TransferNow (reply s x c)
  unfolding reply
  answers c k2 tc ac rc qc ky =
      let y = message c 0 x.from x.job x.replica x.thief in
      let ey : y.kind ≡ c = unfold message in refl in
      transfer_sends s s y (frame_refl s h.sized) (λ e. h.room) h.facts.root (rw (ey, qc, ac, rc) (λ e. absurd (false≢true e)))
      (transfer_swap s s x y (flight s) REQ c k2 ey (unfold is_transfer in refl) tc refl ac (places s h.facts) (λ j. refl) (λ k. refl) g.pools ky
      (λ j p a b o. omega arith) g)

  -- the job moves, and AUTH is on its way
  moves : x.kind ≡ REQ → v₀.moving ≡ 0 → v₀.replica ≡ x.replica → TransferNow (reply (with_job s i (moved v₀ x.from x.thief)) x AUTH)
  unfolding reply held moved
  moves k2 still cu =
      let l = flight s in
      let r = v₀.replica in
      let v = moved v₀ x.from x.thief in
      let u = with_job s i v in
      let w = h.message in
      let y = message AUTH 0 x.from x.job x.replica x.thief in
      let ey : y.kind ≡ AUTH = unfold message in refl in
      let jy : y.job ≡ i = unfold message in refl in
      let my : transfer i r y ≡ true = transfer_sent x.from i x.replica x.thief r (sym cu) in
      let none : v₀.state ≡ OPEN → count (transfer i r) l ≡ 0 = λ o. omega (arith, g.moves i w.job o) in
      let known : Every (λ z. z.job ≡ i → Known u z) l =
      by_eq v₀.state OPEN
      (λ o. known_still s u i l (rw (same v)) (rw (same v)) g.known.1 (rw (same v) (none o)))
      (λ o. known_not_open s u i l (rw (same v) (omega arith)) g.known.1 (rw (same v) o)) in
      let t : Transfer u (y ∷ l) =
      transfer_job s u i v (x ∷ l) (y ∷ l) (same v) (λ j e. job_other s i j v e) (machine_job s i v) (λ m j a e. pool_job s i v m j)
      ((λ e. known_auth), known) ((λ e. absurd (e jy)), known_others s i l g.known.1)
      (λ a q e. omega (arith, ap ind (transfer_other REQ a q x k2 (unfold is_transfer in refl)), ap ind (transfer_not a q y (λ d. e (sym d ∙ jy)))))
      (λ a p e. omega (arith, ap ind (result_other REQ a p x k2 refl), ap ind (result_other AUTH a p y ey refl)))
      (λ a q p e. omega (arith, ap ind (ack_other REQ a q p x k2 refl), ap ind (ack_other AUTH a q p y ey refl)))
      (λ m a. rw pool_job (g.pools m i a w.job))
      (λ o. omega (arith, none o, ap ind my))
      (λ o (c : ◌≡◌ {A = ℕ} 1 0). absurd (omega arith))
      (λ o c. omega (arith, ap ind my))
      (λ p a o c. absurd (omega (arith, none o, acks_transfers i r p l, ap ind (ack_other AUTH i r p y ey refl))))
      g in
      transfer_sends s u y (frame_job s s (frame_refl s h.sized) i v) (λ e. h.room) h.facts.root (rw ey (λ e. absurd (false≢true e))) t

  pub transfer_req : x.kind ≡ REQ → TransferNow (on_req s x)
  unfolding on_req
  transfer_req k2 =
      by_bool (eqb v₀.state PRICED || not (eqb v₀.replica x.replica))
      (λ a. rw (a, on_req) (answers OBSOLETE k2 (unfold is_transfer in refl) refl refl refl (known_obsolete a)))
      (λ a. by_bool (not (eqb (told_at s 0 x.thief) 0) || not (eqb v₀.moving 0))
      (λ b. rw (a, b, on_req) (answers DENIED k2 (unfold is_transfer in refl) refl refl refl
      (known_plain s (message DENIED 0 x.from x.job x.replica x.thief) 4 (unfold message in refl) (unfold is_transfer in refl) refl
      (unfold message in g.known.0.cap))))
      (λ b. rw (a, b, on_req) (moves k2
      (eqb-true _ _ (not-false _ (or_right (not (eqb (told_at s 0 x.thief) 0)) _ b)))
      (eqb-true _ _ (not-false _ (or_right (eqb v₀.state PRICED) _ a))))))
