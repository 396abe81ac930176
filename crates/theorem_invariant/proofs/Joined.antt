-- Every clause but W (Joined.antt of protocol_preservation) through Join: nothing names machine a before it joins (check 9: numbers are in range, unused
-- parts are 0), so each clause is as it was of the machines that were there, and holds of a machine that has nothing.
-- Assumes nothing.
use mathlib.Core.Path.{◌≡◌, refl, sym, ap, ◌∙◌}
use mathlib.Core.Logic.{◌≢◌}
use mathlib.Core.Bool.{Bool, false}
use Prim.Native.Nat.{ℕ, ◌<◌}
use native.Mathlib.Omega.{arith}
use lib.Dec.{eqb}
use borrow.Author.Tests.{ne_eqb}
use Rattle.lists.proofs.Cases.{by_eq, cond_same, and_false}
use Rattle.lists.proofs.Count.{ind, count, count_zero, every_map}
use Rattle.table.specs.declared.Machine.{Machine}
use Rattle.table.specs.declared.Message.{Message}
use Rattle.table.specs.declared.Table.{Table}
use Rattle.table.specs.Views.{idle_machine, job_at, machine_at, flight}
use Rattle.table.specs.Parts.{reserves, REQ, ACK}
use Rattle.event_join.specs.Join.{joined}
use Rattle.event_join.proofs.Cases.{Joining, join_16}
use Rattle.event_join.proofs.Views.{bond_joined, job_joined, pool_joined, told_joined, flight_joined, machine_joined, machine_joined_other}
use Rattle.protocol_preservation.proofs.Facts.{MessageFacts}
use Rattle.theorem_invariant.proofs.State.{ReservationMatched, Transfer, Untold, Prices, Invariant, is_answer, about, ack_from, dead, has, held}
use Rattle.theorem_invariant.proofs.About.{reserves_none}
use Rattle.theorem_invariant.proofs.TransferLaws.{dead_same, has_same}
use Rattle.theorem_invariant.proofs.TransferFrame.{transfer_frame}
use Rattle.theorem_invariant.proofs.UntoldFrame.{untold_machine, copies_idle}
use Rattle.theorem_invariant.proofs.PricesHandle.{prices_by}

-- a message of two other machines is about no copy of machine a, and is no ACK from it
about_others : (a th j q : ℕ) (x : Message) → x.from ≢ a → x.to ≢ a → about a th j q x ≡ false
unfolding about
about_others a th j q x f o = rw (ne_eqb x.from a f, ne_eqb x.to a o, and_false (is_answer x.kind), cond_same (eqb x.kind REQ) false)

ack_others : (j r a : ℕ) (x : Message) → x.from ≢ a → ack_from j r a x ≡ false
unfolding ack_from
ack_others j r a x f = rw (ne_eqb x.from a f, and_false (eqb x.kind ACK))

module _ (t : Table) (w : Invariant t) (a : ℕ) (c : Joining t a) where
  a16 : a < 16
  a16 = join_16 t a c

  -- machine a is none of those that were there
  others : (m : ℕ) → m < t.machine_count → m ≢ a
  others m l e = omega (arith, c.next)

  -- what holds of no message from and to the others is counted 0 times
  none_sent : (p : Message → Bool) → ((x : Message) → x.from ≢ a → x.to ≢ a → p x ≡ false) → count p (flight t) ≡ 0
  none_sent p h =
      count_zero p (flight t) (every_map (MessageFacts t) (λ x. p x ≡ false) (flight t)
      (λ x f. h x (others x.from f.from_in) (others x.to f.to_in)) w.facts.message)

  pub reservation_joined : ReservationMatched (joined t a) (flight (joined t a))
  reservation_joined m th j q ml tl alive told =
      ap (count (about m th j q)) (flight_joined t a)
      ∙ by_eq m a
      (λ e.
      rw (e, machine_joined t a w.sized a16, reserves_none (idle_machine 1) j q th refl) (none_sent (about a th j q) (about_others a th j q)))
      (λ e.
      let same : machine_at (joined t a) m ≡ machine_at t m = machine_joined_other t a m e in
      w.reservation m th j q ml tl (sym (ap (λ (n : Machine). n.alive) same) ∙ alive) (sym (told_joined t a m th) ∙ told)
      ∙ ap (λ (n : Machine). ind (reserves n j q th)) (sym same))

  has_joined : (j r p : ℕ) → p ≢ a → has (joined t a) j r p ≡ has t j r p
  has_joined j r p e = has_same t (joined t a) j r p (machine_joined_other t a p e) (pool_joined t a p j)

  dead_joined : (p : ℕ) → p < t.machine_count → dead (joined t a) p ≡ dead t p
  dead_joined p l = dead_same t (joined t a) p (ap (λ (n : Machine). n.alive) (machine_joined_other t a p (others p l)))

  pub transfer_joined : Transfer (joined t a) (flight (joined t a))
  unfolding held
  transfer_joined =
      let i = w.transfer in
      rw (flight_joined t a)
      (transfer_frame t (joined t a) (flight t) (job_joined t a) i.known (λ m j ml jl. rw (pool_joined t a m j) (i.pools m j ml jl)) i.moves
      (λ j jl o s.
      let v = job_at t j in
      omega (arith, i.on j jl o s, has_joined j v.replica v.holder (others v.holder (w.facts.job j jl).holder_in)))
      (λ j jl o s.
      let f = w.facts.job j jl in
      omega (arith, i.moved j jl o s, dead_joined (job_at t j).holder f.holder_in, dead_joined (job_at t j).thief f.thief_in))
      (λ j p jl pl o s.
      let r = (job_at t j).replica in
      by_eq p a
      (λ e. absurd (omega (
        arith,
        none_sent (ack_from j r a) (λ x f g. ack_others j r a x f),
        ap (λ (k : ℕ). count (ack_from j r k) (flight t)) e,
      )))
      (λ e. omega (arith, i.acked j p jl pl o s, has_joined j r p e))))

  pub untold_joined : Untold (joined t a) (flight (joined t a))
  untold_joined =
      rw (flight_joined t a)
      (untold_machine t (joined t a) (flight t) (flight t) a (idle_machine 1) (told_joined t a) (job_joined t a) (machine_joined t a w.sized a16)
      (machine_joined_other t a) (copies_idle t a 1) w.untold.sender w.untold)

  pub prices_joined : Prices (joined t a) (flight (joined t a))
  prices_joined =
      prices_by t (joined t a) (flight (joined t a)) (bond_joined t a)
      (record { sent = rw (flight_joined t a) w.prices.sent; shown = λ j h. rw (job_joined t a j) (w.prices.shown j h) })
