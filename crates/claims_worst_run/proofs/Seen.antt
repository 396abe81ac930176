-- What the run that copies most looks at in a table: job 0, the root, the machine i whose turn it is and those after it up to n, and the messages in
-- flight. What each small step makes of it.
-- Assumes nothing.
use Prim.Native.Nat.{ℕ, ◌<◌}
use mathlib.Core.Path.{◌≡◌, sym, ap, ◌∙◌}
use mathlib.Core.List.{List, [], ◌∷◌, ◌++◌}
use native.Mathlib.Omega.{arith}
use borrow.Author.Tests.{eq-eqb}
use lib.ListN.{length, get_or}
use Rattle.lists.specs.Scan.{without}
use Rattle.table.specs.declared.Job.{Job}
use Rattle.table.specs.declared.Machine.{Machine}
use Rattle.table.specs.declared.Message.{Message}
use Rattle.table.specs.declared.Table.{Table}
use Rattle.table.specs.Views.{idle_machine, no_message, job_at, machine_at, message_at, flight, with_job, with_machine, with_pool}
use Rattle.table.specs.Pools.{enter}
use Rattle.table.specs.Messages.{push, remove_at, send}
use Rattle.table.proofs.Views.{Sized, views, sized_job, sized_machine, sized_pool, job_same, machine_same, machine_other, length_flight}
use Rattle.table.proofs.Messages.{flight_push, flight_remove_at, sized_push, sized_remove_at, message_flight}
use Rattle.handler.specs.Handler.{handle}
use Rattle.event_admit_deliver_die.specs.AdmitDeliverDie.{delivered}

pub record Seen (n i : ℕ) (v : Job) (a b : Machine) (l : List Message) (t : Table) : Type 0 where
  pub sized : Sized t
  pub job : job_at t 0 ≡ v
  pub root : machine_at t 0 ≡ a
  pub thief : machine_at t i ≡ b
  pub later : (m : ℕ) → i < m → m < n → machine_at t m ≡ idle_machine 1
  pub flight : flight t ≡ l

module _ {n i : ℕ} (low : 0 < i) (high : i < 16) where
  pub seen_job : {v : Job} {a b : Machine} {l : List Message} {t : Table} → Seen n i v a b l t → (w : Job) → Seen n i w a b l (with_job t 0 w)
  seen_job {t = t} s w = record {
    sized = sized_job t 0 w s.sized;
    job = job_same t s.sized 0 w (omega arith);
    root = simp views s.root;
    thief = simp views s.thief;
    later = simp views s.later;
    flight = simp views s.flight;
  }

  pub seen_root : {v : Job} {a b : Machine} {l : List Message} {t : Table} → Seen n i v a b l t → (c : Machine) → Seen n i v c b l (with_machine t 0 c)
  seen_root {t = t} s c = record {
    sized = sized_machine t 0 c s.sized;
    job = simp views s.job;
    root = machine_same t s.sized 0 c (omega arith);
    thief = machine_other t 0 i c (λ e. omega arith) ∙ s.thief;
    later = λ m g h. machine_other t 0 m c (λ e. omega arith) ∙ s.later m g h;
    flight = simp views s.flight;
  }

  pub seen_thief : {v : Job} {a b : Machine} {l : List Message} {t : Table} → Seen n i v a b l t → (c : Machine) → Seen n i v a c l (with_machine t i c)
  seen_thief {t = t} s c = record {
    sized = sized_machine t i c s.sized;
    job = simp views s.job;
    root = machine_other t i 0 c (λ e. omega arith) ∙ s.root;
    thief = machine_same t s.sized i c high;
    later = λ m g h. machine_other t i m c (λ e. omega arith) ∙ s.later m g h;
    flight = simp views s.flight;
  }

  pub seen_pool : {v : Job} {a b : Machine} {l : List Message} {t : Table} → Seen n i v a b l t → (m j r : ℕ) → Seen n i v a b l (with_pool t m j r)
  seen_pool {t = t} s m j r = record {
    sized = sized_pool t m j r s.sized;
    job = simp views s.job;
    root = simp views s.root;
    thief = simp views s.thief;
    later = simp views s.later;
    flight = simp views s.flight;
  }

  pub seen_enter : {v : Job} {a b : Machine} {l : List Message} {t : Table} → Seen n i v a b l t → (m j r : ℕ) → Seen n i v a b l (enter t m j r)
  unfolding enter
  seen_enter s m j r = seen_pool s m j _

  -- ---- messages

  pub seen_used : {v : Job} {a b : Machine} {l : List Message} {t : Table} → Seen n i v a b l t → t.in_flight ≡ length l
  seen_used {t = t} s = sym (length_flight t s.sized) ∙ ap length s.flight

  seen_push : {v : Job} {a b : Machine} {t : Table} → Seen n i v a b [] t → (x : Message) → Seen n i v a b (x ∷ []) (push t x)
  unfolding push
  seen_push {t = t} s x =
      let room : t.in_flight < 128 = omega (arith, seen_used s) in
      record {
        sized = sized_push t s.sized x room;
        job = simp views s.job;
        root = simp views s.root;
        thief = simp views s.thief;
        later = simp views s.later;
        flight = flight_push t s.sized x room ∙ ap (λ (l : List Message). l ++ x ∷ []) s.flight;
      }

  -- the receiver lives: the message is stored
  pub seen_send : {v : Job} {a b : Machine} {t : Table} → Seen n i v a b [] t → (x : Message) → (machine_at t x.to).alive ≡ 1
      → Seen n i v a b (x ∷ []) (send t x)
  unfolding send
  seen_send {t = t} s x e = rw (eq-eqb (machine_at t x.to).alive 1 e, send) (seen_push s x)

  -- the one message in flight
  module _ {v : Job} {a b : Machine} {x : Message} {t : Table} (s : Seen n i v a b (x ∷ []) t) where
    pub seen_some : 0 < t.in_flight
    seen_some = omega (arith, seen_used s)

    pub seen_first : message_at t 0 ≡ x
    seen_first = sym (message_flight t s.sized 0 seen_some) ∙ ap (λ (l : List Message). get_or l 0 no_message) s.flight

    pub seen_delivered : delivered t 0 ≡ handle (remove_at t 0) x
    unfolding delivered
    seen_delivered = ap (handle (remove_at t 0)) seen_first

    taken_off_lem : flight (remove_at t 0) ≡ []
    unfolding without
    taken_off_lem = flight_remove_at t s.sized 0 seen_some ∙ ap (without 0) s.flight

    pub seen_taken : Seen n i v a b [] (remove_at t 0)
    unfolding remove_at
    seen_taken = record {
      sized = sized_remove_at t s.sized 0 seen_some;
      job = simp views s.job;
      root = simp views s.root;
      thief = simp views s.thief;
      later = simp views s.later;
      flight = taken_off_lem;
    }
