-- The arrays keep their lengths, and the number in flight stays within its 128, through every handler and every accepted event.
-- Assumes nothing.
use Prim.Native.Nat.{ℕ, ◌+◌, ◌-◌, ◌≤◌, ◌<◌}
use mathlib.Core.Path.{◌≡◌, refl}
use native.Mathlib.Omega.{arith}
use Rattle.table.specs.declared.Job.{Job}
use Rattle.table.specs.declared.Table.{Table}
use Rattle.table.specs.Views.{with_messages}
use Rattle.table.specs.Pools.{enter, returned}
use Rattle.table.specs.Messages.{remove_at}
use Rattle.table.proofs.Views.{Sized, views, sized_job, sized_machine, sized_pool, sized_told}
use Rattle.table.proofs.Messages.{sized_send, sized_remove_at, sized_keep_messages}
use Rattle.event_admit_deliver_die.specs.AdmitDeliverDie.{admitted, delivered, died}
use Rattle.event_start_done.specs.StartDone.{started}
use Rattle.event_notice.specs.Notice.{informed, return_reserved, notice_local, reissue_one, noticed}
use Rattle.protocol_preservation.proofs.Closed.{Closed, closed_enter, closed_returned, closed_admitted, closed_delivered, closed_started}
use Rattle.protocol_preservation.proofs.Closed.{closed_died, closed_informed, closed_return_reserved, closed_reissue_one, closed_notice_local}
use Rattle.protocol_preservation.proofs.Closed.{closed_noticed}

-- and n slots are free
abbrev Free : ℕ → Table → Type 0
Free n t = Sized t × (t.in_flight + n ≤ 128)

free : Closed Free
free = record {
  handling = record {
    local = record {
      machine = λ n t m v e p. (sized_machine t m v p.0, simp views p.1);
      pool = λ n t m j r p. (sized_pool t m j r p.0, simp views p.1);
      send = λ t x q p. let s = sized_send t p.0 x (λ e. omega (arith, (q e).1)) in (s, omega (arith, s.used));
      less = λ t p. (p.0, omega (arith, p.1));
    };
    job = λ n t j v p. (sized_job t j v p.0, simp views p.1);
  };
  told = λ t m d r p. (sized_told t m d r p.0, simp views p.1);
  keep_messages = λ t f p. let s = sized_keep_messages t p.0 f in (s, omega (arith, s.used));
}

pub used_enter : (t : Table) (m j r : ℕ) → (enter t m j r).in_flight ≡ t.in_flight
unfolding enter
used_enter t m j r = simp views

pub used_returned : (t : Table) (m : ℕ) → (returned t m).in_flight ≡ t.in_flight
unfolding returned enter
used_returned t m = simp views

pub used_remove_at : (t : Table) (k : ℕ) → (remove_at t k).in_flight ≡ t.in_flight - 1
unfolding remove_at with_messages
used_remove_at t k = refl

module _ (t : Table) (s : Sized t) where
  some : Free 0 t
  some = (s, omega (arith, s.used))

  pub sized_admitted : (a : ℕ) → Sized (admitted t a)
  sized_admitted a = (closed_admitted Free free t a some).0

  pub sized_delivered : (k : ℕ) → k < t.in_flight → Sized (delivered t k)
  sized_delivered k h = (closed_delivered Free free t k (sized_remove_at t s k h, omega (arith, used_remove_at t k, s.used))).0

  pub sized_started : (a b : ℕ) → Sized (started t a b)
  sized_started a b = (closed_started Free free t a b some).0

  pub sized_died : (a : ℕ) → Sized (died t a)
  sized_died a = (closed_died Free free t a (λ u p. (sized_machine u a _ p.0, simp views p.1)) some).0

  pub sized_informed : (a b : ℕ) → Sized (informed t a b)
  sized_informed a b = (closed_informed Free free t a b some).0

  pub sized_return_reserved : (a b : ℕ) → Sized (return_reserved t a b)
  sized_return_reserved a b = (closed_return_reserved Free free t a b some).0

  pub sized_reissue_one : (v : Job) (b j : ℕ) → Sized (reissue_one v b j t)
  sized_reissue_one v b j = (closed_reissue_one Free free t v b j some).0

  pub sized_notice_local : (a b : ℕ) → Sized (notice_local t a b)
  sized_notice_local a b = (closed_notice_local Free free t a b some).0

  pub sized_noticed : (a b : ℕ) → Sized (noticed t a b)
  sized_noticed a b = (closed_noticed Free free t a b some).0

pub sized_enter : (t : Table) (m j r : ℕ) → Sized t → Sized (enter t m j r)
sized_enter t m j r s = (closed_enter Free free.handling.local 0 t m j r (some t s)).0

pub sized_returned : (t : Table) (m : ℕ) → Sized t → Sized (returned t m)
sized_returned t m s = (closed_returned Free free.handling.local 0 t m (some t s)).0
