-- Updates that change jobs, pools and single parts of machines: the messages in flight, who lives and who was told of whom stay as they were.
-- Assumes nothing.
use mathlib.Core.Path.{◌≡◌, refl, sym, ◌∙◌}
use mathlib.Core.Logic.{◌≢◌}
use Prim.Native.Nat.{ℕ, ◌<◌, max}
use Rattle.table.specs.declared.Job.{Job}
use Rattle.table.specs.declared.Machine.{Machine}
use Rattle.table.specs.declared.Table.{Table}
use Rattle.table.specs.Views.{job_at, machine_at, pool_at, told_at, flight, with_job, with_machine, with_pool}
use Rattle.table.specs.Pools.{enter, returned}
use Rattle.table.specs.Needs.{RoomFor}
use Rattle.table.specs.Parts.{release}
use Rattle.table.proofs.Views.{Sized, views, sized_job, sized_machine, sized_pool, machine_same, machine_other, part_machine, machine_pool}
use Rattle.protocol_preservation.proofs.Sizes.{sized_enter}

pub record Frame (s u : Table) : Type 0 where
  pub sized : Sized u
  pub used : u.in_flight ≡ s.in_flight
  pub flight : flight u ≡ flight s
  pub told : (m d : ℕ) → told_at u m d ≡ told_at s m d
  pub alive : (m : ℕ) → (machine_at u m).alive ≡ (machine_at s m).alive

pub frame_refl : (s : Table) → Sized s → Frame s s
frame_refl s z = record { sized = z; used = refl; flight = refl; told = λ m d. refl; alive = λ m. refl }

-- a part of the machines' records that machine b's new record has too
pub part_kept : {A : Type 0} (f : Machine → A) (s u : Table) (b : ℕ) (v : Machine)
    → ((m : ℕ) → f (machine_at u m) ≡ f (machine_at s m)) → f v ≡ f (machine_at s b) → (m : ℕ) → f (machine_at (with_machine u b v) m) ≡ f (machine_at s m)
part_kept f s u b v same e m = part_machine f u b v (e ∙ sym (same b)) m ∙ same m

module _ (s u : Table) (f : Frame s u) where
  pub frame_job : (j : ℕ) (v : Job) → Frame s (with_job u j v)
  frame_job j v =
      record {
        sized = sized_job u j v f.sized;
        used = simp views f.used;
        flight = simp views f.flight;
        told = simp views f.told;
        alive = simp views f.alive;
      }

  pub frame_pool : (m j r : ℕ) → Frame s (with_pool u m j r)
  frame_pool m j r =
      record {
        sized = sized_pool u m j r f.sized;
        used = simp views f.used;
        flight = simp views f.flight;
        told = simp views f.told;
        alive = simp views f.alive;
      }

  pub frame_machine : (b : ℕ) (v : Machine) → v.alive ≡ (machine_at s b).alive → Frame s (with_machine u b v)
  frame_machine b v e = record {
    sized = sized_machine u b v f.sized;
    used = simp views f.used;
    flight = simp views f.flight;
    told = simp views f.told;
    alive = part_kept (λ n. n.alive) s u b v f.alive e;
  }

  pub frame_room : (b : ℕ) → RoomFor s b → RoomFor u b
  frame_room b r e = rw f.used (r (sym (f.alive b) ∙ e))

  pub frame_enter : (m j r : ℕ) → Frame s (enter u m j r)
  unfolding enter
  frame_enter m j r = frame_pool m j (max (pool_at u m j) r)

-- the reserved copy returns to the pool
pub frame_returned : (s : Table) (b : ℕ) → Sized s → Frame s (returned s b)
unfolding returned release
frame_returned s b z = frame_machine s _ (frame_enter s s (frame_refl s z) b _ _) b _ refl

pub machine_returned : (s : Table) (b : ℕ) → Sized s → b < 16 → machine_at (returned s b) b ≡ release (machine_at s b)
unfolding returned
machine_returned s b z bl =
    machine_same _ (sized_enter s b (machine_at s b).reserved_job (machine_at s b).reserved_replica z) b (release (machine_at s b)) bl

pub machine_returned_other : (s : Table) (b k : ℕ) → k ≢ b → machine_at (returned s b) k ≡ machine_at s k
unfolding returned enter
machine_returned_other s b k e = rw (machine_other, machine_pool)

pub machine_enter : (t : Table) (m j r k : ℕ) → machine_at (enter t m j r) k ≡ machine_at t k
unfolding enter
machine_enter t m j r k = simp views

pub job_enter : (t : Table) (m j r k : ℕ) → job_at (enter t m j r) k ≡ job_at t k
unfolding enter
job_enter t m j r k = simp views

pub told_enter : (t : Table) (m j r k d : ℕ) → told_at (enter t m j r) k d ≡ told_at t k d
unfolding enter
told_enter t m j r k d = simp views

pub flight_enter : (t : Table) (m j r : ℕ) → flight (enter t m j r) ≡ flight t
unfolding enter
flight_enter t m j r = simp views

pub ruleset entered = (machine_enter, job_enter, told_enter, flight_enter)
