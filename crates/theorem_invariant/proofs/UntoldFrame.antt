-- Clauses D1, F, D2, R (reserved and running copies) and P: how they go over from one table and list to another.
-- Assumes nothing.
use mathlib.Core.Path.{◌≡◌, refl, ◌∙◌}
use mathlib.Core.Logic.{◌≢◌}
use mathlib.Core.Bool.{true}
use mathlib.Core.List.{List, [], ◌∷◌, ◌++◌}
use Prim.Native.Nat.{ℕ, ◌≤◌, ◌<◌}
use native.Mathlib.Omega.{arith}
use Rattle.lists.proofs.Cases.{by_eq}
use Rattle.lists.proofs.Count.{Every, every_append, every_map}
use Rattle.table.specs.declared.Job.{Job}
use Rattle.table.specs.declared.Machine.{Machine}
use Rattle.table.specs.declared.Message.{Message}
use Rattle.table.specs.declared.Table.{Table}
use Rattle.table.specs.Views.{idle_machine, job_at, machine_at, told_at, message_at, flight, with_job, with_messages}
use Rattle.table.specs.Messages.{remove_at, send}
use Rattle.table.specs.Needs.{RoomFor}
use Rattle.table.specs.Parts.{reserve, release, running, waiting, message}
use Rattle.table.proofs.Views.{Sized, job_same, job_other, machine_job, told_job, told_messages, job_messages, machine_messages}
use Rattle.protocol_preservation.proofs.Facts.{Facts}
use Rattle.theorem_invariant.proofs.State.{Untold, Sender, Copies, Placed, is_answer}
use Rattle.theorem_invariant.proofs.Flight.{Apart, sends, takes, every_taken}

-- ---- a table u in which the same was told as in s, and no replica number fell
module _ (s u : Table) (told : (m d : ℕ) → told_at u m d ≡ told_at s m d) (grown : (j : ℕ) → (job_at s j).replica ≤ (job_at u j).replica) where
  sender_over : (x : Message) → Sender s x → Sender u x
  sender_over x f = record { root = f.root; untold = told x.to x.from ∙ f.untold }

  copies_over : (m : ℕ) (n : Machine) → Copies s m n → Copies u m n
  copies_over m n c = record {
    reserved = omega (arith, c.reserved, grown n.reserved_job);
    running = omega (arith, c.running, grown n.running_job);
    untold = λ e. told m n.reserved_thief ∙ c.untold e;
  }

  placed_over : (v : Job) → Placed s v → Placed u v
  placed_over v p = record { holder = λ e. told 0 v.holder ∙ p.holder e; thief = λ e f. told 0 v.thief ∙ p.thief e f }

  -- what u's machines and jobs satisfy over s, they satisfy over u
  pub untold_over : (k : List Message) → Every (Sender s) k → ((m : ℕ) → m < 16 → Copies s m (machine_at u m))
      → ((j : ℕ) → j < 64 → Placed s (job_at u j)) → Untold u k
  untold_over k f c p = record {
    sender = every_map (Sender s) (Sender u) k sender_over f;
    copies = λ m l. copies_over m (machine_at u m) (c m l);
    placed = λ j l. placed_over (job_at u j) (p j l);
  }

-- the record of machine b is v, and no job is new
pub untold_machine : (s u : Table) (l k : List Message) (b : ℕ) (v : Machine) → ((m d : ℕ) → told_at u m d ≡ told_at s m d)
    → ((j : ℕ) → job_at u j ≡ job_at s j)
    → machine_at u b ≡ v → ((m : ℕ) → m ≢ b → machine_at u m ≡ machine_at s m) → Copies s b v → Every (Sender s) k → Untold s l → Untold u k
untold_machine s u l k b v told jobs own other c f d =
    untold_over s u told (λ j. rw (jobs j) (omega arith)) k f
    (λ m h. by_eq m b (λ e. rw (e, own) c) (λ e. rw (other m e) (d.copies m h)))
    (λ j h. rw (jobs j) (d.placed j h))

-- job i is v
pub untold_job : (s : Table) (l k : List Message) (i : ℕ) (v : Job) → Sized s → i < 64 → (job_at s i).replica ≤ v.replica → Placed s v
    → Every (Sender s) k → Untold s l → Untold (with_job s i v) k
untold_job s l k i v z il grown p f d =
    untold_over s (with_job s i v) (λ m d. told_job s i v m d)
    (λ j. by_eq j i (λ e. rw (e, job_same s z i v il) grown) (λ e. rw (job_other s i j v e) (omega arith)))
    k f
    (λ m h. rw (machine_job s i v m) (d.copies m h))
    (λ j h. by_eq j i (λ e. rw (e, job_same s z i v il) p) (λ e. rw (job_other s i j v e) (d.placed j h)))

pub untold_list : (s : Table) (l k : List Message) → Every (Sender s) k → Untold s l → Untold s k
untold_list s l k f d = record { sender = f; copies = d.copies; placed = d.placed }

-- ---- sending, and taking off

untold_apart : Apart Untold
untold_apart t n k l d =
    untold_over t (with_messages t n k) (λ m e. told_messages t n k m e) (λ j. rw (job_messages t n k j) (omega arith)) l d.sender
    (λ m h. rw (machine_messages t n k m) (d.copies m h))
    (λ j h. rw (job_messages t n k j) (d.placed j h))

pub untold_sends : (t : Table) (y : Message) → Sized t → RoomFor t y.to → Untold t (y ∷ flight t) → Untold (send t y) (flight (send t y))
untold_sends t y s l =
    sends Untold untold_apart t y s l
    (λ d. untold_list t (y ∷ flight t) (flight t ++ y ∷ []) (every_append (Sender t) (flight t) y d.sender.1 d.sender.0) d)
    (λ e d. untold_list t (y ∷ flight t) (flight t) d.sender.1 d)

pub untold_takes : (t : Table) (k : ℕ) → Sized t → k < t.in_flight → Untold t (flight t)
    → Untold (remove_at t k) (message_at t k ∷ flight (remove_at t k))
untold_takes t k s l d = takes t k s l Untold untold_apart (untold_list t (flight t) _ (every_taken t k s l (Sender t) d.sender) d)

-- ---- the parts of a machine

pub copies_release : (t : Table) (m : ℕ) (n : Machine) → n.running_replica ≤ (job_at t n.running_job).replica → Copies t m (release n)
unfolding release
copies_release t m n l = record { reserved = omega arith; running = l; untold = λ e. absurd (e refl) }

pub copies_waiting : (t : Table) (m : ℕ) (n : Machine) (w : ℕ) → Copies t m n → Copies t m (waiting n w)
unfolding waiting
copies_waiting t m n w c = record { reserved = c.reserved; running = c.running; untold = c.untold }

pub copies_running : (t : Table) (m : ℕ) (n : Machine) (j r : ℕ) → r ≤ (job_at t j).replica → Copies t m n → Copies t m (running n j r)
unfolding running
copies_running t m n j r l c = record { reserved = c.reserved; running = l; untold = c.untold }

pub copies_reserve : (t : Table) (m : ℕ) (n : Machine) (j r th : ℕ) → r ≤ (job_at t j).replica → told_at t m th ≡ 0 → Copies t m n
    → Copies t m (reserve n j r th)
unfolding reserve
copies_reserve t m n j r th l e c = record { reserved = l; running = c.running; untold = λ f. e }

pub copies_idle : (t : Table) (m alive : ℕ) → Copies t m (idle_machine alive)
copies_idle t m alive = record { reserved = omega arith; running = omega arith; untold = λ e. absurd (e refl) }

-- ---- a new message

-- nobody was told that a living machine is dead
pub living_untold : (t : Table) → Facts t → (o k : ℕ) → o < 16 → k < 16 → (machine_at t k).alive ≡ 1 → told_at t o k ≡ 0
living_untold t f o k ol kl alive = by_eq (told_at t o k) 0 (λ e. e) (λ e. absurd (omega (arith, f.told_dead o k ol kl e)))

-- of the kind k from f to o

pub sender_message : (t : Table) (k f o j r th : ℕ) → (is_answer k ≡ true → f ≡ 0) → told_at t o f ≡ 0 → Sender t (message k f o j r th)
unfolding message
sender_message t k f o j r th a b = record { root = a; untold = b }
