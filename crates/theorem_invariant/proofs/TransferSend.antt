-- Clauses R, O, N, H and S where no message counts for a move: a message takes the place of another, a message is sent, and a table in which no
-- machine has lost the current copy of a job.
-- Assumes nothing.
use mathlib.Core.Path.{◌≡◌, refl, sym, ap, ◌∙◌}
use mathlib.Core.Bool.{true, false, true≢false}
use mathlib.Core.List.{List, [], ◌∷◌, ◌++◌}
use Prim.Native.Nat.{ℕ, ◌+◌, ◌≤◌, ◌<◌, min}
use native.Mathlib.Omega.{arith}
use lib.Dec.{eqb}
use Rattle.table.specs.declared.Message.{Message}
use Rattle.table.specs.declared.Table.{Table}
use Rattle.table.specs.Views.{no_message, job_at, machine_at, pool_at, message_at, flight, with_messages}
use Rattle.table.specs.Messages.{remove_at, send}
use Rattle.table.specs.Needs.{RoomFor}
use Rattle.table.specs.Parts.{ACK, RESULT, OPEN}
use Rattle.table.proofs.Views.{Sized, views}
use Rattle.validity_message.specs.Message.{to_root}
use Rattle.lists.specs.Scan.{without}
use Rattle.lists.proofs.Count.{ind, count_append, every_append}
use Rattle.theorem_invariant.proofs.Flight.{sends, takes, count_taken, every_taken}
use Rattle.theorem_invariant.proofs.Frame.{Frame, frame_room}
use Rattle.theorem_invariant.proofs.State.{Transfer, Known, is_transfer, result_from, dead, has, held}
use Rattle.theorem_invariant.proofs.TransferLaws.{transfer_other, ack_other, result_other, known_plain, Places}
use Rattle.theorem_invariant.proofs.TransferFrame.{transfer_frame, transfer_list, transfer_dropped, transfer_passed, transfer_nothing}
use Rattle.theorem_invariant.proofs.TransferFrame.{transfer_step}

-- ---- a table with the same views

pub transfer_same : (t u : Table) → ((j : ℕ) → job_at u j ≡ job_at t j) → ((k : ℕ) → machine_at u k ≡ machine_at t k)
    → ((m j : ℕ) → pool_at u m j ≡ pool_at t m j)
    → (l : List Message) → Transfer t l → Transfer u l
unfolding held has dead
transfer_same t u jb nd pl l i =
    transfer_frame t u l jb i.known (simp pl i.pools) i.moves (simp (nd, pl) i.on) (simp nd i.moved) (simp (nd, pl) i.acked)

transfer_apart : (t : Table) (n : ℕ) (k l : List Message) → Transfer t l → Transfer (with_messages t n k) l
transfer_apart t n k l i = transfer_same t (with_messages t n k) (λ j. simp views) (λ m. simp views) (λ m j. simp views) l i

-- ---- a message y, counted already, is sent, after updates that leave the messages in flight as they were

pub transfer_sends : (s u : Table) (y : Message) → Frame s u → RoomFor s y.to → (machine_at s 0).alive ≡ 1 → (to_root y.kind ≡ true → y.to ≡ 0)
    → Transfer u (y ∷ flight s) → Transfer (send u y) (flight (send u y))
transfer_sends s u y f room root home i =
    sends Transfer transfer_apart u y f.sized (frame_room s u f y.to room)
    (λ t. transfer_list u (y ∷ flight u) (flight u ++ y ∷ []) (every_append (Known u) (flight u) y t.known.1 t.known.0)
    (λ p. omega (arith, count_append p (flight u) (y ∷ []))) t)
    (λ gone t.
    let away : to_root y.kind ≡ true → ⊥ = λ r. gone (rw (home r) (f.alive 0 ∙ root)) in
    transfer_dropped u y (flight u) gone (λ e. away (rw e)) (λ e. away (rw e)) t)
    (rw f.flight i)

-- ---- the message in slot k is taken off

pub transfer_takes : (t : Table) (k : ℕ) → Sized t → k < t.in_flight → Transfer t (flight t)
    → Transfer (remove_at t k) (message_at t k ∷ flight (remove_at t k))
transfer_takes t k z h i =
    takes t k z h Transfer transfer_apart (transfer_list t (flight t) (message_at t k ∷ without k (flight t))
    (every_taken t k z h (Known t) i.known) (count_taken t k z h) i)

-- ---- a message takes the place of another, and neither counts for a move

pub transfer_swap : (t u : Table) (x y : Message) (l : List Message) (k c : ℕ) → x.kind ≡ k → y.kind ≡ c → is_transfer k ≡ false
    → is_transfer c ≡ false → eqb k RESULT ≡ false → eqb c ACK ≡ false
    → Places t
    → ((j : ℕ) → job_at u j ≡ job_at t j)
    → ((k : ℕ) → (machine_at u k).alive ≡ (machine_at t k).alive)
    → ((m j : ℕ) → m < 16 → j < 64 → pool_at u m j ≤ (job_at t j).replica)
    → Known t y
    → ((j p : ℕ) → j < 64 → p < 16 → (job_at t j).state ≡ OPEN
    → min 1 (has t j (job_at t j).replica p) ≤ has u j (job_at t j).replica p + ind (result_from j p y))
    → Transfer t (x ∷ l) → Transfer u (y ∷ l)
transfer_swap t u x y l k c ex ey tk tc rk ac places jb al pl ky kept =
    transfer_step t u x y l places jb al pl ky
    (λ j a b. transfer_other c j (job_at t j).replica y ey tc ∙ sym (transfer_other k j (job_at t j).replica x ex tk))
    (λ j p a b o e. omega (arith, kept j p a b o, ap ind (result_other k j p x ex rk)))
    (λ j p a b o e. absurd (true≢false (sym e ∙ ack_other c j (job_at t j).replica p y ey ac)))

-- ---- no message changes

pub transfer_table : (t u : Table) (l : List Message) → Places t
    → ((j : ℕ) → job_at u j ≡ job_at t j)
    → ((k : ℕ) → (machine_at u k).alive ≡ (machine_at t k).alive)
    → ((m j : ℕ) → m < 16 → j < 64 → pool_at u m j ≤ (job_at t j).replica)
    → ((j p : ℕ) → j < 64 → p < 16 → (job_at t j).state ≡ OPEN → min 1 (has t j (job_at t j).replica p) ≤ has u j (job_at t j).replica p)
    → Transfer t l → Transfer u l
transfer_table t u l places jb al pl kept i =
    let no : is_transfer 0 ≡ false = unfold is_transfer in refl in
    transfer_passed u no_message l 0 refl no refl
    (transfer_swap t u no_message no_message l 0 0 refl refl no no refl refl places jb al pl (known_plain t no_message 0 refl no refl (omega arith))
    (λ j p a b o. omega (arith, kept j p a b o)) (transfer_nothing t l i))
