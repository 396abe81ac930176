-- How many bytes each part of a snapshot has, and what the writing of one element says of the array. Assumes nothing.
use Prim.Native.Nat.{ℕ, zero, suc, ◌+◌, ◌*◌, ◌/◌, ◌%◌, ◌≤◌, ◌<◌}
use mathlib.Core.Path.{◌≡◌, refl, ap, ◌∙◌}
use mathlib.Core.List.{List, [], ◌∷◌, ◌++◌, append-nil}
use native.Mathlib.Nat.{suc-mul}
use native.Mathlib.Omega.{arith}
use lib.ListN.{length, get_or, take, length-append, drop_of_length-le}
use lib.Seq.{length-take-le, get_or-take}
use Rattle.std.specs.Int.{to_le_bytes, w64}
use Rattle.lists.proofs.Cases.{by_eq}
use Rattle.text.specs.Text.{over, joined, Written}
use Rattle.text.specs.declared.Cursor.{Cursor}
use Rattle.text.specs.Cursor.{Writes}
use Rattle.text.proofs.Over.{then as written_then}
use Rattle.text.proofs.Writes.{then, then_two}
use Rattle.pricer.specs.declared.Bond.{Bond}
use Rattle.table.specs.declared.Job.{Job}
use Rattle.table.specs.declared.Machine.{Machine}
use Rattle.table.specs.declared.Message.{Message}
use Rattle.table.specs.declared.Table.{Table}
use Rattle.table.proofs.Long.{Long}
use Rattle.table.specs.Views.{no_job, no_machine, no_message, past_bond}
use Rattle.snapshot_read.specs.Layout.{bond_size, job_size, machine_size, message_size, jobs_start, table_size}
use Rattle.snapshot_write.specs.Bytes.{entries_size, machine_state_size, flight_size, bytes16, bytes32, bytes64, case_of, coupon_bits, yield_bits}
use Rattle.snapshot_write.specs.Bytes.{bond_bytes}
use Rattle.snapshot_write.specs.Bytes.{job_bytes}
use Rattle.snapshot_write.specs.Bytes.{machine_bytes, message_bytes, bonds_bytes, jobs_bytes, machines_bytes, messages_bytes, entries_bytes}
use Rattle.snapshot_write.specs.Bytes.{machine_state_bytes}
use Rattle.snapshot_write.specs.Bytes.{numbers_bytes, numbers_size, flight_bytes, encode}

-- ---- numbers

-- how many bytes one of 16, of 32 and of 64 bits has
pub length_16 : (x : ℕ) → length (bytes16 x) ≡ 2
unfolding bytes16
length_16 x = refl

pub length_32 : (x : ℕ) → length (bytes32 x) ≡ 4
unfolding bytes32 bytes16
length_32 x = refl

pub length_64 : (x : ℕ) → length (bytes64 x) ≡ 8
unfolding bytes64 bytes32 bytes16
length_64 x = refl

-- a number's bytes as the library has them, the lowest first
pub low_first : (x : ℕ) → x < 18446744073709551616 → to_le_bytes w64 x ≡ bytes64 x
unfolding bytes64 bytes32 bytes16
low_first x h =
    let a : x % 256 ≡ x % 4294967296 % 65536 % 256 = omega arith in
    let b : x / 256 % 256 ≡ x % 4294967296 % 65536 / 256 = omega arith in
    let c : x / 65536 % 256 ≡ x % 4294967296 / 65536 % 256 = omega arith in
    let d : x / 16777216 % 256 ≡ x % 4294967296 / 65536 / 256 = omega arith in
    let e : x / 4294967296 % 256 ≡ x / 4294967296 % 65536 % 256 = omega arith in
    let f : x / 1099511627776 % 256 ≡ x / 4294967296 % 65536 / 256 = omega arith in
    let g : x / 281474976710656 % 256 ≡ x / 4294967296 / 65536 % 256 = omega arith in
    let k : x / 72057594037927936 % 256 ≡ x / 4294967296 / 65536 / 256 = omega arith in
    cc

-- ---- one element

pub length_bond : (b : Bond) → length (bond_bytes b) ≡ bond_size
unfolding bond_bytes bytes64 bytes32 bytes16
length_bond b = refl

pub length_job : (v : Job) → length (job_bytes v) ≡ job_size
unfolding job_bytes bytes64 bytes32 bytes16
length_job v = refl

pub length_machine : (n : Machine) → length (machine_bytes n) ≡ machine_size
unfolding machine_bytes
length_machine n = refl

pub length_message : (m : Message) → length (message_bytes m) ≡ message_size
unfolding message_bytes bytes64 bytes32 bytes16
length_message m = refl

-- ---- the arrays

pub length_joined : (f : ℕ → List ℕ) (w n : ℕ) → ((i : ℕ) → length (f i) ≡ w) → length (joined f n) ≡ n * w
unfolding joined
length_joined f w zero h = omega arith
length_joined f w (suc n) h = omega (arith, length-append (joined f n) (f n), length_joined f w n h, h n, suc-mul n w)

-- no longer than those up to a later one
pub joined_upto : (f : ℕ → List ℕ) (k n : ℕ) → k ≤ n → length (joined f k) ≤ length (joined f n)
unfolding joined
joined_upto f k zero h = let z : k ≡ 0 = omega arith in rw z (omega arith)
joined_upto f k (suc n) h =
    by_eq k (suc n)
    (λ e. rw e (omega arith))
    (λ e. omega (arith, length-append (joined f n) (f n), joined_upto f k n (omega arith)))

-- of n parts of which k are written, there is room for part k
pub room : (f : ℕ → List ℕ) (n k at m l : ℕ) → m ≡ at + length (joined f k) → k < n → at + length (joined f n) ≤ l → m + length (f k) ≤ l
unfolding joined
room f n k at m l e h r = omega (arith, length-append (joined f k) (f k), joined_upto f (suc k) n (omega arith))

pub room_to : (f : ℕ → List ℕ) (n k at l : ℕ) → k < n → at + length (joined f n) ≤ l → at + length (joined f (k + 1)) ≤ l
room_to f n k at l h r = omega (arith, joined_upto f (k + 1) n (omega arith))

pub joined_same : (f g : ℕ → List ℕ) (n : ℕ) → ((i : ℕ) → i < n → f i ≡ g i) → joined f n ≡ joined g n
unfolding joined
joined_same f g zero h = refl
joined_same f g (suc n) h = ap (λ (x : List ℕ). x ++ f n) (joined_same f g n (λ i l. h i (omega arith))) ∙ ap (λ (x : List ℕ). joined g n ++ x) (h n (omega arith))

-- the bytes of the first n elements
abbrev pub bonds_to : List Bond → ℕ → List ℕ
bonds_to l n = joined (λ i. bond_bytes (get_or l i past_bond)) n

abbrev pub jobs_to : List Job → ℕ → List ℕ
jobs_to l n = joined (λ i. job_bytes (get_or l i no_job)) n

abbrev pub machines_to : List Machine → ℕ → List ℕ
machines_to l n = joined (λ i. machine_bytes (get_or l i no_machine)) n

abbrev pub messages_to : List Message → ℕ → List ℕ
messages_to l n = joined (λ i. message_bytes (get_or l i no_message)) n

pub length_bonds_to : (l : List Bond) (n : ℕ) → length (bonds_to l n) ≡ n * bond_size
length_bonds_to l n = length_joined _ _ n (λ i. length_bond (get_or l i past_bond))

pub length_jobs_to : (l : List Job) (n : ℕ) → length (jobs_to l n) ≡ n * job_size
length_jobs_to l n = length_joined _ _ n (λ i. length_job (get_or l i no_job))

pub length_machines_to : (l : List Machine) (n : ℕ) → length (machines_to l n) ≡ n * machine_size
length_machines_to l n = length_joined _ _ n (λ i. length_machine (get_or l i no_machine))

pub length_messages_to : (l : List Message) (n : ℕ) → length (messages_to l n) ≡ n * message_size
length_messages_to l n = length_joined _ _ n (λ i. length_message (get_or l i no_message))

pub length_bonds : (l : List Bond) → length (bonds_bytes l) ≡ 64 * bond_size
unfolding bonds_bytes
length_bonds l = length_bonds_to l 64

pub length_jobs : (l : List Job) → length (jobs_bytes l) ≡ 64 * job_size
unfolding jobs_bytes
length_jobs l = length_jobs_to l 64

pub length_machines : (l : List Machine) → length (machines_bytes l) ≡ 16 * machine_size
unfolding machines_bytes
length_machines l = length_machines_to l 16

pub length_messages : (l : List Message) → length (messages_bytes l) ≡ 128 * message_size
unfolding messages_bytes
length_messages l = length_messages_to l 128

-- the first n of the messages are those of the first n slots
pub front_messages : (l : List Message) (n : ℕ) → n ≤ length l → messages_to (take n l) (length (take n l)) ≡ messages_to l n
front_messages l n h =
    rw (length-take-le n l h)
    (joined_same (λ i. message_bytes (get_or (take n l) i no_message)) (λ i. message_bytes (get_or l i no_message)) n
    (λ i k. ap message_bytes (get_or-take n l i no_message k)))

-- ---- the whole

pub length_entries : (t : Table) → length (entries_bytes t) ≡ entries_size
unfolding entries_bytes
length_entries t = simp length-append (omega (arith, length_bonds t.bonds, length_jobs t.jobs))

pub length_state : (t : Table) → length t.told ≡ 256 → length t.pools ≡ 1024 → length (machine_state_bytes t) ≡ machine_state_size
unfolding machine_state_bytes
length_state t a b = simp length-append (omega (arith, length_machines t.machines))

pub length_machine_state : (t : Table) → Long t → length (machine_state_bytes t) ≡ machine_state_size
length_machine_state t l = length_state t l.told l.pools

-- how many messages are in flight, how many jobs are open, and the first n slots
abbrev pub flight_to : Table → ℕ → List ℕ
flight_to t n = numbers_bytes t ++ joined (λ i. message_bytes (get_or t.messages i no_message)) n

pub length_flight_to : (t : Table) (n : ℕ) → length (flight_to t n) ≡ numbers_size + n * message_size
length_flight_to t n = simp length-append (omega (arith, length_messages_to t.messages n))

pub length_flight : (t : Table) → length (flight_bytes t) ≡ flight_size
unfolding flight_bytes
length_flight t = simp length-append (omega (arith, length_messages t.messages))

pub length_bytes : (t : Table) → Long t → length (encode t) ≡ table_size
unfolding encode
length_bytes t l = simp length-append (omega (arith, length_entries t, length_machine_state t l, length_flight t))

-- what is written over the whole of a buffer is what is left in it
pub over_all : (d w : List ℕ) → length w ≡ length d → over d 0 w ≡ w
unfolding over
over_all d w e = rw (drop_of_length-le d {i = 0 + length w} (omega arith)) (append-nil w)

-- ---- numbers and arrays, written over any list

-- where each ends
module _ {d : List ℕ} {at : ℕ} {e : List ℕ} {m : ℕ} where
  pub end_16 : (x : ℕ) → Written d at (bytes16 x) e m → m ≡ at + 2
  end_16 x p = omega (arith, p.end, length_16 x)

  pub end_32 : (x : ℕ) → Written d at (bytes32 x) e m → m ≡ at + 4
  end_32 x p = omega (arith, p.end, length_32 x)

  pub end_bonds : (l : List Bond) → Written d at (bonds_bytes l) e m → m ≡ at + 64 * bond_size
  end_bonds l p = omega (arith, p.end, length_bonds l)

  pub end_machines : (l : List Machine) → Written d at (machines_bytes l) e m → m ≡ at + 16 * machine_size
  end_machines l p = omega (arith, p.end, length_machines l)

  pub end_jobs : (l : List Job) → Written d at (jobs_bytes l) e m → m ≡ at + 64 * job_size
  end_jobs l p = omega (arith, p.end, length_jobs l)

-- a number, written as its lower half and its upper half
module _ {d : List ℕ} {at : ℕ} {e : List ℕ} {m : ℕ} {f : List ℕ} {r : ℕ} where
  pub written_32 : (x : ℕ) → Written d at (bytes16 (x % 65536)) e m → Written e m (bytes16 (x / 65536)) f r → at + 4 ≤ length d
      → Written d at (bytes32 x) f r
  unfolding bytes32
  written_32 x p q h = written_then p q (omega (arith, length_32 x))

  pub written_64 : (x : ℕ) → Written d at (bytes32 (x % 4294967296)) e m → Written e m (bytes32 (x / 4294967296)) f r → at + 8 ≤ length d
      → Written d at (bytes64 x) f r
  unfolding bytes64
  written_64 x p q h = written_then p q (omega (arith, length_64 x))

-- ---- one part after another, as each function writes them

-- where each ends
module _ {a b : Cursor} where
  pub end_64 : (x : ℕ) → Writes a (bytes64 x) b → b.at ≡ a.at + 8
  end_64 x p = omega (arith, p.written.end, length_64 x)

  pub end_entries : (t : Table) → Writes a (entries_bytes t) b → b.at ≡ a.at + entries_size
  end_entries t p = omega (arith, p.written.end, length_entries t)

module _ {a b c : Cursor} where
  pub written_job : (v : Job) → Writes a (v.state ∷ v.replica ∷ v.moving ∷ v.holder ∷ v.thief ∷ []) b
      → Writes b (bytes64 v.price) c → a.at + length (job_bytes v) ≤ length a.out.now → Writes a (job_bytes v) c
  unfolding job_bytes
  written_job v p q h = then p q h

  pub written_message : (v : Message) → Writes a (v.kind ∷ v.from ∷ v.to ∷ v.job ∷ v.replica ∷ v.thief ∷ []) b
      → Writes b (bytes64 v.price) c → a.at + length (message_bytes v) ≤ length a.out.now → Writes a (message_bytes v) c
  unfolding message_bytes
  written_message v p q h = then p q h

  pub written_flight : (t : Table) (n : ℕ) → Writes a (numbers_bytes t) b
      → Writes b (messages_to (take n t.messages) (length (take n t.messages))) c → n ≤ length t.messages
      → a.at + (numbers_size + n * message_size) ≤ length a.out.now → Writes a (flight_to t n) c
  written_flight t n p q l h = then p (rw (front_messages t.messages n l) at q) (omega (arith, length_flight_to t n))

  module _ {d : Cursor} where
    pub written_bond : (o : Bond) (v x y : ℕ) → Writes a (v ∷ o.periods ∷ o.payments ∷ []) b → Writes b (bytes64 x) c
        → Writes c (bytes64 y) d → v ≡ case_of o.terms → x ≡ coupon_bits o.terms → y ≡ yield_bits o.terms
        → a.at + bond_size ≤ length a.out.now → Writes a (bond_bytes o) d
    unfolding bond_bytes
    written_bond o v x y p q s i j l h =
        rw (← i, ← j, ← l)
        (then_two p q s (omega (arith, length-append (bytes64 x) (bytes64 y), length_64 x, length_64 y)))

    pub written_entries : (t : Table) → Writes a (t.machine_count ∷ t.entry_count ∷ []) b → Writes b (bonds_to t.bonds (length t.bonds)) c
        → Writes c (jobs_to t.jobs (length t.jobs)) d → length t.bonds ≡ 64 → length t.jobs ≡ 64 → a.at + entries_size ≤ length a.out.now
        → Writes a (entries_bytes t) d
    unfolding entries_bytes bonds_bytes jobs_bytes
    written_entries t p q s x y h = then_two p (rw x at q) (rw y at s) (omega (arith, length_entries t))

    pub written_machine_state : (t : Table) → Writes a (machines_to t.machines (length t.machines)) b → Writes b t.told c
        → Writes c t.pools d → length t.machines ≡ 16 → length t.told ≡ 256 → length t.pools ≡ 1024 → a.at + machine_state_size ≤ length a.out.now
        → Writes a (machine_state_bytes t) d
    unfolding machine_state_bytes machines_bytes
    written_machine_state t p q s x y l h = then_two (rw x at p) q s (omega (arith, length_state t y l))

-- all of it
pub written_all : (t : Table) {a b c d : Cursor} → Writes a (entries_bytes t) b
    → Writes b (machine_state_bytes t) c → Writes c (flight_to t 128) d → c.at ≡ b.at + machine_state_size
    → a.at ≡ 0 → length a.out.now ≡ table_size → d.out.now ≡ encode t
unfolding encode flight_bytes messages_bytes
written_all t {a} p q s z o h =
    let w = entries_bytes t ++ machine_state_bytes t ++ flight_to t 128 in
    let n : length w ≡ table_size =
    simp length-append (omega (arith, q.written.end, length_entries t, length_messages_to t.messages 128)) in
    (then_two p q s (omega (arith, n))).written.text ∙ ap (λ (k : ℕ). over a.out.now k w) o ∙ over_all a.out.now w (omega (arith, n))

-- what an event may change
abbrev pub changes_to : Table → ℕ → List ℕ
changes_to t n = jobs_bytes t.jobs ++ machine_state_bytes t ++ flight_to t n

pub length_changes : (t : Table) (n : ℕ) → Long t → length (changes_to t n) ≡ 64 * job_size + machine_state_size + (numbers_size + n * message_size)
length_changes t n l = simp length-append (omega (arith, length_jobs t.jobs, length_machine_state t l, length_messages_to t.messages n))

pub written_changes : (t : Table) (n : ℕ) {a b c d : Cursor}
    → Writes a (jobs_to t.jobs (length t.jobs)) b → Writes b (machine_state_bytes t) c → Writes c (flight_to t n) d
    → length t.jobs ≡ 64 → c.at ≡ b.at + machine_state_size → n ≤ 128 → a.at ≡ jobs_start → length a.out.now ≡ table_size
    → d.out.now ≡ over a.out.now jobs_start (changes_to t n)
unfolding jobs_bytes
written_changes t n {a} p q s x z h o e =
    let j = rw x at p in
    let w = jobs_to t.jobs 64 ++ machine_state_bytes t ++ flight_to t n in
    let l : length w ≡ 64 * job_size + machine_state_size + (numbers_size + n * message_size) =
    simp length-append (omega (arith, q.written.end, length_jobs_to t.jobs 64, length_messages_to t.messages n)) in
    (then_two j q s (omega (arith, l))).written.text ∙ ap (λ (k : ℕ). over a.out.now k w) o
