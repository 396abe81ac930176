-- What the test of an element says, and how a new element meets it;
-- and, at the end, what check 9 says of a whole table in plain numbers (record `Facts`).
-- M is the machine count, E the entry count, B the largest replica number allowed.
-- Assumes nothing.
use Prim.Native.Nat.{ℕ, ◌≤◌, ◌<◌, max}
use mathlib.Core.Path.{◌≡◌, refl, sym, ap, ◌∙◌}
use mathlib.Core.Logic.{◌≢◌}
use mathlib.Core.Bool.{Bool, true, false, not, ◌&&◌, ◌||◌, false≢true}
use mathlib.Core.List.{List, [], ◌∷◌}
use native.Mathlib.Omega.{arith}
use borrow.Author.Tests.{eqb-true, leb-true, ltb-true, le-leb, lt-ltb, eq-eqb, ne_eqb}
use lib.Dec.{eqb, leb, ltb}
use Rattle.lists.proofs.Cases.{by_bool, by_eq, by_or, and_left, and_right, or_right, or_elim, and_both, and_three, either_yes, either_no}
use Rattle.lists.proofs.Chains.{chain_apart, chain_joined}
use Rattle.lists.proofs.Count.{Every, least_at}
use Rattle.table.specs.declared.Table.{Table}
use Rattle.table.specs.declared.Job.{Job}
use Rattle.table.specs.declared.Machine.{Machine}
use Rattle.table.specs.declared.Message.{Message}
use Rattle.table.specs.Views.{no_job, no_machine, job_at, machine_at, pool_at, told_at, flight}
use Rattle.table.specs.Pools.{lowest}
use Rattle.table.specs.Parts.{opened, moved, placed, priced, reserve, release, running, waiting, FISH, RESULT, NOT_ADMITTED, PRICED}
use Rattle.validity_element.specs.Element.{copy_ok, empty_job, admitted_ok, place_ok, job_ok, empty_machine, reserved_ok, running_ok, machine_ok, told_ok}
use Rattle.validity_element.specs.Element.{cell_ok}
use Rattle.validity_message.specs.Message.{kind_ok, ends_ok, carries_ok, thief_ok, with_copy, with_thief, to_root, message_ok}
use Rattle.validity.specs.Validity.{max_replica}
use Rattle.protocol_preservation.proofs.Empty.{empty_job_lem}

-- a test and those after it in its chain
abbrev Holds : Bool → List Bool → Type 0
Holds a bs = (a ≡ true) × Every (λ b. b ≡ true) bs

-- ---- a copy

module _ (E B j r : ℕ) (c : copy_ok E B j r ≡ true) where
  copy_parts : Holds (ltb j E) (leb 1 r ∷ leb r B ∷ [])
  copy_parts = chain_apart (ltb j E) (leb 1 r ∷ leb r B ∷ []) c

  pub copy_job : j < E
  copy_job = ltb-true _ _ copy_parts.0

  pub copy_some : 1 ≤ r
  copy_some = leb-true _ _ copy_parts.1.0

  pub copy_most : r ≤ B
  copy_most = leb-true _ _ copy_parts.1.1.0

pub copy_is_lem : (E B j r : ℕ) → j < E → 1 ≤ r → r ≤ B → copy_ok E B j r ≡ true
copy_is_lem E B j r a b c = rw (lt-ltb j E a, le-leb 1 r b, le-leb r B c)

pub max_replica_pos : (t : Table) → 1 ≤ max_replica t
unfolding max_replica
max_replica_pos t = omega arith

-- ---- a message in flight

module _ (M E B : ℕ) (x : Message) (g : message_ok M E B x ≡ true) where
  parts : Holds (kind_ok x) (ends_ok M x ∷ carries_ok E B x ∷ thief_ok M x ∷ [])
  parts = chain_apart (kind_ok x) (ends_ok M x ∷ carries_ok E B x ∷ thief_ok M x ∷ []) g

  kinds : Holds (leb FISH x.kind) (leb x.kind RESULT ∷ (eqb x.kind RESULT || eqb x.price 0) ∷ [])
  kinds = chain_apart (leb FISH x.kind) (leb x.kind RESULT ∷ (eqb x.kind RESULT || eqb x.price 0) ∷ []) parts.0

  ends : Holds (ltb x.from M) (ltb x.to M ∷ (not (to_root x.kind) || eqb x.to 0) ∷ [])
  ends = chain_apart (ltb x.from M) (ltb x.to M ∷ (not (to_root x.kind) || eqb x.to 0) ∷ []) parts.1.0

  pub kind_some : FISH ≤ x.kind
  kind_some = leb-true _ _ kinds.0

  pub kind_most : x.kind ≤ RESULT
  kind_most = leb-true _ _ kinds.1.0

  pub no_price : x.kind ≢ RESULT → x.price ≡ 0
  no_price n = eqb-true _ _ (or_elim (eqb x.kind RESULT) (eqb x.price 0) kinds.1.1.0 (ne_eqb _ _ n))

  pub from_in : x.from < M
  from_in = ltb-true _ _ ends.0

  pub to_in : x.to < M
  to_in = ltb-true _ _ ends.1.0

  -- a REQ, ACK or RESULT is to the root
  pub ends_at_root : to_root x.kind ≡ true → x.to ≡ 0
  ends_at_root w = eqb-true _ _ (or_elim (not (to_root x.kind)) (eqb x.to 0) ends.1.1.0 (ap not w))

  pub copy_in : with_copy x.kind ≡ true → copy_ok E B x.job x.replica ≡ true
  copy_in = either_yes (with_copy x.kind) (copy_ok E B x.job x.replica) (eqb x.job 0 && eqb x.replica 0) parts.1.1.0

  pub no_copy : with_copy x.kind ≡ false → (x.job ≡ 0) × (x.replica ≡ 0)
  no_copy w =
      let a = eqb x.job 0 in
      let b = eqb x.replica 0 in
      let z = either_no (with_copy x.kind) (copy_ok E B x.job x.replica) (a && b) parts.1.1.0 w in
      (eqb-true _ _ (and_left a b z), eqb-true _ _ (and_right a b z))

  pub thief_in : with_thief x.kind ≡ true → x.thief < M
  thief_in w = ltb-true _ _ (either_yes (with_thief x.kind) (ltb x.thief M) (eqb x.thief 0) parts.1.1.1.0 w)

  pub no_thief : with_thief x.kind ≡ false → x.thief ≡ 0
  no_thief w = eqb-true _ _ (either_no (with_thief x.kind) (ltb x.thief M) (eqb x.thief 0) parts.1.1.1.0 w)

  pub message_most : x.replica ≤ B
  message_most = by_bool (with_copy x.kind) (λ w. copy_most E B x.job x.replica (copy_in w)) (λ w. omega (arith, (no_copy w).1))

-- ---- a job

-- its place, where it is open or priced
pub record Place (M : ℕ) (v : Job) : Type 0 where
  pub moving : v.moving ≤ 1
  pub holder : v.holder < M
  pub thief : v.thief < M
  pub still : v.moving ≡ 0 → v.thief ≡ 0

pub place_facts : (M : ℕ) (v : Job) → place_ok M v ≡ true → Place M v
place_facts M v g =
    let a = ltb v.holder M in
    let b = eqb v.moving 0 && eqb v.thief 0 in
    let c = eqb v.moving 1 && ltb v.thief M in
    let h : v.holder < M = ltb-true _ _ (and_left a (b || c) g) in
    by_or b c (and_right a (b || c) g)
    (λ e.
    let m : v.moving ≡ 0 = eqb-true _ _ (and_left (eqb v.moving 0) (eqb v.thief 0) e) in
    let k : v.thief ≡ 0 = eqb-true _ _ (and_right (eqb v.moving 0) (eqb v.thief 0) e) in
    record { moving = omega arith; holder = h; thief = omega arith; still = λ n. k })
    (λ e.
    let m : v.moving ≡ 1 = eqb-true _ _ (and_left (eqb v.moving 1) (ltb v.thief M) e) in
    let k : v.thief < M = ltb-true _ _ (and_right (eqb v.moving 1) (ltb v.thief M) e) in
    record { moving = omega arith; holder = h; thief = k; still = λ n. absurd (omega arith) })

pub job_is : (M E B j : ℕ) (v : Job) → admitted_ok v ≡ true → copy_ok E B j v.replica ≡ true → place_ok M v ≡ true → job_ok M E B j v ≡ true
job_is M E B j v a c p = or_right (empty_job v) _ (and_three (admitted_ok v) (copy_ok E B j v.replica) (place_ok M v) a c p)

module _ (M E B j : ℕ) (v : Job) where
  -- one with a replica number is admitted
  pub some_job : 1 ≤ v.replica → empty_job v ≡ false
  some_job h =
      by_bool (empty_job v)
      (λ e. let z : v.replica ≡ 0 = ap (λ (w : Job). w.replica) (empty_job_lem v e) in absurd (omega arith))
      (λ e. e)

  -- so is one that is open or priced
  pub state_job : v.state ≢ NOT_ADMITTED → empty_job v ≡ false
  state_job h = rw (ne_eqb v.state NOT_ADMITTED h)

  module _ (g : job_ok M E B j v ≡ true) (n : empty_job v ≡ false) where
    whole : Holds (admitted_ok v) (copy_ok E B j v.replica ∷ place_ok M v ∷ [])
    whole = chain_apart (admitted_ok v) (copy_ok E B j v.replica ∷ place_ok M v ∷ []) (or_elim (empty_job v) _ g n)

    pub job_state : admitted_ok v ≡ true
    job_state = whole.0

    pub job_copy : copy_ok E B j v.replica ≡ true
    job_copy = whole.1.0

    pub job_place : place_ok M v ≡ true
    job_place = whole.1.1.0

    pub job_moved : (f t : ℕ) → f < M → t < M → job_ok M E B j (moved v f t) ≡ true
    unfolding moved
    job_moved f t a b = job_is M E B j (moved v f t) job_state job_copy (rw (lt-ltb f M a, lt-ltb t M b))

    pub job_placed : (f : ℕ) → f < M → job_ok M E B j (placed v f) ≡ true
    unfolding placed
    job_placed f a = job_is M E B j (placed v f) job_state job_copy (rw (lt-ltb f M a))

    pub job_priced : (p : ℕ) → job_ok M E B j (priced v p) ≡ true
    unfolding priced
    job_priced p = job_is M E B j (priced v p) refl job_copy job_place

pub job_opened : (M E B j r : ℕ) → 0 < M → copy_ok E B j r ≡ true → job_ok M E B j (opened r) ≡ true
unfolding opened
job_opened M E B j r a c = rw (c, lt-ltb 0 M a)

-- ---- a machine

pub machine_is : (M E B m : ℕ) (n : Machine) → m < M → n.alive ≡ 1 → n.waits ≤ M → reserved_ok M E B n ≡ true → running_ok E B n ≡ true
    → machine_ok M E B m n ≡ true
machine_is M E B m n a b w r u =
    or_right (empty_machine n) _
    (chain_joined (ltb m M) (eqb n.alive 1 ∷ leb n.waits M ∷ reserved_ok M E B n ∷ running_ok E B n ∷ [])
    (lt-ltb m M a) (eq-eqb _ _ b, (le-leb _ _ w, (r, (u, tt)))))

-- one that is not alive is empty
pub machine_dead : (M E B m : ℕ) (n : Machine) → machine_ok M E B m n ≡ true → n.alive ≢ 1 → empty_machine n ≡ true
machine_dead M E B m n g d =
    by_bool (empty_machine n) (λ e. e)
    (λ e. absurd (d (eqb-true n.alive 1
    (chain_apart (ltb m M) (eqb n.alive 1 ∷ leb n.waits M ∷ reserved_ok M E B n ∷ running_ok E B n ∷ [])
    (or_elim (empty_machine n) _ g e)).1.0)))

module _ (M E B m : ℕ) (n : Machine) (g : machine_ok M E B m n ≡ true) (al : n.alive ≡ 1) where
  full : Holds (ltb m M) (eqb n.alive 1 ∷ leb n.waits M ∷ reserved_ok M E B n ∷ running_ok E B n ∷ [])
  full =
      chain_apart (ltb m M) (eqb n.alive 1 ∷ leb n.waits M ∷ reserved_ok M E B n ∷ running_ok E B n ∷ [])
      (or_elim (empty_machine n) _ g (rw (ne_eqb n.alive 0 (λ e. omega arith))))

  pub machine_in : m < M
  machine_in = ltb-true _ _ full.0

  pub machine_waits : n.waits ≤ M
  machine_waits = leb-true _ _ full.1.1.0

  pub reserved : reserved_ok M E B n ≡ true
  reserved = full.1.1.1.0

  pub runs : running_ok E B n ≡ true
  runs = full.1.1.1.1.0

  -- the copy that is reserved, where there is one
  pub reserved_copy : n.reserved_replica ≢ 0 → copy_ok E B n.reserved_job n.reserved_replica ≡ true
  reserved_copy h =
      let a = eqb n.reserved_job 0 in
      let b = eqb n.reserved_replica 0 in
      let c = eqb n.reserved_thief 0 in
      let k = copy_ok E B n.reserved_job n.reserved_replica in
      let th = ltb n.reserved_thief M in
      by_or (a && b && c) (k && th) reserved
      (λ e. absurd (h (eqb-true _ _ (chain_apart a (b ∷ c ∷ []) e).1.0)))
      (and_left k th)

  -- the copy that runs, where there is one
  pub running_copy : n.running_replica ≢ 0 → copy_ok E B n.running_job n.running_replica ≡ true
  running_copy h =
      let a = eqb n.running_job 0 in
      let b = eqb n.running_replica 0 in
      by_or (a && b) _ runs (λ e. absurd (h (eqb-true _ _ (and_right a b e)))) (λ e. e)

  pub machine_reserve : (j r th : ℕ) → copy_ok E B j r ≡ true → th < M → machine_ok M E B m (reserve n j r th) ≡ true
  unfolding reserve
  machine_reserve j r th c h =
      machine_is M E B m (reserve n j r th) machine_in al machine_waits
      (or_right (eqb j 0 && eqb r 0 && eqb th 0) _ (and_both (copy_ok E B j r) (ltb th M) c (lt-ltb th M h))) runs

  pub machine_release : machine_ok M E B m (release n) ≡ true
  unfolding release
  machine_release = machine_is M E B m (release n) machine_in al machine_waits refl runs

  pub machine_waiting : (w : ℕ) → w ≤ M → machine_ok M E B m (waiting n w) ≡ true
  unfolding waiting
  machine_waiting w h = machine_is M E B m (waiting n w) machine_in al h reserved runs

  pub machine_running : (j r : ℕ) → copy_ok E B j r ≡ true → machine_ok M E B m (running n j r) ≡ true
  unfolding running
  machine_running j r c = machine_is M E B m (running n j r) machine_in al machine_waits reserved (or_right (eqb j 0 && eqb r 0) _ c)

  pub machine_idle : machine_ok M E B m (running n 0 0) ≡ true
  unfolding running
  machine_idle = machine_is M E B m (running n 0 0) machine_in al machine_waits reserved refl

-- ---- a told flag

-- who is told of is a machine that is not alive
module _ (M al m d x : ℕ) (g : told_ok M al m d x ≡ true) (h : x ≢ 0) where
  flag : Holds (eqb x 1) (ltb m M ∷ ltb d M ∷ eqb al 0 ∷ [])
  flag = chain_apart (eqb x 1) (ltb m M ∷ ltb d M ∷ eqb al 0 ∷ []) (or_elim (eqb x 0) _ g (ne_eqb x 0 h))

  pub told_is : x ≡ 1
  told_is = eqb-true _ _ flag.0

  pub told_in_lem : (m < M) × (d < M)
  told_in_lem = (ltb-true _ _ flag.1.0, ltb-true _ _ flag.1.1.0)

  pub told_dead : al ≡ 0
  told_dead = eqb-true _ _ flag.1.1.1.0

pub told_most : (M al m d x : ℕ) → told_ok M al m d x ≡ true → x ≤ 1
told_most M al m d x g = by_eq x 0 (λ e. omega arith) (λ n. omega (arith, told_is M al m d x g n))

-- ---- a pool's cell

module _ (E B al j x : ℕ) (g : cell_ok E B al j x ≡ true) where
  pub cell_copy : x ≢ 0 → copy_ok E B j x ≡ true
  cell_copy h = and_right (eqb al 1) (copy_ok E B j x) (or_elim (eqb x 0) _ g (ne_eqb x 0 h))

  pub cell_alive : x ≢ 0 → al ≡ 1
  cell_alive h = eqb-true _ _ (and_left (eqb al 1) (copy_ok E B j x) (or_elim (eqb x 0) _ g (ne_eqb x 0 h)))

  pub cell_most : x ≤ B
  cell_most = by_eq x 0 (λ e. omega arith) (λ e. copy_most E B j x (cell_copy e))

  -- the larger of it and a copy
  pub cell_enter : (q : ℕ) → al ≡ 1 → copy_ok E B j q ≡ true → cell_ok E B al j (max x q) ≡ true
  cell_enter q e c =
      let a = copy_some E B j q c in
      let b = copy_most E B j q c in
      let d = cell_most in
      or_right (eqb (max x q) 0) _ (and_both (eqb al 1) _ (eq-eqb al 1 e) (copy_is_lem E B j (max x q) (copy_job E B j q c) (omega arith) (omega arith)))

-- the lowest job of a pool is in it
pub lowest_in_lem : (t : Table) (m : ℕ) → lowest t m < 64 → pool_at t m (lowest t m) ≢ 0
unfolding lowest
lowest_in_lem t m h e =
    let z : not (eqb (pool_at t m (lowest t m)) 0) ≡ true = least_at (λ j. not (eqb (pool_at t m j) 0)) 64 h in
    false≢true (sym (ap not (eq-eqb _ _ e)) ∙ z)

-- ---- a whole table, as the proofs of the protocol use it

-- v is job j
pub record JobFacts (t : Table) (j : ℕ) (v : Job) : Type 0 where
  pub state : v.state ≤ PRICED
  pub replica : v.replica ≤ max_replica t
  pub moving : v.moving ≤ 1
  pub holder : v.holder < 16
  pub thief : v.thief < 16
  -- these two within the table's own machine count
  pub holder_in : v.holder < t.machine_count
  pub thief_in : v.thief < t.machine_count
  -- where it is not moving there is no thief
  pub still : v.moving ≡ 0 → v.thief ≡ 0
  -- open or priced
  pub some : v.state ≢ NOT_ADMITTED → 1 ≤ v.replica
  pub entry : v.state ≢ NOT_ADMITTED → j < t.entry_count
  -- not admitted
  pub none : v.state ≡ NOT_ADMITTED → v ≡ no_job
  pub unpriced : v.state ≢ PRICED → v.price ≡ 0

-- n is machine m
pub record MachineFacts (t : Table) (m : ℕ) (n : Machine) : Type 0 where
  pub alive : n.alive ≤ 1
  pub alive_in : n.alive ≡ 1 → m < t.machine_count
  pub waits : n.waits ≤ t.machine_count
  -- the reserved copy, of replica 0 where there is none
  pub reserved_job : n.reserved_job < 64
  pub reserved_replica : n.reserved_replica ≤ max_replica t
  pub reserved_thief : n.reserved_thief < 16
  pub reserved_thief_in : n.reserved_thief < t.machine_count
  pub reserved_entry : n.reserved_replica ≢ 0 → n.reserved_job < t.entry_count
  -- the running copy, of replica 0 where there is none
  pub running_job : n.running_job < 64
  pub running_replica : n.running_replica ≤ max_replica t
  pub running_entry : n.running_replica ≢ 0 → n.running_job < t.entry_count
  -- where there is none, its job and thief are 0 too
  pub unreserved : n.reserved_replica ≡ 0 → (n.reserved_job ≡ 0) × (n.reserved_thief ≡ 0)
  pub idle : n.running_replica ≡ 0 → n.running_job ≡ 0
  -- a dead machine has no copy and waits on nobody
  pub dead : n.alive ≡ 0 → n ≡ no_machine

-- x is a message in flight
pub record MessageFacts (t : Table) (x : Message) : Type 0 where
  pub kind_least : FISH ≤ x.kind
  pub kind_most : x.kind ≤ RESULT
  pub from : x.from < 16
  pub to : x.to < 16
  pub job : x.job < 64
  pub thief : x.thief < 16
  -- these three within the table's own machine count
  pub from_in : x.from < t.machine_count
  pub to_in : x.to < t.machine_count
  pub thief_in : x.thief < t.machine_count
  pub alive : (machine_at t x.to).alive ≡ 1
  -- REQ, ACK and RESULT go to the root
  pub root : to_root x.kind ≡ true → x.to ≡ 0
  -- where it carries a copy, the copy has a replica number and is of an entry
  pub some : with_copy x.kind ≡ true → 1 ≤ x.replica
  pub entry : with_copy x.kind ≡ true → x.job < t.entry_count
  pub replica : x.replica ≤ max_replica t

pub record Facts (t : Table) : Type 0 where
  pub machine_count_some : 2 ≤ t.machine_count
  pub machine_count_most : t.machine_count ≤ 16
  pub entry_count_most : t.entry_count ≤ 64
  pub used_most : t.in_flight ≤ 128
  -- 1 + the deaths the root was told of: it lives itself
  pub max_replica_some : 1 ≤ max_replica t
  pub max_replica_most : max_replica t ≤ 16
  pub root : (machine_at t 0).alive ≡ 1
  pub job : (j : ℕ) → j < 64 → JobFacts t j (job_at t j)
  pub machine : (m : ℕ) → m < 16 → MachineFacts t m (machine_at t m)
  pub message : Every (MessageFacts t) (flight t)
  -- told flags are 0 or 1, and only of the dead
  pub told : (m d : ℕ) → m < 16 → d < 16 → told_at t m d ≤ 1
  pub told_dead : (m d : ℕ) → m < 16 → d < 16 → told_at t m d ≢ 0 → (machine_at t d).alive ≡ 0
  -- pools: a living machine's, of entries
  pub pool : (m j : ℕ) → m < 16 → j < 64 → pool_at t m j ≤ max_replica t
  pub pool_dead : (m j : ℕ) → m < 16 → j < 64 → (machine_at t m).alive ≡ 0 → pool_at t m j ≡ 0
  pub pool_entry : (m j : ℕ) → m < 16 → j < 64 → pool_at t m j ≢ 0 → j < t.entry_count
