-- A table that passes check 9 has the facts of proofs/Facts.antt, element by element and then whole.
-- Assumes nothing.
use Prim.Native.Nat.{ℕ, ◌≤◌, ◌<◌}
use mathlib.Core.Path.{◌≡◌, refl, sym, ap, subst}
use mathlib.Core.Logic.{◌≢◌}
use mathlib.Core.Bool.{Bool, true, false, ◌&&◌, ◌||◌}
use mathlib.Core.List.{[], ◌∷◌}
use native.Mathlib.Omega.{arith}
use borrow.Author.Tests.{eqb-true, ltb-true, ne_eqb}
use lib.Dec.{eqb, ltb}
use Rattle.lists.proofs.Cases.{by_bool, by_eq, by_or, and_left, and_right}
use Rattle.lists.proofs.Chains.{chain_apart}
use Rattle.lists.proofs.Scans.{count_most}
use Rattle.lists.proofs.Count.{every_map, count_to_one}
use Rattle.table.specs.declared.Job.{Job}
use Rattle.table.specs.declared.Machine.{Machine}
use Rattle.table.specs.declared.Message.{Message}
use Rattle.table.specs.declared.Table.{Table}
use Rattle.table.specs.Views.{no_job, no_machine, job_at, machine_at, pool_at, told_at, flight}
use Rattle.table.specs.Parts.{lives, NOT_ADMITTED, OPEN, PRICED}
use Rattle.table.proofs.Views.{Sized}
use Rattle.validity_element.specs.Element.{copy_ok, empty_job, admitted_ok, job_ok, reserved_ok, running_ok, machine_ok}
use Rattle.validity_message.specs.Message.{with_copy, with_thief, message_ok}
use Rattle.validity.specs.Validity.{max_replica}
use Rattle.protocol_preservation.proofs.Empty.{empty_job_lem, empty_machine_lem}
use Rattle.protocol_preservation.proofs.Ok.{Ok, in_flight_ok, machine_count_some, machine_count_most, entry_count_most, used_most}
use Rattle.protocol_preservation.proofs.Facts.{JobFacts, MachineFacts, MessageFacts, Facts, copy_job, copy_some, copy_most, max_replica_pos}
use Rattle.protocol_preservation.proofs.Facts.{kind_some, kind_most, from_in, to_in, ends_at_root, copy_in, thief_in, job_copy, job_place}
use Rattle.protocol_preservation.proofs.Facts.{job_state, machine_dead, machine_in, machine_waits, reserved, runs, told_dead, cell_copy}
use Rattle.protocol_preservation.proofs.Facts.{cell_alive, cell_most, no_copy, no_thief, place_facts, told_most}

-- ---- a copy, or none: job and replica number both 0

record CopyFacts (E B j r : ℕ) : Type 0 where
  job : j < 64
  most : r ≤ B
  entry : r ≢ 0 → j < E
  none : r ≡ 0 → j ≡ 0

copy_none : (E B j r : ℕ) → j ≡ 0 → r ≡ 0 → CopyFacts E B j r
copy_none E B j r a b = record { job = omega arith; most = omega arith; entry = λ n. absurd (n b); none = λ e. a }

copy_one : (E B j r : ℕ) → E ≤ 64 → copy_ok E B j r ≡ true → CopyFacts E B j r
copy_one E B j r h c =
    let l = copy_job E B j r c in
    record { job = omega arith; most = copy_most E B j r c; entry = λ n. l; none = λ e. absurd (omega (arith, copy_some E B j r c)) }

-- ---- a job

-- its state and price
record State (v : Job) : Type 0 where
  some : v.state ≢ NOT_ADMITTED
  most : v.state ≤ PRICED
  unpriced : v.state ≢ PRICED → v.price ≡ 0

state : (v : Job) → admitted_ok v ≡ true → State v
state v g =
    let a = eqb v.state OPEN in
    let b = eqb v.price 0 in
    by_or (a && b) (eqb v.state PRICED) g
    (λ e.
    let k : v.state ≡ OPEN = eqb-true _ _ (and_left a b e) in
    record { some = λ n. omega arith; most = omega arith; unpriced = λ n. eqb-true _ _ (and_right a b e) })
    (λ e.
    let k : v.state ≡ PRICED = eqb-true _ _ e in
    record { some = λ n. omega arith; most = omega arith; unpriced = λ n. absurd (n k) })

module _ (t : Table) (o : Ok t) where
  abbrev M : ℕ
  M = t.machine_count

  abbrev E : ℕ
  E = t.entry_count

  abbrev B : ℕ
  B = max_replica t

  abbrev few : t.machine_count ≤ 16
  few = machine_count_most t o.sizes

  abbrev many : 2 ≤ t.machine_count
  many = machine_count_some t o.sizes

  abbrev short : t.entry_count ≤ 64
  short = entry_count_most t o.sizes

  no_job_lem : (j : ℕ) → JobFacts t j no_job
  no_job_lem j = record {
    state = omega arith;
    replica = omega arith;
    moving = omega arith;
    holder = omega arith;
    thief = omega arith;
    holder_in = omega (arith, many);
    thief_in = omega (arith, many);
    still = λ e. refl;
    some = λ n. absurd (n refl);
    entry = λ n. absurd (n refl);
    none = λ e. refl;
    unpriced = λ n. refl;
  }

  job_facts : (j : ℕ) (v : Job) → job_ok M E B j v ≡ true → JobFacts t j v
  job_facts j v g =
      by_bool (empty_job v)
      (λ e. subst (JobFacts t j) (sym (empty_job_lem v e)) (no_job_lem j))
      (λ e.
      let c = job_copy M E B j v g e in
      let p = place_facts M v (job_place M E B j v g e) in
      let s = state v (job_state M E B j v g e) in
      record {
        state = s.most;
        replica = copy_most E B j v.replica c;
        moving = p.moving;
        holder = omega (arith, few);
        thief = omega (arith, few);
        holder_in = p.holder;
        thief_in = p.thief;
        still = p.still;
        some = λ n. copy_some E B j v.replica c;
        entry = λ n. copy_job E B j v.replica c;
        none = λ n. absurd (s.some n);
        unpriced = s.unpriced;
      })

-- ---- a machine

-- its copies
module _ (M E B : ℕ) (n : Machine) (z : 0 < M) (l : E ≤ 64) where
  running_facts : running_ok E B n ≡ true → CopyFacts E B n.running_job n.running_replica
  running_facts g =
      let j = n.running_job in
      let r = n.running_replica in
      by_or (eqb j 0 && eqb r 0) (copy_ok E B j r) g
      (λ e. copy_none E B j r (eqb-true _ _ (and_left (eqb j 0) (eqb r 0) e)) (eqb-true _ _ (and_right (eqb j 0) (eqb r 0) e)))
      (copy_one E B j r l)

  record Reserved : Type 0 where
    copy : CopyFacts E B n.reserved_job n.reserved_replica
    thief : n.reserved_thief < M
    none : n.reserved_replica ≡ 0 → n.reserved_thief ≡ 0

  reserved_facts : reserved_ok M E B n ≡ true → Reserved
  reserved_facts g =
      let j = n.reserved_job in
      let r = n.reserved_replica in
      let a = eqb j 0 in
      let b = eqb r 0 in
      let c = eqb n.reserved_thief 0 in
      let d = copy_ok E B j r in
      let f = ltb n.reserved_thief M in
      by_or (a && b && c) (d && f) g
      (λ e.
      let p = chain_apart a (b ∷ c ∷ []) e in
      let k : n.reserved_thief ≡ 0 = eqb-true _ _ p.1.1.0 in
      record { copy = copy_none E B j r (eqb-true _ _ p.0) (eqb-true _ _ p.1.0); thief = omega arith; none = λ y. k })
      (λ e. record {
        copy = copy_one E B j r l (and_left d f e);
        thief = ltb-true _ _ (and_right d f e);
        none = λ y. absurd (omega (arith, copy_some E B j r (and_left d f e)));
      })

module _ (t : Table) (o : Ok t) where
  machine_facts : (m : ℕ) (n : Machine) → machine_ok t.machine_count t.entry_count (max_replica t) m n ≡ true → MachineFacts t m n
  machine_facts m n g =
      let M = t.machine_count in
      let E = t.entry_count in
      let B = max_replica t in
      let z : 0 < M = omega (arith, many t o) in
      let none : n.alive ≢ 1 → n ≡ no_machine = λ d. empty_machine_lem n (machine_dead M E B m n g d) in
      -- what a living machine and none have
      let each : (P : Machine → Type 0) → P no_machine → (n.alive ≡ 1 → P n) → P n = λ P p f. by_eq n.alive 1 f (λ d. subst P (sym (none d)) p) in
      let r = reserved_facts M E B n z (short t o) (each (λ k. reserved_ok M E B k ≡ true) refl (reserved M E B m n g)) in
      let u = running_facts M E B n z (short t o) (each (λ k. running_ok E B k ≡ true) refl (runs M E B m n g)) in
      record {
        alive = each (λ k. k.alive ≤ 1) (omega arith) (λ e. omega arith);
        alive_in = machine_in M E B m n g;
        waits = each (λ k. k.waits ≤ M) (omega arith) (machine_waits M E B m n g);
        reserved_job = r.copy.job;
        reserved_replica = r.copy.most;
        reserved_thief = omega (arith, few t o, r.thief);
        reserved_thief_in = r.thief;
        reserved_entry = r.copy.entry;
        running_job = u.job;
        running_replica = u.most;
        running_entry = u.entry;
        unreserved = λ e. (r.copy.none e, r.none e);
        idle = u.none;
        dead = λ e. none (λ a. omega arith);
      }

-- ---- a message in flight

module _ (t : Table) (o : Ok t) (x : Message) where
  pub message_facts : in_flight_ok t x ≡ true → MessageFacts t x
  message_facts h =
      let M = t.machine_count in
      let E = t.entry_count in
      let B = max_replica t in
      let g = and_right (lives t x.to) (message_ok M E B x) h in
      let c : CopyFacts E B x.job x.replica =
      by_bool (with_copy x.kind)
      (λ w. copy_one E B x.job x.replica (short t o) (copy_in M E B x g w))
      (λ w. let y = no_copy M E B x g w in copy_none E B x.job x.replica y.0 y.1) in
      let th : x.thief < M = by_bool (with_thief x.kind) (thief_in M E B x g) (λ w. omega (arith, no_thief M E B x g w, many t o)) in
      record {
        kind_least = kind_some M E B x g;
        kind_most = kind_most M E B x g;
        from = omega (arith, few t o, from_in M E B x g);
        to = omega (arith, few t o, to_in M E B x g);
        job = c.job;
        thief = omega (arith, few t o);
        from_in = from_in M E B x g;
        to_in = to_in M E B x g;
        thief_in = th;
        alive = eqb-true _ _ (and_left (lives t x.to) (message_ok M E B x) h);
        root = ends_at_root M E B x g;
        some = λ w. copy_some E B x.job x.replica (copy_in M E B x g w);
        entry = λ w. copy_job E B x.job x.replica (copy_in M E B x g w);
        replica = c.most;
      }

-- ---- the whole table

module _ (t : Table) (s : Sized t) (o : Ok t) where
  told_of : (m d : ℕ) → m < 16 → d < 16 → told_at t m d ≢ 0 → (machine_at t d).alive ≡ 0
  told_of m d h k = told_dead t.machine_count (machine_at t d).alive m d (told_at t m d) (o.told m d h k)

  -- the root lives, so that it was told of at most 15 others
  max_replica_16 : max_replica t ≤ 16
  unfolding max_replica
  max_replica_16 =
      let p : ℕ → Bool = λ d. eqb (told_at t 0 d) 1 in
      let q : ℕ → Bool = λ d. eqb d 0 || p d in
      let al : (machine_at t 0).alive ≡ 1 = eqb-true _ _ o.root in
      let z : p 0 ≡ false = ne_eqb (told_at t 0 0) 1 (λ e. let f = told_of 0 0 (omega arith) (omega arith) (λ g. omega arith) in omega arith) in
      let c = count_to_one p q 16 0 (omega arith) z refl (λ i l n. sym (ap (λ (b : Bool). b || p i) (ne_eqb i 0 n))) in
      omega (arith, c, count_most q 16)

  pub facts : Facts t
  facts = record {
    machine_count_some = many t o;
    machine_count_most = few t o;
    entry_count_most = short t o;
    used_most = used_most t o.sizes;
    max_replica_some = max_replica_pos t;
    max_replica_most = max_replica_16;
    root = eqb-true _ _ o.root;
    job = λ j h. job_facts t o j (job_at t j) (o.job j h);
    machine = λ m h. machine_facts t o m (machine_at t m) (o.machine m h);
    message = every_map (λ x. in_flight_ok t x ≡ true) (MessageFacts t) (flight t) (message_facts t o) o.messages;
    told = λ m d h k. told_most t.machine_count (machine_at t d).alive m d (told_at t m d) (o.told m d h k);
    told_dead = told_of;
    pool = λ m j h k. cell_most t.entry_count (max_replica t) (machine_at t m).alive j (pool_at t m j) (o.pool m j h k);
    pool_dead = λ m j h k d.
        by_eq (pool_at t m j) 0 (λ e. e)
        (λ n. let a = cell_alive t.entry_count (max_replica t) (machine_at t m).alive j (pool_at t m j) (o.pool m j h k) n in absurd
        (omega arith));
    pool_entry = λ m j h k n. copy_job t.entry_count (max_replica t) j (pool_at t m j)
        (cell_copy t.entry_count (max_replica t) (machine_at t m).alive j (pool_at t m j) (o.pool m j h k) n);
  }
