-- Check 9 is row 9: a table passes exactly if none of the row's conditions holds.
-- Assumes nothing.
use Prim.Native.Nat.{ℕ, ◌≤◌, ◌<◌}
use mathlib.Core.Path.{◌≡◌}
use mathlib.Core.Logic.{◌≢◌}
use mathlib.Core.Bool.{true}
use mathlib.Core.List.{[], ◌∷◌}
use native.Mathlib.Omega.{arith}
use borrow.Author.Tests.{ltb-true, leb-true, leb-false, le-leb, lt-ltb, ltb-false, eq-eqb, le-ltb}
use lib.Dec.{eqb, leb, ltb}
use Rattle.lists.proofs.Chains.{chain_joined}
use Rattle.lists.proofs.Cases.{by_bool, by_eq, and_both}
use Rattle.table.specs.declared.Table.{Table}
use Rattle.table.specs.Parts.{NOT_ADMITTED}
use Rattle.table.specs.Views.{no_message, bond_at, job_at, machine_at, pool_at, told_at, message_at}
use Rattle.table.proofs.Views.{Sized}
use Rattle.validity_element.specs.Element.{bond_ok, job_ok, machine_ok, told_ok, cell_ok}
use Rattle.validity_message.specs.Message.{empty_message, message_ok}
use Rattle.validity.specs.Validity.{sizes_ok, max_replica, table_ok}
use Rattle.protocol_preservation.proofs.Empty.{empty_message_lem}
use Rattle.protocol_preservation.proofs.Ok.{Ok, slot, tests, joined, ok, counts}
use Rattle.protocol_preservation.proofs.Facts.{Facts, MessageFacts, no_copy, no_thief, no_price, told_in_lem}
use Rattle.protocol_preservation.proofs.Accepted.{in_flight, slot_message}
use Rattle.protocol_preservation.proofs.Passed.{facts, message_facts}
use Rattle.claims_row_nine.specs.RowNine.{Numbers, States, Unused, Replicas, RowNine}
use Rattle.protocol_preservation.proofs.Elements.{job_passes, machine_reserved, machine_runs, machine_passes, told_passes, cell_passes, kind_passes}
use Rattle.protocol_preservation.proofs.Elements.{ends_pass, carries_passes, thief_passes, message_passes}

-- ---- row 9 is enough

module _ (t : Table) (r : RowNine t) where
  sizes : sizes_ok t ≡ true
  sizes =
      let c = r.counts in
      chain_joined (leb 2 t.machine_count) (leb t.machine_count 16 ∷ leb t.entry_count 64 ∷ leb t.in_flight 128 ∷ [])
      (le-leb 2 t.machine_count (omega (arith, c.machine_count_least))) (
        le-leb t.machine_count 16 (omega (arith, c.machine_count_most)),
        (le-leb t.entry_count 64 (omega (arith, c.entry_count_most)), (le-leb t.in_flight 128 (omega (arith, c.messages_most)), tt)),
      )

  bond : (j : ℕ) → j < 64 → bond_ok t.entry_count j (bond_at t j) ≡ true
  bond j h =
      by_bool (ltb j t.entry_count)
      (λ e. rw e (r.terms j h (ltb-true _ _ e)))
      (λ e. rw e (r.unused.bond j h (ltb-false _ _ e)))

  job : (j : ℕ) → j < 64 → job_ok t.machine_count t.entry_count (max_replica t) j (job_at t j) ≡ true
  job j h =
      job_passes t.machine_count t.entry_count (max_replica t) j (job_at t j) (r.states.job j h) (r.states.moving j h)
      (r.numbers.holder j h) (r.numbers.thief j h) (r.numbers.replica j h)
      (r.unused.entry j h) (r.unused.unadmitted j h) (r.unused.unpriced j h) (r.unused.still j h) (r.replicas.job j h)

  machine : (m : ℕ) → m < 16 → machine_ok t.machine_count t.entry_count (max_replica t) m (machine_at t m) ≡ true
  machine m h =
      machine_passes t.machine_count t.entry_count (max_replica t) m (machine_at t m) (r.states.alive m h) (r.numbers.waits m h)
      (r.unused.machine m h) (r.unused.dead m h)
      (machine_reserved t.machine_count t.entry_count (max_replica t) m (machine_at t m) (r.numbers.reserved m h)
      (r.unused.unreserved m h) (r.replicas.reserved m h))
      (machine_runs t.machine_count t.entry_count (max_replica t) m (machine_at t m) (r.numbers.running m h) (r.unused.idle m h)
      (r.replicas.running m h))

  told : (m d : ℕ) → m < 16 → d < 16 → told_ok t.machine_count (machine_at t d).alive m d (told_at t m d) ≡ true
  told m d h k =
      told_passes t.machine_count (machine_at t d).alive m d (told_at t m d) (r.states.told m d h k) (r.unused.told m d h k)
      (λ n. let a = r.states.alive d k in let b = r.told m d h k n in by_eq (machine_at t d).alive 0 (λ e. e) (λ e. absurd (b (omega arith))))

  pool : (m j : ℕ) → m < 16 → j < 64 → cell_ok t.entry_count (max_replica t) (machine_at t m).alive j (pool_at t m j) ≡ true
  pool m j h k = cell_passes t.entry_count (max_replica t) (machine_at t m).alive j (pool_at t m j) (r.unused.pool_dead m j h k)
      (r.unused.pool_entry m j h k) (r.replicas.pool m j h k)

  message : (i : ℕ) → i < 128 → slot t i ≡ true
  message i h =
      by_bool (leb t.in_flight i)
      (λ e. rw (e, r.unused.slots i h (leb-true _ _ e)))
      (λ e.
      let l : i < t.in_flight = leb-false _ _ e in
      let x = message_at t i in
      rw e
      (and_both (eqb (machine_at t x.to).alive 1) (message_ok t.machine_count t.entry_count (max_replica t) x)
      (eq-eqb _ _ (r.receivers i l))
      (message_passes t.machine_count t.entry_count (max_replica t) x
      (kind_passes t.machine_count t.entry_count (max_replica t) x (r.states.kinds i l).0 (r.states.kinds i l).1
      (r.unused.prices i l))
      (ends_pass t.machine_count t.entry_count (max_replica t) x (r.numbers.ends i l).0 (r.numbers.ends i l).1 (r.ends_at_root i l))
      (carries_passes t.machine_count t.entry_count (max_replica t) x (r.numbers.copies i l) (r.unused.copies i l)
      (r.replicas.messages i l))
      (thief_passes t.machine_count t.entry_count (max_replica t) x (r.numbers.thieves i l) (r.unused.thieves i l)))))

  pub suffices : table_ok t ≡ true
  suffices =
      joined t record {
        sizes = sizes;
        bond = bond;
        job = job;
        machine = machine;
        pool = pool;
        slot = message;
        root = eq-eqb _ _ r.root;
        told = told;
      } (record { open_jobs = r.open_jobs })

-- ---- and needed

module _ (t : Table) (s : Sized t) (e : table_ok t ≡ true) where
  o : Ok t
  o = ok t s e

  f : Facts t
  f = facts t s o

  past : (i : ℕ) → i < 128 → t.in_flight ≤ i → message_at t i ≡ no_message
  past i h l =
      let c = (tests t e).slot i h in
      let g : empty_message (message_at t i) ≡ true = rw (le-leb t.in_flight i l) at c in
      empty_message_lem (message_at t i) g

  said : (i : ℕ) → i < t.in_flight → MessageFacts t (message_at t i)
  said i l = message_facts t o (message_at t i) (in_flight t s o i l)

  passed : (i : ℕ) → i < t.in_flight → message_ok t.machine_count t.entry_count (max_replica t) (message_at t i) ≡ true
  passed = slot_message t s o

  -- a machine that is not alive is none
  asleep : (m : ℕ) → m < 16 → (machine_at t m).alive ≢ 1 → (machine_at t m).alive ≡ 0
  asleep m h n = let a = (f.machine m h).alive in by_eq (machine_at t m).alive 0 (λ d. d) (λ d. absurd (n (omega arith)))

  numbers : Numbers t
  numbers = record {
    holder = λ j h n. (f.job j h).holder_in;
    thief = λ j h n. (f.job j h).thief_in;
    replica = λ j h n. (f.job j h).some n;
    waits = λ m h. (f.machine m h).waits;
    reserved = λ m h n. ((f.machine m h).reserved_entry n, (f.machine m h).reserved_thief_in);
    running = λ m h n. (f.machine m h).running_entry n;
    ends = λ i l. ((said i l).from_in, (said i l).to_in);
    copies = λ i l w. ((said i l).entry w, (said i l).some w);
    thieves = λ i l w. (said i l).thief_in;
  }

  states : States t
  states = record {
    job = λ j h. (f.job j h).state;
    moving = λ j h. (f.job j h).moving;
    alive = λ m h. (f.machine m h).alive;
    told = f.told;
    kinds = λ i l. ((said i l).kind_least, (said i l).kind_most);
  }

  unused : Unused t
  unused = record {
    bond = λ j h l. let c = o.bond j h in rw (le-ltb j t.entry_count l) at c;
    entry = λ j h l. by_eq (job_at t j).state NOT_ADMITTED (λ d. d) (λ d. absurd (omega (arith, (f.job j h).entry d)));
    pool_entry = f.pool_entry;
    unadmitted = λ j h z. (f.job j h).none z;
    unpriced = λ j h n. (f.job j h).unpriced n;
    still = λ j h z. (f.job j h).still z;
    machine = λ m h l. asleep m h (λ a. omega (arith, (f.machine m h).alive_in a));
    told = λ m d h k. told_in_lem t.machine_count (machine_at t d).alive m d (told_at t m d) (o.told m d h k);
    dead = λ m h z. (f.machine m h).dead z;
    pool_dead = λ m j h k n. let a = (f.machine m h).alive in
        by_eq (machine_at t m).alive 0 (λ z. absurd (n (f.pool_dead m j h k z))) (λ z. omega arith);
    unreserved = λ m h. (f.machine m h).unreserved;
    idle = λ m h. (f.machine m h).idle;
    copies = λ i l w. no_copy t.machine_count t.entry_count (max_replica t) (message_at t i) (passed i l) w;
    thieves = λ i l w. no_thief t.machine_count t.entry_count (max_replica t) (message_at t i) (passed i l) w;
    prices = λ i l n. no_price t.machine_count t.entry_count (max_replica t) (message_at t i) (passed i l) n;
    slots = past;
  }

  replicas : Replicas t
  replicas = record {
    job = λ j h. (f.job j h).replica;
    pool = f.pool;
    reserved = λ m h. (f.machine m h).reserved_replica;
    running = λ m h. (f.machine m h).running_replica;
    messages = λ i l. (said i l).replica;
  }

  pub needed : RowNine t
  needed = record {
    counts = record {
      machine_count_least = omega (arith, f.machine_count_some);
      machine_count_most = omega (arith, f.machine_count_most);
      entry_count_most = omega (arith, f.entry_count_most);
      messages_most = omega (arith, f.used_most);
    };
    numbers = numbers;
    states = states;
    terms = λ j h l. let c = o.bond j h in rw (lt-ltb j t.entry_count l) at c;
    unused = unused;
    receivers = λ i l. (said i l).alive;
    ends_at_root = λ i l. (said i l).root;
    root = f.root;
    told = λ m d h k n a. omega (arith, f.told_dead m d h k n);
    replicas = replicas;
    open_jobs = (counts t e).open_jobs;
  }
