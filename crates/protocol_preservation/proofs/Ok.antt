-- The table passes check 9, as facts about its parts: the tests of one element, and the counts over a whole array.
-- Both ways: a table that passes has them, and one that has them passes.
-- Assumes nothing.
use Prim.Native.Nat.{ℕ, ◌+◌, ◌-◌, ◌≤◌, ◌<◌}
use mathlib.Core.Path.{◌≡◌, sym, ap, ◌∙◌}
use mathlib.Core.Bool.{Bool, true, ◌&&◌}
use mathlib.Core.List.{List, [], ◌∷◌, ◌++◌}
use native.Mathlib.Omega.{arith}
use borrow.Author.Tests.{eqb-true, eq-eqb, leb-true, leb-false, le-leb, lt-leb}
use lib.Dec.{eqb, leb}
use lib.ListN.{length, get_or, take, drop, replicate, length-drop, take-append-drop}
use lib.Seq.{get_or-drop, get_or-append-add, length-take-le}
use Rattle.lists.specs.Scan.{pad_to}
use Rattle.lists.proofs.Scans.{all_at}
use Rattle.lists.proofs.Keeps.{all_intro}
use Rattle.lists.proofs.Cases.{by_bool, and_left, and_right, and_both}
use Rattle.lists.proofs.Count.{Every, every_at, every_index, same_all, get_d_same}
use Rattle.lists.proofs.Chains.{chain_apart, chain_joined}
use Rattle.table.specs.declared.Table.{Table}
use Rattle.table.specs.declared.Message.{Message}
use Rattle.table.specs.Views.{no_message, bond_at, job_at, machine_at, pool_at, told_at, message_at, flight}
use Rattle.table.specs.Parts.{recount}
use Rattle.table.proofs.Views.{Sized, length_flight}
use Rattle.table.proofs.Messages.{Padded, message_flight}
use Rattle.validity_element.specs.Element.{bond_ok, job_ok, machine_ok, told_ok, cell_ok}
use Rattle.validity_message.specs.Message.{message_ok, empty_message, slot_ok}
use Rattle.validity.specs.Validity.{sizes_ok, root_ok, max_replica, bonds_ok, jobs_ok, machines_ok, told_row, tolds_ok, pool_row, pools_ok, messages_ok}
use Rattle.validity.specs.Validity.{elements_ok, counts_ok, table_ok}
use Rattle.protocol_preservation.proofs.Empty.{empty_message_lem}

-- a message in flight: its receiver is alive, and its parts are in their ranges
abbrev pub in_flight_ok : Table → Message → Bool
in_flight_ok t x = eqb (machine_at t x.to).alive 1 && message_ok t.machine_count t.entry_count (max_replica t) x

-- check 9 by its tests of one element, which are kept update by update
pub record Ok (t : Table) : Type 0 where
  pub sizes : sizes_ok t ≡ true
  pub bond : (j : ℕ) → j < 64 → bond_ok t.entry_count j (bond_at t j) ≡ true
  pub job : (j : ℕ) → j < 64 → job_ok t.machine_count t.entry_count (max_replica t) j (job_at t j) ≡ true
  pub machine : (m : ℕ) → m < 16 → machine_ok t.machine_count t.entry_count (max_replica t) m (machine_at t m) ≡ true
  pub pool : (m j : ℕ) → m < 16 → j < 64 → cell_ok t.entry_count (max_replica t) (machine_at t m).alive j (pool_at t m j) ≡ true
  pub messages : Every (λ x. in_flight_ok t x ≡ true) (flight t)
  pub padded : Padded t
  pub root : root_ok t ≡ true
  pub told : (m d : ℕ) → m < 16 → d < 16 → told_ok t.machine_count (machine_at t d).alive m d (told_at t m d) ≡ true

-- check 9 by its counts over a whole array, which are kept event by event
pub record Counts (t : Table) : Type 0 where
  pub open_jobs : t.open_jobs ≡ recount t

-- the arrays have their lengths, and the table passes
pub record Valid (t : Table) : Type 0 where
  pub sized : Sized t
  pub ok : Ok t
  pub counts : Counts t

-- ---- the slots against the list in flight and its padding

abbrev pub slot : Table → ℕ → Bool
slot t i = slot_ok t.machine_count t.entry_count (max_replica t) t.in_flight i (machine_at t (message_at t i).to).alive (message_at t i)

module _ (t : Table) (s : Sized t) where
  from_slots : ((i : ℕ) → i < 128 → slot t i ≡ true) → Every (λ x. in_flight_ok t x ≡ true) (flight t)
  from_slots e =
      let n = length_flight t s in
      every_index (λ x. in_flight_ok t x ≡ true) no_message (flight t) (λ i h.
      let l : i < t.in_flight = omega arith in
      let c : slot t i ≡ true = e i (omega arith) in
      let g : in_flight_ok t (message_at t i) ≡ true = rw (lt-leb t.in_flight i l) at c in
      rw (message_flight t s i l) g)

  from_empty : ((i : ℕ) → i < 128 → slot t i ≡ true) → Padded t
  unfolding Padded pad_to flight message_at
  from_empty e =
      let n = t.in_flight in
      let d = length-drop n t.messages in
      let f = length-take-le n t.messages (omega arith) in
      let r : drop n t.messages ≡ replicate (length (drop n t.messages)) no_message =
      same_all no_message (drop n t.messages) (λ i h.
      let c : slot t (n + i) ≡ true = e (n + i) (omega arith) in
      let g : empty_message (get_or t.messages (n + i) no_message) ≡ true = rw (le-leb n (n + i) (omega arith)) at c in
      get_or-drop n t.messages i no_message ∙ empty_message_lem (get_or t.messages (n + i) no_message) g) in
      let q : length (drop n t.messages) ≡ 128 - length (take n t.messages) = omega arith in
      sym (take-append-drop n t.messages) ∙ ap (λ (l : List Message). take n t.messages ++ l) (r ∙ ap (λ (k : ℕ). replicate k no_message) q)

module _ (t : Table) (s : Sized t) (m : Every (λ x. in_flight_ok t x ≡ true) (flight t)) (p : Padded t) where
  slot_past : (i : ℕ) → t.in_flight ≤ i → message_at t i ≡ no_message
  unfolding message_at Padded pad_to
  slot_past i h =
      let n = length_flight t s in
      let q : i ≡ length (flight t) + (i - length (flight t)) = omega arith in
      ap (λ (l : List Message). get_or l i no_message) p
      ∙ ap (λ (k : ℕ). get_or (flight t ++ replicate (128 - length (flight t)) no_message) k no_message) q
      ∙ get_or-append-add (flight t) (replicate (128 - length (flight t)) no_message) (i - length (flight t)) no_message
      ∙ get_d_same (128 - length (flight t)) (i - length (flight t)) no_message

  to_slots : (i : ℕ) → i < 128 → slot t i ≡ true
  to_slots i h =
      let n = length_flight t s in
      by_bool (leb t.in_flight i)
      (λ e. rw (e, slot_past i (leb-true _ _ e)))
      (λ e.
      let l : i < t.in_flight = leb-false _ _ e in
      let g : in_flight_ok t (get_or (flight t) i no_message) ≡ true = every_at (λ x. in_flight_ok t x ≡ true) (flight t) i no_message (omega arith) m in
      rw e (rw (message_flight t s i l) at g))

-- ---- both ways

-- the tests of `elements_ok`, element by element
pub record Tests (t : Table) : Type 0 where
  pub sizes : sizes_ok t ≡ true
  pub bond : (j : ℕ) → j < 64 → bond_ok t.entry_count j (bond_at t j) ≡ true
  pub job : (j : ℕ) → j < 64 → job_ok t.machine_count t.entry_count (max_replica t) j (job_at t j) ≡ true
  pub machine : (m : ℕ) → m < 16 → machine_ok t.machine_count t.entry_count (max_replica t) m (machine_at t m) ≡ true
  pub pool : (m j : ℕ) → m < 16 → j < 64 → cell_ok t.entry_count (max_replica t) (machine_at t m).alive j (pool_at t m j) ≡ true
  pub slot : (i : ℕ) → i < 128 → slot t i ≡ true
  pub root : root_ok t ≡ true
  pub told : (m d : ℕ) → m < 16 → d < 16 → told_ok t.machine_count (machine_at t d).alive m d (told_at t m d) ≡ true

-- all arrays
abbrev later : Table → List Bool
later t = bonds_ok t ∷ jobs_ok t (max_replica t) ∷ machines_ok t (max_replica t) ∷ pools_ok t (max_replica t) ∷ messages_ok t (max_replica t) ∷ root_ok t
    ∷ tolds_ok t ∷ []

pub tests : (t : Table) → table_ok t ≡ true → Tests t
unfolding table_ok elements_ok bonds_ok jobs_ok machines_ok messages_ok tolds_ok told_row pools_ok pool_row
tests t e =
    let p = chain_apart (sizes_ok t) (later t) (and_left (elements_ok t) (counts_ok t) e) in
    record {
      sizes = p.0;
      bond = λ j h. all_at (λ j. bond_ok t.entry_count j (bond_at t j)) 64 j p.1.0 h;
      job = λ j h. all_at (λ j. job_ok t.machine_count t.entry_count (max_replica t) j (job_at t j)) 64 j p.1.1.0 h;
      machine = λ m h. all_at (λ m. machine_ok t.machine_count t.entry_count (max_replica t) m (machine_at t m)) 16 m p.1.1.1.0 h;
      pool = λ m j h k. all_at (λ j. cell_ok t.entry_count (max_replica t) (machine_at t m).alive j (pool_at t m j)) 64 j
          (all_at (pool_row t (max_replica t)) 16 m p.1.1.1.1.0 h) k;
      slot = λ i h. all_at (slot t) 128 i p.1.1.1.1.1.0 h;
      root = p.1.1.1.1.1.1.0;
      told = λ m d h k. all_at (λ d. told_ok t.machine_count (machine_at t d).alive m d (told_at t m d)) 16 d
          (all_at (told_row t) 16 m p.1.1.1.1.1.1.1.0 h) k;
    }

elements : (t : Table) → Tests t → elements_ok t ≡ true
unfolding elements_ok bonds_ok jobs_ok machines_ok messages_ok tolds_ok told_row pools_ok pool_row
elements t p =
    chain_joined (sizes_ok t) (later t) p.sizes (
      all_intro (λ j. bond_ok t.entry_count j (bond_at t j)) 64 p.bond,
      (
        all_intro (λ j. job_ok t.machine_count t.entry_count (max_replica t) j (job_at t j)) 64 p.job,
        (
          all_intro (λ m. machine_ok t.machine_count t.entry_count (max_replica t) m (machine_at t m)) 16 p.machine,
          (
            all_intro (pool_row t (max_replica t)) 16 (λ m h.
                all_intro (λ j. cell_ok t.entry_count (max_replica t) (machine_at t m).alive j (pool_at t m j)) 64 (λ j k. p.pool m j h k)),
            (
              all_intro (slot t) 128 p.slot,
              (
                p.root,
                (
                  all_intro (told_row t) 16 (λ m h.
                      all_intro (λ d. told_ok t.machine_count (machine_at t d).alive m d (told_at t m d)) 16 (λ d k. p.told m d h k)),
                  tt,
                ),
              ),
            ),
          ),
        ),
      ),
    )

pub counts : (t : Table) → table_ok t ≡ true → Counts t
unfolding table_ok counts_ok
counts t e = record { open_jobs = eqb-true _ _ (and_right (elements_ok t) (counts_ok t) e) }

pub joined : (t : Table) → Tests t → Counts t → table_ok t ≡ true
unfolding table_ok counts_ok
joined t p c = and_both (elements_ok t) (counts_ok t) (elements t p) (eq-eqb _ _ c.open_jobs)

module _ (t : Table) (s : Sized t) where
  pub ok : table_ok t ≡ true → Ok t
  ok e =
      let p = tests t e in
      record {
        sizes = p.sizes;
        bond = p.bond;
        job = p.job;
        machine = p.machine;
        pool = p.pool;
        root = p.root;
        told = p.told;
        messages = from_slots t s p.slot;
        padded = from_empty t s p.slot;
      }

  pub passes : Ok t → Counts t → table_ok t ≡ true
  passes o =
      joined t record {
        sizes = o.sizes;
        bond = o.bond;
        job = o.job;
        machine = o.machine;
        pool = o.pool;
        root = o.root;
        told = o.told;
        slot = to_slots t s o.messages o.padded;
      }

-- ---- the sizes

module _ (t : Table) (e : sizes_ok t ≡ true) where
  sizes : (leb 2 t.machine_count ≡ true) × Every (λ b. b ≡ true) (leb t.machine_count 16 ∷ leb t.entry_count 64
      ∷ leb t.in_flight 128 ∷ [])
  sizes = chain_apart (leb 2 t.machine_count) (leb t.machine_count 16 ∷ leb t.entry_count 64 ∷ leb t.in_flight 128 ∷ []) e

  pub machine_count_some : 2 ≤ t.machine_count
  machine_count_some = leb-true _ _ sizes.0

  pub machine_count_most : t.machine_count ≤ 16
  machine_count_most = leb-true _ _ sizes.1.0

  pub entry_count_most : t.entry_count ≤ 64
  entry_count_most = leb-true _ _ sizes.1.1.0

  pub used_most : t.in_flight ≤ 128
  used_most = leb-true _ _ sizes.1.1.1.0
