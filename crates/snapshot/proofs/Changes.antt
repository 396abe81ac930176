-- What an event leaves of a snapshot's bytes: the entry count, the terms, and the slots that are empty before it and after it. Assumes nothing.
use Prim.Native.Nat.{ℕ, zero, suc, ◌+◌, ◌-◌, ◌≤◌}
use mathlib.Core.Path.{◌≡◌, refl, sym, ap, ◌∙◌}
use mathlib.Core.Bool.{true}
use mathlib.Core.List.{List, [], ◌∷◌, ◌++◌, append-nil, append_assoc}
use native.Mathlib.Omega.{arith}
use lib.ListN.{length, get_or, drop, set, length-append}
use lib.Seq.{take_at, drop_at, drop-drop}
use Rattle.lists.proofs.Scans.{length_tabulate}
use Rattle.text.specs.Text.{over, joined}
use Rattle.table.specs.declared.Table.{Table}
use Rattle.table.specs.Views.{no_job, no_machine, no_message, past_bond, message_at}
use Rattle.table.proofs.Long.{Long}
use Rattle.table.proofs.Views.{Sized, entry_count_job, entry_count_machine, entry_count_pool, entry_count_told, entry_count_messages}
use Rattle.table.proofs.Views.{entry_count_machine_count}
use Rattle.validity.specs.Validity.{table_ok}
use Rattle.dispatcher.specs.Step.{step_of}
use Rattle.dispatcher.proofs.Fixed.{Fixed, fixed_step, step_bonds}
use Rattle.dispatcher.proofs.Preserved.{step_sized, step_ok}
use Rattle.dispatcher.specs.Apply.{Passed}
use Rattle.dispatcher.proofs.Ready.{passed_sized, passed, empty_past}
use Rattle.snapshot_read.specs.Layout.{jobs_start, bonds_from, jobs_from, machines_from, told_from, pools_from, messages_from, decodable, decode}
use Rattle.snapshot_write.specs.Bytes.{message_bytes, bonds_bytes, messages_bytes, entries_bytes, machine_state_bytes, numbers_bytes, flight_bytes}
use Rattle.snapshot_write.specs.Bytes.{encode}
use Rattle.snapshot_write.proofs.Lengths.{joined_same, length_bonds, changes_to, length_changes}
use Rattle.snapshot.proofs.Parts.{Small}
use Rattle.snapshot.proofs.Same.{same_bytes_lem}

-- ---- lists

split : (f : ℕ → List ℕ) (n k : ℕ) → joined f (n + k) ≡ joined f n ++ joined (λ i. f (n + i)) k
unfolding joined
split f n zero = let e : n + zero ≡ n = omega arith in ap (joined f) e ∙ sym (append-nil (joined f n))
split f n (suc k) =
    let e : n + suc k ≡ suc (n + k) = omega arith in
    ap (joined f) e
    ∙ ap (λ (x : List ℕ). x ++ f (n + k)) (split f n k)
    ∙ append_assoc (joined f n) (joined (λ i. f (n + i)) k) (f (n + k))

-- a middle that is written over by one of its length
over_middle : (a w v r : List ℕ) → length w ≡ length v → over (a ++ (w ++ r)) (length a) v ≡ a ++ (v ++ r)
unfolding over
over_middle a w v r e =
    ap (λ (x : List ℕ). x ++ v ++ drop (length a + length v) (a ++ (w ++ r))) (take_at a (w ++ r) (length a) refl)
    ∙ ap (λ (x : List ℕ). a ++ v ++ x)
    (sym (drop-drop (length v) (length a) (a ++ (w ++ r))) ∙ ap (drop (length v)) (drop_at a (w ++ r) (length a) refl) ∙ drop_at w r (length v) e)
    ∙ append_assoc a v r

regroup : (a j s u m r : List ℕ) → ((a ++ j) ++ s) ++ (u ++ (m ++ r)) ≡ a ++ (((j ++ s) ++ (u ++ m)) ++ r)
regroup a j s u m r = simp append_assoc

-- ---- the bytes of a table, as what stands before the jobs, what an event may change, and the slots from n on

-- of a table t, but with the machine count m
abbrev before : ℕ → Table → List ℕ
before m t = (m ∷ t.entry_count ∷ []) ++ bonds_bytes t.bonds

abbrev rest : Table → ℕ → List ℕ
rest t n = joined (λ i. message_bytes (get_or t.messages (n + i) no_message)) (128 - n)

whole : (t : Table) (n : ℕ) → n ≤ 128 → encode t ≡ before t.machine_count t ++ (changes_to t n ++ rest t n)
unfolding encode entries_bytes flight_bytes messages_bytes
whole t n h =
    let f : ℕ → List ℕ = λ i. message_bytes (get_or t.messages i no_message) in
    let e : 128 ≡ n + (128 - n) = omega arith in
    ap (λ (x : List ℕ). entries_bytes t ++ machine_state_bytes t ++ (numbers_bytes t ++ x)) (ap (joined f) e ∙ split f n (128 - n))
    ∙ regroup (before t.machine_count t) _ (machine_state_bytes t) (numbers_bytes t) (joined f n) (rest t n)

before_length : (m : ℕ) (t : Table) → length (before m t) ≡ jobs_start
before_length m t = simp length-append (omega (arith, length_bonds t.bonds))

module _ (t u : Table) (n : ℕ) (h : n ≤ 128) (lt : Long t) (lu : Long u) where
  changed : ((m : ℕ) → before m t ≡ before m u) → ((i : ℕ) → n ≤ i → get_or t.messages i no_message ≡ get_or u.messages i no_message)
      → over (set (encode t) 0 u.machine_count) jobs_start (changes_to u n) ≡ encode u
  changed b m =
      let k = u.machine_count in
      let w : length (changes_to t n) ≡ length (changes_to u n) = length_changes t n lt ∙ sym (length_changes u n lu) in
      let r : rest t n ≡ rest u n = joined_same _ _ (128 - n) (λ i _. ap message_bytes (m (n + i) (omega arith))) in
      ap (λ (x : List ℕ). over (set x 0 k) jobs_start (changes_to u n)) (whole t n h)
      ∙ ap (λ (i : ℕ). over (before k t ++ (changes_to t n ++ rest t n)) i (changes_to u n)) (sym (before_length k t))
      ∙ over_middle (before k t) (changes_to t n) (changes_to u n) (rest t n) w
      ∙ ap (λ (x : List ℕ). x ++ (changes_to u n ++ rest t n)) (b k)
      ∙ ap (λ (x : List ℕ). before k u ++ (changes_to u n ++ x)) r
      ∙ sym (whole u n h)

-- ---- an event

fixed_entry_count : Fixed (λ t. t.entry_count)
fixed_entry_count =
    record {
      job = entry_count_job;
      machine = entry_count_machine;
      pool = entry_count_pool;
      told = entry_count_told;
      messages = entry_count_messages;
    }

-- the arrays of a table that was read have their lengths
pub long_from : (s : List ℕ) → Long (decode s)
unfolding decode bonds_from jobs_from machines_from told_from pools_from messages_from
long_from s = record {
  bonds = length_tabulate _ 64 past_bond 64;
  jobs = length_tabulate _ 64 no_job 64;
  machines = length_tabulate _ 16 no_machine 16;
  told = length_tabulate _ 256 0 256;
  pools = length_tabulate _ 1024 0 1024;
  messages = length_tabulate _ 128 no_message 128;
}

module _ (s e : List ℕ) (small : Small s) (f : decodable s ≡ true) (ok : table_ok (decode s) ≡ true) where
  sized_from : Sized (decode s)
  sized_from = passed_sized (decode s) (long_from s) ok

  sized_after : Sized (step_of (decode s) e).table
  sized_after = step_sized (decode s) e sized_from

  -- no more than all slots are in flight, before and after
  pub used_from : (decode s).in_flight ≤ 128
  used_from = sized_from.used

  pub used_after : (step_of (decode s) e).table.in_flight ≤ 128
  used_after = sized_after.used

  long_after : Long (step_of (decode s) e).table
  long_after = let z = sized_after in record {
    bonds = ap length (step_bonds (decode s) e) ∙ (long_from s).bonds;
    jobs = z.jobs;
    machines = z.machines;
    told = z.told;
    pools = z.pools;
    messages = z.messages;
  }

  before_same : (m : ℕ) → before m (decode s) ≡ before m (step_of (decode s) e).table
  before_same m = rw (
    fixed_step (λ t. t.entry_count) fixed_entry_count entry_count_machine_count (decode s) e,
    step_bonds (decode s) e,
  ) refl

  pub stepped : (n : ℕ) → n ≤ 128 → (decode s).in_flight ≤ n → (step_of (decode s) e).table.in_flight ≤ n
      → let u = (step_of (decode s) e).table in
      over (set s 0 u.machine_count) jobs_start (changes_to u n) ≡ encode u
  unfolding message_at
  stepped n h a b =
      let u : Table = (step_of (decode s) e).table in
      ap (λ (x : List ℕ). over (set x 0 u.machine_count) jobs_start (changes_to u n)) (sym (same_bytes_lem s small f ok))
      ∙ changed (decode s) u n h (long_from s) long_after before_same
      (λ i k. empty_past (decode s) sized_from ok i (omega arith)
      ∙ sym (empty_past u sized_after (step_ok (decode s) e sized_from ok) i (omega arith)))

-- a table that was read is one that an event may be on
pub passed_from : (s : List ℕ) (t : Table) → t ≡ decode s → table_ok t ≡ true → Passed t
passed_from s t r ok = passed t (passed_sized t (rw r (long_from s)) ok) ok

-- the same of the table u that the event makes of the table t, for which the bytes s stand
module _ (s e : List ℕ) (t u : Table) (f : decodable s ≡ true) (r : t ≡ decode s) (ok : table_ok t ≡ true) (q : u ≡ (step_of t e).table)
    (small : Small s) where
  pub slots_most : (t.in_flight ≤ 128) × (u.in_flight ≤ 128)
  slots_most = let o : table_ok (decode s) ≡ true = rw r at ok in rw (q, r) (used_from s e small f o, used_after s e small f o)

  pub changes_all : (n : ℕ) → n ≤ 128 → t.in_flight ≤ n → u.in_flight ≤ n
      → over (set s 0 u.machine_count) jobs_start (changes_to u n) ≡ encode u
  changes_all n h x y = rw (q, r) (stepped s e small f (rw r at ok) n h (rw r at x) (rw (q, r) at y))
