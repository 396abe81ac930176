-- The bytes of a table that passes check 9, read and written again, are the same bytes. Assumes nothing.
use Prim.Native.Nat.{ℕ, ◌+◌, ◌*◌, ◌<◌}
use mathlib.Core.Path.{◌≡◌, sym, ap, ◌∙◌}
use mathlib.Core.Bool.{Bool, true, false, not, ◌&&◌, true≢false}
use mathlib.Core.List.{List, [], ◌∷◌}
use native.Mathlib.Omega.{arith}
use lib.Dec.{T, eqb, ltb}
use lib.Ieee.{Float, nan, inf, fin, binary64, is_nan, to_bits}
use lib.ListN.{length, get_or}
use lib.Seq.{take_all}
use Rattle.lists.specs.Scan.{all}
use Rattle.lists.proofs.Cases.{by_bool, and_right}
use Rattle.lists.proofs.Scans.{all_at, tabulate_at}
use Rattle.pricer.proofs.Real.{RatesReal, rates_real}
use Rattle.pricer.specs.declared.Bond.{Bond}
use Rattle.pricer.specs.declared.Terms.{Terms}
use Rattle.pricer.specs.declared.Terms.TheVariants.{Zero, Fixed}
use Rattle.table.specs.Views.{no_job, no_machine, no_message, past_bond, bond_at}
use Rattle.validity_element.specs.Element.{no_terms, bond_ok}
use Rattle.validity.specs.Validity.{table_ok}
use Rattle.protocol_preservation.proofs.Ok.{tests}
use Rattle.snapshot_read.specs.Layout.{bond_size, job_size, machine_size, message_size, bonds_start, jobs_start, machines_start, told_start, pools_start}
use Rattle.snapshot_read.specs.Layout.{used_start, open_start, messages_start, table_size, bond_start, job_start, machine_start, message_start, bond_from, job_from}
use Rattle.snapshot_read.specs.Layout.{machine_from, message_from, bonds_from, jobs_from, machines_from, told_from, pools_from, messages_from, decode}
use Rattle.snapshot_read.specs.Layout.{terms_decodable, decodable}
use Rattle.snapshot_write.specs.Bytes.{entries_size, machine_state_size, numbers_size, flight_size, bond_bytes, job_bytes, machine_bytes, message_bytes, bonds_bytes}
use Rattle.snapshot_write.specs.Bytes.{jobs_bytes}
use Rattle.snapshot_write.specs.Bytes.{machines_bytes, messages_bytes, entries_bytes, machine_state_bytes, flight_bytes, encode}
use Rattle.snapshot.proofs.Answers.{decodable_length}
use Rattle.snapshot.proofs.Parts.{Small, part, both, start, next, listed, elements, bond_part, job_part, machine_part, message_part}

-- ---- no rate of a table that passes is a NaN

bits_real : (x : Float) → eqb (to_bits binary64 x) 0 ≡ true → T (not (is_nan x))
unfolding to_bits is_nan
bits_real nan h = absurd (true≢false (sym h))
bits_real (inf s) h = tt
bits_real (fin s m e) h = tt

none_real : (t : Terms) → no_terms t ≡ true → RatesReal t
none_real (Zero y) h = bits_real y h
none_real (Fixed c y) h = absurd (true≢false (sym h))

bond_real : (n j : ℕ) (b : Bond) → bond_ok n j b ≡ true → RatesReal b.terms
bond_real n j b h =
    by_bool (ltb j n)
    (λ e. rates_real b (rw e at h))
    (λ e. none_real b.terms (and_right (eqb b.periods 0 && eqb b.payments 0) (no_terms b.terms) (rw e at h)))

-- ---- each region is those bytes of s

module _ (s : List ℕ) (small : Small s) (l : length s ≡ table_size) where
  jobs_part : jobs_bytes (jobs_from s) ≡ part s jobs_start (64 * job_size)
  unfolding jobs_bytes jobs_from
  jobs_part =
      elements s _ jobs_start job_size 64
      (λ i k. ap job_bytes (tabulate_at (λ j. job_from s (job_start j)) 64 no_job 64 i no_job k)
      ∙ job_part s small (job_start i) (omega arith))

  machines_part : machines_bytes (machines_from s) ≡ part s machines_start (16 * machine_size)
  unfolding machines_bytes machines_from
  machines_part =
      elements s _ machines_start machine_size 16
      (λ i k. ap machine_bytes (tabulate_at (λ j. machine_from s (machine_start j)) 16 no_machine 16 i no_machine k)
      ∙ machine_part s small (machine_start i) (omega arith))

  messages_part : messages_bytes (messages_from s) ≡ part s messages_start (128 * message_size)
  unfolding messages_bytes messages_from
  messages_part =
      elements s _ messages_start message_size 128
      (λ i k. ap message_bytes (tabulate_at (λ j. message_from s (message_start j)) 128 no_message 128 i no_message k)
      ∙ message_part s small (message_start i) (omega arith))

  told_part : told_from s ≡ part s told_start 256
  unfolding told_from
  told_part = listed s told_start 256 (omega arith)

  pools_part : pools_from s ≡ part s pools_start 1024
  unfolding pools_from
  pools_part = listed s pools_start 1024 (omega arith)

  counts_part : get_or s 0 0 ∷ get_or s 1 0 ∷ [] ≡ part s 0 bonds_start
  counts_part = ap (λ (r : List ℕ). get_or s 0 0 ∷ r) (next s 0 1 0 (omega arith)) ∙ start s 0 1 (omega arith)

  numbers_part : get_or s used_start 0 ∷ get_or s open_start 0 ∷ [] ≡ part s used_start numbers_size
  numbers_part = ap (λ (r : List ℕ). get_or s used_start 0 ∷ r) (next s used_start 1 0 (omega arith)) ∙ start s used_start 1 (omega arith)

  -- the terms, which pass check 9
  module _ (f : all (λ i. terms_decodable s (bond_start i)) 64 ≡ true) (ok : table_ok (decode s) ≡ true) where
    bond_is : (i : ℕ) → i < 64 → bond_at (decode s) i ≡ bond_from s (bond_start i)
    unfolding bond_at decode bonds_from
    bond_is i k = tabulate_at (λ j. bond_from s (bond_start j)) 64 past_bond 64 i past_bond k

    bonds_real : (i : ℕ) → i < 64 → RatesReal (bond_from s (bond_start i)).terms
    bonds_real i k =
        let e = (tests (decode s) ok).bond i k in
        bond_real (decode s).entry_count i (bond_from s (bond_start i)) (rw (bond_is i k) at e)

    bonds_part : bonds_bytes (bonds_from s) ≡ part s bonds_start (64 * bond_size)
    unfolding bonds_bytes bonds_from
    bonds_part =
        elements s _ bonds_start bond_size 64
        (λ i k. ap bond_bytes (tabulate_at (λ j. bond_from s (bond_start j)) 64 past_bond 64 i past_bond k)
        ∙ bond_part s small (bond_start i) (omega arith) (all_at (λ j. terms_decodable s (bond_start j)) 64 i f k) (bonds_real i k))

    entries_part : entries_bytes (decode s) ≡ part s 0 entries_size
    unfolding entries_bytes decode
    entries_part = both s 0 jobs_start (64 * job_size) (both s 0 bonds_start (64 * bond_size) counts_part bonds_part) jobs_part

    machine_state_part : machine_state_bytes (decode s) ≡ part s machines_start machine_state_size
    unfolding machine_state_bytes decode
    machine_state_part =
        both s machines_start (16 * machine_size + 256) 1024 (both s machines_start (16 * machine_size) 256 machines_part told_part) pools_part

    flight_part : flight_bytes (decode s) ≡ part s used_start flight_size
    unfolding flight_bytes decode
    flight_part = both s used_start numbers_size (128 * message_size) numbers_part messages_part

    whole_part : encode (decode s) ≡ s
    unfolding encode
    whole_part =
        both s 0 used_start flight_size (both s 0 entries_size machine_state_size entries_part machine_state_part) flight_part
        ∙ take_all table_size s (omega arith)

-- the form of bytes is their length and the case of each entry
cases : (s : List ℕ) → decodable s ≡ true → all (λ i. terms_decodable s (bond_start i)) 64 ≡ true
unfolding decodable
cases s e = by_bool (eqb (length s) table_size) (λ h. rw h at e) (λ h. let z : ◌≡◌ {A = Bool} false true = rw h at e in absurd (true≢false (sym z)))

-- bytes that pass the check are the bytes of their table
pub same_bytes_lem : (s : List ℕ) → Small s → decodable s ≡ true → table_ok (decode s) ≡ true → encode (decode s) ≡ s
same_bytes_lem s small f ok = whole_part s small (decodable_length s f) (cases s f) ok
