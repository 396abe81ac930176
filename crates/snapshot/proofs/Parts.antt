-- Consecutive bytes as a list, and an element that is read and written again as the bytes that it was read from. Assumes nothing.
use Prim.Native.Nat.{ℕ, zero, suc, ◌+◌, ◌*◌, ◌/◌, ◌%◌, ◌≤◌, ◌<◌}
use mathlib.Core.Path.{◌≡◌, refl, sym, ap, ◌∙◌}
use mathlib.Core.Bool.{Bool, true, false, not, ◌||◌}
use mathlib.Core.List.{List, [], ◌∷◌, ◌++◌}
use native.Mathlib.Nat.{suc-mul}
use native.Mathlib.Omega.{arith}
use borrow.Author.Tests.{eqb-true}
use lib.Dec.{T, eqb}
use lib.Ieee.{binary64, is_nan, to_bits}
use lib.Ieee.Bits.{to_bits-of_bits}
use lib.ListN.{length, get_or, take, drop, length-drop}
use lib.Seq.{drop-cons, drop-drop, take-add, length-take-le, get_or-take, get_or-drop, ext_get_or}
use Rattle.lists.specs.Scan.{tabulate}
use Rattle.lists.proofs.Cases.{by_bool}
use Rattle.lists.proofs.Scans.{length_tabulate, tabulate_at}
use Rattle.endian.specs.Endian.{le16, le32, le64}
use Rattle.text.specs.Text.{joined}
use Rattle.pricer.proofs.Real.{RatesReal}
use Rattle.snapshot_read.specs.Layout.{coupon_at, yield_at, bond_size, job_size, machine_size, message_size, number_at, terms_from, bond_from, job_from}
use Rattle.snapshot_read.specs.Layout.{machine_from}
use Rattle.snapshot_read.specs.Layout.{message_from, terms_decodable}
use Rattle.snapshot_write.specs.Bytes.{bytes16, bytes32, bytes64, case_of, coupon_bits, yield_bits, bond_bytes, job_bytes, machine_bytes, message_bytes}

-- each number of the list is a byte
abbrev pub Small : List ℕ → Type 0
Small s = (i : ℕ) → get_or s i 0 < 256

-- a list by its elements
pub list_is : {A : Type 0} (f : ℕ → A) (l : List A) (d : A) (n : ℕ) → length l ≡ n → ((i : ℕ) → i < n → f i ≡ get_or l i d) → tabulate f n ≡ l
list_is {A} f l d n e h =
    let m = length_tabulate f n d n in
    ext_get_or d (tabulate f n) l (m ∙ sym e) (λ i k. let b : i < n = omega arith in tabulate_at f n d n i d b ∙ h i b)

-- n bytes of s from index `at` on
abbrev pub part : List ℕ → ℕ → ℕ → List ℕ
part s at n = take n (drop at s)

module _ (s : List ℕ) where
  -- one after the other
  join : (at a b : ℕ) → part s at a ++ part s (at + a) b ≡ part s at (a + b)
  join at a b = ap (λ (l : List ℕ). part s at a ++ take b l) (sym (drop-drop a at s)) ∙ sym (take-add a b (drop at s))

  pub both : (at m n : ℕ) {a b : List ℕ} → a ≡ part s at m → b ≡ part s (at + m) n → a ++ b ≡ part s at (m + n)
  both at m n {a} {b} p q = ap (λ (x : List ℕ). x ++ b) p ∙ ap (λ (x : List ℕ). part s at m ++ x) q ∙ join at m n

  -- the first one, and the others
  pub start : (at n : ℕ) → at < length s → get_or s at 0 ∷ part s (at + 1) n ≡ part s at (suc n)
  start at n h =
      let e : at + 1 ≡ suc at = omega arith in
      ap (λ (k : ℕ). get_or s at 0 ∷ part s k n) e ∙ sym (ap (take (suc n)) (drop-cons s at 0 h))

  pub next : (at k n : ℕ) → at + k < length s → get_or s (at + k) 0 ∷ part s (at + suc k) n ≡ part s (at + k) (suc n)
  next at k n h = let e : at + suc k ≡ at + k + 1 = omega arith in ap (λ (i : ℕ). get_or s (at + k) 0 ∷ part s i n) e ∙ start (at + k) n h

  -- all of them, as a list by its indices
  pub listed : (at n : ℕ) → at + n ≤ length s → tabulate (λ i. get_or s (at + i) 0) n ≡ part s at n
  listed at n h =
      list_is (λ i. get_or s (at + i) 0) (part s at n) 0 n (length-take-le n (drop at s) (omega (arith, length-drop at s)))
      (λ i k. sym (get_or-take n (drop at s) i 0 k ∙ get_or-drop at s i 0))

  -- elements of w bytes
  pub elements : (g : ℕ → List ℕ) (at w n : ℕ) → ((i : ℕ) → i < n → g i ≡ part s (at + w * i) w) → joined g n ≡ part s at (n * w)
  unfolding joined
  elements g at w zero h = ap (λ (k : ℕ). part s at k) (sym (zero_times w))
    where
      zero_times : (w : ℕ) → zero * w ≡ zero
      zero_times w = omega arith
  elements g at w (suc n) h =
      let e : w * n ≡ n * w = omega arith in
      ap (λ (l : List ℕ). l ++ g n) (elements g at w n (λ i k. h i (omega arith)))
      ∙ ap (λ (l : List ℕ). part s at (n * w) ++ l) (h n (omega arith) ∙ ap (λ (k : ℕ). part s (at + k) w) e)
      ∙ join at (n * w) w
      ∙ ap (λ (k : ℕ). part s at k) (sym (suc-mul n w))

or_none : (b : Bool) → b || false ≡ true → b ≡ true
or_none true e = refl
or_none false e = e

-- ---- numbers

module _ (s : List ℕ) (small : Small s) where
  small16 : (at : ℕ) → le16 s at < 65536
  small16 at = omega (arith, small at, small (at + 1))

  small32 : (at : ℕ) → le32 s at < 4294967296
  small32 at = omega (arith, small16 at, small16 (at + 2))

  small64 : (at : ℕ) → le64 s at < 18446744073709551616
  small64 at = omega (arith, small32 at, small32 (at + 4))

  part16 : (at : ℕ) → at + 2 ≤ length s → bytes16 (le16 s at) ≡ part s at 2
  unfolding bytes16
  part16 at h =
      let a : le16 s at % 256 ≡ get_or s at 0 = omega (arith, small at, small (at + 1)) in
      let b : le16 s at / 256 ≡ get_or s (at + 1) 0 = omega (arith, small at, small (at + 1)) in
      ap (λ (x : ℕ). x ∷ le16 s at / 256 ∷ []) a
      ∙ ap (λ (x : ℕ). get_or s at 0 ∷ x ∷ []) b
      ∙ ap (λ (l : List ℕ). get_or s at 0 ∷ l) (next s at 1 0 (omega arith))
      ∙ start s at 1 (omega arith)

  part32 : (at : ℕ) → at + 4 ≤ length s → bytes32 (le32 s at) ≡ part s at 4
  unfolding bytes32
  part32 at h =
      let a : le32 s at % 65536 ≡ le16 s at = omega (arith, small16 at, small16 (at + 2)) in
      let b : le32 s at / 65536 ≡ le16 s (at + 2) = omega (arith, small16 at, small16 (at + 2)) in
      ap (λ (x : ℕ). bytes16 x ++ bytes16 (le32 s at / 65536)) a
      ∙ ap (λ (x : ℕ). bytes16 (le16 s at) ++ bytes16 x) b
      ∙ both s at 2 2 (part16 at (omega arith)) (part16 (at + 2) (omega arith))

  part64 : (at : ℕ) → at + 8 ≤ length s → bytes64 (le64 s at) ≡ part s at 8
  unfolding bytes64
  part64 at h =
      let a : le64 s at % 4294967296 ≡ le32 s at = omega (arith, small32 at, small32 (at + 4)) in
      let b : le64 s at / 4294967296 ≡ le32 s (at + 4) = omega (arith, small32 at, small32 (at + 4)) in
      ap (λ (x : ℕ). bytes32 x ++ bytes32 (le64 s at / 4294967296)) a
      ∙ ap (λ (x : ℕ). bytes32 (le32 s at) ++ bytes32 x) b
      ∙ both s at 4 4 (part32 at (omega arith)) (part32 (at + 4) (omega arith))

  -- ---- one element

  pub job_part : (at : ℕ) → at + job_size ≤ length s → job_bytes (job_from s at) ≡ part s at job_size
  unfolding job_bytes job_from
  job_part at h =
      rw (
        part64 (at + 5) (omega arith),
        next s at 4 8 (omega arith),
        next s at 3 9 (omega arith),
        next s at 2 10 (omega arith),
        next s at 1 11 (omega arith),
      ) (start s at 12 (omega arith))

  pub machine_part : (at : ℕ) → at + machine_size ≤ length s → machine_bytes (machine_from s at) ≡ part s at machine_size
  unfolding machine_bytes machine_from
  machine_part at h =
      rw (
        next s at 6 0 (omega arith),
        next s at 5 1 (omega arith),
        next s at 4 2 (omega arith),
        next s at 3 3 (omega arith),
        next s at 2 4 (omega arith),
        next s at 1 5 (omega arith),
      ) (start s at 6 (omega arith))

  pub message_part : (at : ℕ) → at + message_size ≤ length s → message_bytes (message_from s at) ≡ part s at message_size
  unfolding message_bytes message_from
  message_part at h =
      rw (
        part64 (at + 6) (omega arith),
        next s at 5 8 (omega arith),
        next s at 4 9 (omega arith),
        next s at 3 10 (omega arith),
        next s at 2 11 (omega arith),
        next s at 1 12 (omega arith),
      ) (start s at 13 (omega arith))

  terms_part : (at : ℕ) → at + bond_size ≤ length s
      → (get_or s at 0 ∷ get_or s (at + 1) 0 ∷ get_or s (at + 2) 0 ∷ []) ++ bytes64 (le64 s (at + coupon_at)) ++ bytes64 (le64 s (at + yield_at))
      ≡ part s at bond_size
  terms_part at h =
      let e : at + yield_at ≡ at + coupon_at + 8 = omega arith in
      let rates : part s (at + coupon_at) 8 ++ part s (at + yield_at) 8 ≡ part s (at + coupon_at) 16 =
      ap (λ (k : ℕ). part s (at + coupon_at) 8 ++ part s k 8) e ∙ join s (at + coupon_at) 8 8 in
      rw (
        part64 (at + coupon_at) (omega arith),
        part64 (at + yield_at) (omega arith),
        rates,
        next s at 2 16 (omega arith),
        next s at 1 17 (omega arith),
      ) (start s at 18 (omega arith))

  -- a rate that is no NaN is written as the bits that it was read from
  rate_again : (at : ℕ) → T (not (is_nan (number_at s at))) → to_bits binary64 (number_at s at) ≡ le64 s at
  rate_again at k = to_bits-of_bits binary64 (le64 s at) (small64 at) k

  -- the terms by their case
  module _ (at : ℕ) (h : at + bond_size ≤ length s) (f : terms_decodable s at ≡ true) where
    terms_same : RatesReal (terms_from s at) → (case_of (terms_from s at) ≡ get_or s at 0) × (coupon_bits (terms_from s at) ≡ le64 s (at + coupon_at))
        × (yield_bits (terms_from s at) ≡ le64 s (at + yield_at))
    unfolding terms_from terms_decodable
    terms_same r =
        by_bool (eqb (get_or s at 0) 0)
        (λ e.
        let k : T (not (is_nan (number_at s (at + yield_at)))) = rw e at r in
        let c : eqb (le64 s (at + coupon_at)) 0 || false ≡ true = rw (eqb-true (get_or s at 0) 0 e) at f in
        let z : le64 s (at + coupon_at) ≡ 0 = eqb-true (le64 s (at + coupon_at)) 0 (or_none (eqb (le64 s (at + coupon_at)) 0) c) in
        rw e (sym (eqb-true (get_or s at 0) 0 e), sym z, rate_again (at + yield_at) k))
        (λ e.
        let k : T (not (is_nan (number_at s (at + coupon_at)))) × T (not (is_nan (number_at s (at + yield_at)))) = rw e at r in
        let c : eqb (get_or s at 0) 1 ≡ true = rw e at f in
        rw e (sym (eqb-true (get_or s at 0) 1 c), rate_again (at + coupon_at) k.0, rate_again (at + yield_at) k.1))

    pub bond_part : RatesReal (bond_from s at).terms → bond_bytes (bond_from s at) ≡ part s at bond_size
    unfolding bond_bytes bond_from
    bond_part r = let q = terms_same r in rw (q.0, q.1, q.2) (terms_part at h)
