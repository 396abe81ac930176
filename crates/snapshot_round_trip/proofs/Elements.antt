-- One element that is written and read again is the same element. Assumes nothing.
use Prim.Native.Nat.{ℕ, ◌+◌}
use mathlib.Core.Path.{◌≡◌, sym, ap, ◌∙◌}
use mathlib.Core.Bool.{true}
use mathlib.Core.List.{List, [], ◌∷◌, ◌++◌}
use native.Mathlib.Omega.{arith}
use borrow.Author.Tests.{eq-eqb}
use lib.Dec.{T}
use lib.Ieee.{binary64, fits}
use lib.Ieee.Bits.{of_bits-to_bits}
use lib.ListN.{length, get_or}
use Rattle.endian.specs.Endian.{le64}
use Rattle.pricer.specs.declared.Bond.{Bond}
use Rattle.pricer.specs.declared.Terms.{Terms}
use Rattle.pricer.specs.declared.Terms.TheVariants.{Zero, Fixed}
use Rattle.table.specs.declared.Job.{Job}
use Rattle.table.specs.declared.Machine.{Machine}
use Rattle.table.specs.declared.Message.{Message}
use Rattle.snapshot_read.specs.Layout.{coupon_at, yield_at, job_price_at, message_price_at, terms_from, bond_from, job_from, machine_from, message_from}
use Rattle.snapshot_read.specs.Layout.{terms_decodable}
use Rattle.snapshot_write.specs.Bytes.{bytes64, case_of, coupon_bits, yield_bits, bond_bytes, job_bytes, machine_bytes, message_bytes}
use Rattle.snapshot_write.proofs.Lengths.{length_64}
use Rattle.snapshot_round_trip.proofs.Starts.{Starts, front, behind, byte, first, number64}

-- each rate is a number of binary64, as every f64 of a program is
abbrev pub RatesFit : Terms → Type 0
RatesFit (Zero y) = T (fits binary64 y)
RatesFit (Fixed c y) = T (fits binary64 c) × T (fits binary64 y)

module _ (s : List ℕ) (at : ℕ) where
  pub job_again : (v : Job) → Starts s at (job_bytes v) → job_from s at ≡ v
  unfolding job_bytes job_from
  job_again v h =
      let x : List ℕ = v.state ∷ v.replica ∷ v.moving ∷ v.holder ∷ v.thief ∷ [] in
      let a : Starts s at x = front x (bytes64 v.price) h in
      let b : Starts s (at + job_price_at) (bytes64 v.price) = behind x (bytes64 v.price) h in
      rw (
        first v.state _ a,
        byte x a 1 (omega arith),
        byte x a 2 (omega arith),
        byte x a 3 (omega arith),
        byte x a 4 (omega arith),
        number64 s (at + job_price_at) v.price b,
      )

  pub machine_again : (n : Machine) → Starts s at (machine_bytes n) → machine_from s at ≡ n
  unfolding machine_bytes machine_from
  machine_again n h =
      let x : List ℕ = machine_bytes n in
      rw (
        first n.alive _ h,
        byte x h 1 (omega arith),
        byte x h 2 (omega arith),
        byte x h 3 (omega arith),
        byte x h 4 (omega arith),
        byte x h 5 (omega arith),
        byte x h 6 (omega arith),
      )

  pub message_again : (m : Message) → Starts s at (message_bytes m) → message_from s at ≡ m
  unfolding message_bytes message_from
  message_again m h =
      let x : List ℕ = m.kind ∷ m.from ∷ m.to ∷ m.job ∷ m.replica ∷ m.thief ∷ [] in
      let a : Starts s at x = front x (bytes64 m.price) h in
      let b : Starts s (at + message_price_at) (bytes64 m.price) = behind x (bytes64 m.price) h in
      rw (
        first m.kind _ a,
        byte x a 1 (omega arith),
        byte x a 2 (omega arith),
        byte x a 3 (omega arith),
        byte x a 4 (omega arith),
        byte x a 5 (omega arith),
        number64 s (at + message_price_at) m.price b,
      )

  -- the parts of an entry's terms
  record Parts (b : Bond) : Type 0 where
    case_is : get_or s at 0 ≡ case_of b.terms
    periods_is : get_or s (at + 1) 0 ≡ b.periods
    payments_is : get_or s (at + 2) 0 ≡ b.payments
    coupon_is : le64 s (at + coupon_at) ≡ coupon_bits b.terms
    yield_is : le64 s (at + yield_at) ≡ yield_bits b.terms

  parts : (b : Bond) → Starts s at (bond_bytes b) → Parts b
  unfolding bond_bytes
  parts b h =
      let x : List ℕ = case_of b.terms ∷ b.periods ∷ b.payments ∷ [] in
      let c : ℕ = coupon_bits b.terms in
      let y : ℕ = yield_bits b.terms in
      let xs : List ℕ = x ++ bytes64 c in
      let f : Starts s at xs = front xs (bytes64 y) h in
      let e : at + length xs ≡ at + yield_at = omega (arith, length_64 c) in
      record {
        case_is = first _ _ (front x (bytes64 c) f);
        periods_is = byte x (front x (bytes64 c) f) 1 (omega arith);
        payments_is = byte x (front x (bytes64 c) f) 2 (omega arith);
        coupon_is = number64 s (at + coupon_at) c (behind x (bytes64 c) f);
        yield_is = ap (le64 s) (sym e) ∙ number64 s (at + length xs) y (behind xs (bytes64 y) h);
      }

  -- the terms by their case
  terms_again : (t : Terms) → RatesFit t → get_or s at 0 ≡ case_of t → le64 s (at + coupon_at) ≡ coupon_bits t → le64 s (at + yield_at) ≡ yield_bits t
      → terms_from s at ≡ t
  unfolding terms_from
  terms_again (Zero y) f v c e = rw (eq-eqb _ _ v, e, of_bits-to_bits binary64 y f)
  terms_again (Fixed c y) f v d e = rw (v, d, e, of_bits-to_bits binary64 c f.0, of_bits-to_bits binary64 y f.1)

  terms_decodable_lem : (t : Terms) → get_or s at 0 ≡ case_of t → le64 s (at + coupon_at) ≡ coupon_bits t → terms_decodable s at ≡ true
  unfolding terms_decodable
  terms_decodable_lem (Zero y) v c = rw (v, c)
  terms_decodable_lem (Fixed c y) v d = rw v

  pub bond_again : (b : Bond) → RatesFit b.terms → Starts s at (bond_bytes b) → bond_from s at ≡ b
  unfolding bond_from
  bond_again b f h = let p = parts b h in rw (p.periods_is, p.payments_is, terms_again b.terms f p.case_is p.coupon_is p.yield_is)

  pub bond_decodable : (b : Bond) → Starts s at (bond_bytes b) → terms_decodable s at ≡ true
  bond_decodable b h = let p = parts b h in terms_decodable_lem b.terms p.case_is p.coupon_is
