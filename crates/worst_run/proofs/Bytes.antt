-- The bytes of the run that copies most: how many there are, and that they are what the code writes, the first event and then death by death.
-- Assumes nothing.
use Prim.Native.Nat.{ℕ, zero, suc, ◌+◌, ◌*◌, ◌≤◌}
use mathlib.Core.Path.{◌≡◌, refl, sym, ap, ◌∙◌}
use mathlib.Core.List.{List, ◌++◌, append_assoc, flatten}
use native.Mathlib.Numerals.{add-one}
use native.Mathlib.Omega.{arith}
use lib.ListN.{length, length-append}
use Rattle.lists.proofs.Count.{every_both}
use Rattle.lists.proofs.Slices.{flatten_append}
use Rattle.text.specs.Text.{Written}
use Rattle.text.proofs.Over.{then}
use Rattle.dispatcher.specs.Codes.{ADMIT}
use Rattle.dispatcher.specs.Step.{event}
use Rattle.dispatcher.proofs.Bytes.{Three, length_three}
use Rattle.worst_run.specs.Worst.{death_of, deaths_to, worst_run, worst_bytes}

-- ---- how many

three_deaths : (k : ℕ) → Three (deaths_to k)
unfolding deaths_to death_of
three_deaths zero = tt
three_deaths (suc k) =
    every_both (λ e. length e ≡ 3) (deaths_to k) (death_of (suc k)) (three_deaths k) (refl, (refl, (refl, (refl, (refl, (refl, (refl, tt)))))))

pub three_run : (k : ℕ) → Three (worst_run k)
unfolding worst_run
three_run k = (refl, three_deaths k)

length_deaths : (k : ℕ) → length (deaths_to k) ≡ 7 * k
unfolding deaths_to death_of
length_deaths zero = refl
length_deaths (suc k) = omega (arith, length-append (deaths_to k) (death_of (suc k)), length_deaths k)

pub length_run : (k : ℕ) → length (worst_run k) ≡ 1 + 7 * k
unfolding worst_run
length_run k = omega (arith, length_deaths k)

pub length_bytes : (k : ℕ) → length (worst_bytes k) ≡ 3 * (1 + 7 * k)
unfolding worst_bytes
length_bytes k = omega (arith, length_three (worst_run k) (three_run k), length_run k)

-- ---- as the code writes them

bytes_more : (k : ℕ) → worst_bytes (suc k) ≡ worst_bytes k ++ flatten (death_of (suc k))
unfolding worst_bytes worst_run deaths_to flatten
bytes_more k =
    ap (λ (l : List ℕ). event ADMIT 0 0 ++ l) (flatten_append (deaths_to k) (death_of (suc k)))
    ∙ sym (append_assoc (event ADMIT 0 0) (flatten (deaths_to k)) (flatten (death_of (suc k))))

-- the first event
pub run_none : {s d : List ℕ} {a : ℕ} → Written s 0 (event ADMIT 0 0) d a → Written s 0 (worst_bytes 0) d a
unfolding worst_bytes worst_run deaths_to flatten
run_none w = w

-- one death more
pub run_more : (k : ℕ) {s d e : List ℕ} {a b : ℕ} → 3 * (1 + 7 * (k + 1)) ≤ length s → Written s 0 (worst_bytes k) d a
    → Written d a (flatten (death_of (k + 1))) e b → Written s 0 (worst_bytes (k + 1)) e b
run_more k room v w =
    let l = ap length (bytes_more k) in
    rw (add-one k, bytes_more k) (then v (rw (add-one k) at w) (omega (arith, length_bytes (suc k))))
