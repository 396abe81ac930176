-- The numbers of a call: 28, 29 and 0 by the tests of the code, what 0 says of the call, and the buffer with each. Assumes nothing.
use Prim.Native.Nat.{ℕ, ◌+◌, ◌-◌, ◌*◌, ◌≤◌, ◌<◌}
use mathlib.Core.Path.{◌≡◌, sym, ◌∙◌}
use mathlib.Core.Logic.{◌≢◌}
use mathlib.Core.List.{List}
use native.Mathlib.Omega.{arith}
use borrow.Author.Tests.{eq-eqb, ne_eqb, le-leb, lt-leb, lt-ltb, le-ltb}
use lib.ListN.{length}
use Rattle.std.proofs.lemmas.Bool.Decides.{nat_tests}
use Rattle.text.specs.Text.{onto, Written}
use Rattle.text.proofs.Over.{over_onto}
use Rattle.worst_run.specs.Worst.{worst_bytes, worst_number, worst_buffer}
use Rattle.worst_run.proofs.Bytes.{length_bytes}

module _ (m k size : ℕ) where
  -- 28 with fewer than 2 machines
  pub too_few : m < 2 → 28 ≡ worst_number m k size
  unfolding worst_number
  too_few h = rw (lt-leb 2 m h)

  -- with more than 16
  pub too_many : 2 ≤ m → 16 < m → 28 ≡ worst_number m k size
  unfolding worst_number
  too_many g h = rw (le-leb 2 m g, lt-leb m 16 h)

  module _ (g : 2 ≤ m) (h : m ≤ 16) where
    -- and with more deaths than machines beside the root
    pub too_deadly : m - 1 < k → 28 ≡ worst_number m k size
    unfolding worst_number
    too_deadly l = rw (le-leb 2 m g, le-leb m 16 h, lt-ltb (m - 1) k l)

    -- 29 with a buffer that is too short
    pub too_short : k ≤ m - 1 → size < 3 * (1 + 7 * k) → 29 ≡ worst_number m k size
    unfolding worst_number
    too_short l f =
        rw (le-leb 2 m g, le-leb m 16 h, le-ltb (m - 1) k l, length_bytes k, lt-ltb size (3 * (1 + 7 * k)) f)

    -- 0 otherwise
    pub enough : k ≤ m - 1 → 3 * (1 + 7 * k) ≤ size → 0 ≡ worst_number m k size
    unfolding worst_number
    enough l f =
        rw (le-leb 2 m g, le-leb m 16 h, le-ltb (m - 1) k l, length_bytes k, le-ltb size (3 * (1 + 7 * k)) f)

-- a call that is answered 0
pub record Fits (m k size : ℕ) : Type 0 where
  pub some : 2 ≤ m
  pub most : m ≤ 16
  pub below : k < m
  pub room : 3 * (1 + 7 * k) ≤ size

pub fits : (m k size : ℕ) → worst_number m k size ≡ 0 → Fits m k size
unfolding worst_number
fits m k size z =
    record {
      some = grind (arith, nat_tests);
      most = grind (arith, nat_tests);
      below = grind (arith, nat_tests);
      room = grind (arith, nat_tests, length_bytes);
    }

-- ---- the buffer

module _ (m k : ℕ) (buffer : List ℕ) where
  pub refused : (n : ℕ) → n ≡ worst_number m k (length buffer) → n ≢ 0 → buffer ≡ worst_buffer m k buffer
  unfolding worst_buffer
  refused n e d = rw (← e, ne_eqb n 0 d)

  pub accepted : worst_number m k (length buffer) ≡ 0 → onto (worst_bytes k) buffer ≡ worst_buffer m k buffer
  unfolding worst_buffer
  accepted z = rw (eq-eqb (worst_number m k (length buffer)) 0 z)

  pub written : {e : List ℕ} {r : ℕ} → 0 ≡ worst_number m k (length buffer) → Written buffer 0 (worst_bytes k) e r → e ≡ worst_buffer m k buffer
  written z w = w.text ∙ over_onto buffer (worst_bytes k) ∙ accepted (sym z)
