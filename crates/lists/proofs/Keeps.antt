-- A test of every index from the test of each, and from another that agrees with it; and what a loop keeps.
-- Assumes nothing.
use Prim.Native.Nat.{ℕ, zero, suc, ◌<◌, ◌≤◌}
use mathlib.Core.Path.{◌≡◌, refl}
use mathlib.Core.Bool.{Bool, true}
use native.Mathlib.Omega.{arith}
use native.Mathlib.Nat.{le_refl}
use Rattle.lists.specs.Scan.{all, up_to}

pub all_intro : (p : ℕ → Bool) (n : ℕ) → ((i : ℕ) → i < n → p i ≡ true) → all p n ≡ true
unfolding all
all_intro p zero f = refl
all_intro p (suc n) f = rw (all_intro p n (λ i h. f i (omega arith)), f n (omega arith))

pub all_same : (p q : ℕ → Bool) (n : ℕ) → ((i : ℕ) → i < n → p i ≡ q i) → all p n ≡ all q n
unfolding all
all_same p q zero f = refl
all_same p q (suc n) f = rw (all_same p q n (λ i h. f i (omega arith)), f n (omega arith))

-- A loop of n turns: what holds before turn j holds, of the next, after it; and what every turn keeps.
module _ {A : Type 0} (f : ℕ → A → A) where
  up_turn : (P : ℕ → A → Type 0) (n : ℕ) → ((j : ℕ) (u : A) → j < n → P j u → P (suc j) (f j u)) → (x : A) → P 0 x → (i : ℕ) → i ≤ n
      → P i (up_to f i x)
  unfolding up_to
  up_turn P n keeps x p zero h = p
  up_turn P n keeps x p (suc i) h = keeps i (up_to f i x) h (up_turn P n keeps x p i (omega arith))

  pub up_each : (P : ℕ → A → Type 0) (n : ℕ) → ((j : ℕ) (u : A) → j < n → P j u → P (suc j) (f j u)) → (x : A) → P 0 x → P n (up_to f n x)
  up_each P n keeps x p = up_turn P n keeps x p n (le_refl n)

  pub up_keeps : (P : A → Type 0) → ((j : ℕ) (u : A) → P u → P (f j u)) → (n : ℕ) (x : A) → P x → P (up_to f n x)
  up_keeps P keeps n x p = up_each (λ i. P) n (λ j u h. keeps j u) x p
