-- A test of each item of a list. Definitions only.
use Rattle.std.specs.Prelude.{ℕ, Bool, List, ◌≡◌, ◌<◌, length, get_or}

-- of the item at each index i the test answers p i; d stands past the end of the list
abbrev pub Tells : {T : Type 0} → (ℕ → T → Bool → Type 0) → List T → T → (ℕ → Bool) → Type 0
Tells answers items d p = (i : ℕ) (r : Bool) → i < length items → answers i (get_or items i d) r → r ≡ p i
