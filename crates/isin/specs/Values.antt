-- Request 2.8, "Letter values without a branch": a character's value by arithmetic, beside document 01's (`value_of`), and what is claimed of it.
-- The claim is `Values`; its proof is in proofs/Values.antt. Definitions only.
use Rattle.std.specs.Prelude.{ℕ, ◌-◌, ◌*◌, ◌/◌, ◌<◌, ◌≡◌, Bool, true, ◌&&◌, ◌||◌, [], ◌∷◌, leb}
use Rattle.isin.specs.Isin.{value_of, all_in}

-- "A to Z" are the bytes 65 to 90
abbrev pub is_letter : ℕ → Bool
is_letter b = leb 65 b && leb b 90

-- "0 to 9" are the bytes 48 to 57
abbrev pub is_digit : ℕ → Bool
is_digit b = leb 48 b && leb b 57

-- "the 36 allowed characters": "A to Z or 0 to 9"
abbrev pub is_allowed : ℕ → Bool
is_allowed b = is_letter b || is_digit b

-- "code - 48 - 7 × (code / 65), division rounding down"
abbrev pub by_arithmetic : ℕ → ℕ
by_arithmetic b = b - 48 - 7 * (b / 65)

-- v is the value of exactly one allowed character
pub record ExactlyOne (v : ℕ) : Type 0 where
  -- there is one,
  pub character : ℕ
  pub allowed : is_allowed character ≡ true
  pub has : by_arithmetic character ≡ v
  -- and no other
  pub only : (b : ℕ) → is_allowed b ≡ true → by_arithmetic b ≡ v → b ≡ character

-- "for the 36 allowed characters. Show that over them it is document 01's value and takes each of 0 to 35 exactly once"
pub record Values : Type 0 where
  -- the allowed characters are those that the form takes among the nine,
  pub form : (b : ℕ) → is_allowed b ≡ all_in 0 35 (b ∷ [])
  -- over them it is document 01's value,
  pub same : (b : ℕ) → is_allowed b ≡ true → by_arithmetic b ≡ value_of b
  -- none has a value above 35,
  pub most : (b : ℕ) → is_allowed b ≡ true → by_arithmetic b < 36
  -- and each of 0 to 35 is the value of exactly one
  pub once : (v : ℕ) → v < 36 → ExactlyOne v
