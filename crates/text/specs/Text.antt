-- Text as bytes: numbers in digits, and a buffer into which a text is written. Definitions only.
use Rattle.std.specs.Prelude.{ℕ, zero, suc, ◌+◌, ◌/◌, ◌%◌, ◌≡◌, cond, List, [], ◌∷◌, ◌++◌, ltb, length, take, drop}
use Prim.Native.Char.{code}
use Prim.Native.String.{String, [] as []ˢ, ◌∷◌ as ◌∷ˢ◌}

-- a word in ASCII
abbrev pub ascii : String → List ℕ
ascii []ˢ = []
ascii (c ∷ˢ s) = code c ∷ ascii s

-- the buffer d with w written over it from position at on
unfoldable pub over : List ℕ → ℕ → List ℕ → List ℕ
over d at w = take at d ++ w ++ drop (at + length w) d

-- the text w at the front of the buffer d, of which the other bytes are untouched
abbrev pub onto : List ℕ → List ℕ → List ℕ
onto w d = w ++ drop (length w) d

-- what a function that writes w leaves in the buffer, and the position that it answers: that after w
pub record Written (before : List ℕ) (at : ℕ) (w : List ℕ) (after : List ℕ) (r : ℕ) : Type 0 where
  pub text : after ≡ over before at w
  pub end : r ≡ at + length w

-- 0 to 9 are 48 to 57 in ASCII, and A to F, which stand for 10 to 15, are 65 to 70
unfoldable pub digit : ℕ → ℕ
digit d = cond (ltb d 10) (48 + d) (55 + d)

-- the k lowest digits of x in a base, the lowest one last
unfoldable pub low_digits : ℕ → ℕ → ℕ → List ℕ
low_digits base zero x = []
low_digits base (suc k) x = low_digits base k (x / base) ++ (digit (x % base) ∷ [])

-- how many decimal digits a number below 100,000 has; 0 has one
unfoldable pub width_of : ℕ → ℕ
width_of n = cond (ltb n 10) 1 (cond (ltb n 100) 2 (cond (ltb n 1000) 3 (cond (ltb n 10000) 4 5)))

-- a number below 100,000, with no leading zero
unfoldable pub decimal : ℕ → List ℕ
decimal n = low_digits 10 (width_of n) n

-- "16 upper-case hexadecimal digits of the bits"
unfoldable pub hex16 : ℕ → List ℕ
hex16 x = low_digits 16 16 x

-- the texts f 0, f 1, .. f (n - 1), one after another
unfoldable pub joined : (ℕ → List ℕ) → ℕ → List ℕ
joined f zero = []
joined f (suc n) = joined f n ++ f n
