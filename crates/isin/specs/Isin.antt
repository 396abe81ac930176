-- Document 01, "The identifier" (ISO 6166). An identifier is a list of bytes of any length. Definitions only.
use Rattle.std.specs.Prelude.{ℕ, ◌+◌, ◌-◌, ◌*◌, ◌/◌, ◌%◌, Bool, true, not, cond, ◌&&◌, List, [], ◌∷◌, leb, ltb, eqb, length, take, drop, get_or}

-- "Digits stand for themselves, A is 10 up to Z which is 35": 0 is byte 48, A is byte 65. Any other character has the value 36
abbrev pub value_of : ℕ → ℕ
value_of b = cond (ltb b 48) 36 (cond (ltb b 58) (b - 48) (cond (ltb b 65) 36 (cond (ltb b 91) (b - 55) 36)))

-- the value of each character of s lies from lo to hi
unfoldable pub all_in : ℕ → ℕ → List ℕ → Bool
all_in lo hi [] = true
all_in lo hi (b ∷ bs) = leb lo (value_of b) && (leb (value_of b) hi && all_in lo hi bs)

-- "two letters A to Z, nine of A to Z or 0 to 9, one check digit"
unfoldable pub has_form : List ℕ → Bool
has_form s = eqb (length s) 12 && all_in 10 35 (take 2 s) && all_in 0 35 (take 9 (drop 2 s)) && all_in 0 9 (take 1 (drop 11 s))

-- a value "written as two digits" from 10 on, before the digits ds
abbrev pub digits_of : ℕ → List ℕ → List ℕ
digits_of v ds = cond (ltb v 10) (v ∷ ds) (v / 10 ∷ v % 10 ∷ ds)

-- "the expanded .. characters"
unfoldable pub expanded : List ℕ → List ℕ
expanded [] = []
expanded (b ∷ bs) = digits_of (value_of b) (expanded bs)

-- "digits of a doubled number added: the doubled digits are 0 2 4 6 8 1 3 5 7 9"
abbrev pub doubled : ℕ → ℕ
doubled d = 2 * d / 10 + 2 * d % 10

-- what a digit adds: doubled, or "as they are"
abbrev pub weight : Bool → ℕ → ℕ
weight twice d = cond twice (doubled d) d

-- "From the right end .., the first, third, fifth digit and so on are doubled": whether the digit that has the digits ds to its right is doubled
unfoldable pub twice : List ℕ → Bool
twice [] = true
twice (d ∷ ds) = not (twice ds)

-- the doubled digits, and "The other digits are added as they are"
unfoldable pub digit_sum : List ℕ → ℕ
unfolding twice
digit_sum [] = 0
digit_sum (d ∷ ds) = weight (twice ds) d + digit_sum ds

-- the sum over the digits that characters are written as
abbrev pub sum_of : List ℕ → ℕ
sum_of s = digit_sum (expanded s)

-- "The check digit brings the total to a multiple of ten": the total of "the expanded first eleven characters" and the check digit
unfoldable pub total : List ℕ → ℕ
total s = sum_of (take 11 s) + value_of (get_or s 11 0)

-- 4 identifier form, 5 check digit, 0 for an identifier that passes
unfoldable pub verdict_of : List ℕ → ℕ
verdict_of s =
    cond (not (has_form s)) 4
    (cond (eqb (total s % 10) 0) 0 5)
