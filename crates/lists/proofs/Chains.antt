-- A chain of tests `a && b && c ..` taken apart and put together at once, and a chain of tests that numbers are 0.
-- Assumes nothing.
use Prim.Native.Nat.{ℕ}
use mathlib.Core.Path.{◌≡◌, refl, ap, ◌∙◌}
use mathlib.Core.Bool.{Bool, true, ◌&&◌}
use mathlib.Core.List.{List, [], ◌∷◌}
use borrow.Author.Tests.{eqb-true}
use lib.Dec.{eqb}
use lib.ListN.{length, replicate}
use Rattle.lists.proofs.Cases.{and_left, and_right, and_both}
use Rattle.lists.proofs.Count.{Every}

-- a, and then each of bs
abbrev pub chain : Bool → List Bool → Bool
chain a [] = a
chain a (b ∷ bs) = chain (a && b) bs

pub chain_apart : (a : Bool) (bs : List Bool) → chain a bs ≡ true → (a ≡ true) × Every (λ b. b ≡ true) bs
chain_apart a [] e = (e, tt)
chain_apart a (b ∷ bs) e =
    let r = chain_apart (a && b) bs e in
    (and_left a b r.0, (and_right a b r.0, r.1))

pub chain_joined : (a : Bool) (bs : List Bool) → a ≡ true → Every (λ b. b ≡ true) bs → chain a bs ≡ true
chain_joined a [] e h = e
chain_joined a (b ∷ bs) e h = chain_joined (a && b) bs (and_both a b e h.0) h.1

-- a, and then each of ns is 0
abbrev pub zero_chain : Bool → List ℕ → Bool
zero_chain a [] = a
zero_chain a (n ∷ ns) = zero_chain (a && eqb n 0) ns

zeros_after : (a : Bool) (ns : List ℕ) → zero_chain a ns ≡ true → (a ≡ true) × (ns ≡ replicate (length ns) 0)
zeros_after a [] e = (e, refl)
zeros_after a (n ∷ ns) e =
    let r = zeros_after (a && eqb n 0) ns e in
    let z = eqb-true n 0 (and_right a (eqb n 0) r.0) in
    (and_left a (eqb n 0) r.0, ap (λ (k : ℕ). k ∷ ns) z ∙ ap (λ (l : List ℕ). 0 ∷ l) r.1)

-- the test begins with the first number: `true && b` is b
pub zeros : (ns : List ℕ) → zero_chain true ns ≡ true → ns ≡ replicate (length ns) 0
zeros ns e = (zeros_after true ns e).1
