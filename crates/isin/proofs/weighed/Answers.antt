-- `isin::weighed` meets its contract. The table's rule, that the entry at d is the sum of the digits of twice d, is one test, computed over the ten
-- entries and then handed to any one of them. Assumes nothing.
use borrow.Author.Tests.{eqb-true, ltb-true}
use mathlib.Core.Path.{◌≡◌, refl, sym, ap, ◌∙◌}
use mathlib.Core.Bool.{Bool, true, ◌&&◌}
use mathlib.Core.List.{List, [], ◌∷◌}
use Prim.Native.Nat.{ℕ, ◌<◌}
use lib.Dec.{eqb, ltb}
use lib.ListN.{get_or}
use Rattle.lists.specs.Scan.{all}
use Rattle.lists.proofs.Scans.{all_at}
use Rattle.lists.proofs.Cases.{and_left, and_right}
use Rattle.isin.specs.Isin.{doubled, weight}
use Rattle.isin.proofs.weighed.Goals as goal

-- the constant of the code
table : List ℕ
table = 0 ∷ 2 ∷ 4 ∷ 6 ∷ 8 ∷ 1 ∷ 3 ∷ 5 ∷ 7 ∷ 9 ∷ []

-- the rule, and the bound, as one test
right : ℕ → Bool
unfolding table
right d = eqb (get_or table d 0) (doubled d) && ltb (get_or table d 0) 10

computed : all right 10 ≡ true
unfolding all right table
computed = refl

rule : (d : ℕ) → d < 10 → (get_or table d 0 ≡ doubled d) × (get_or table d 0 < 10)
unfolding table right
rule d h =
    let x = get_or table d 0 in
    let e : eqb x (doubled d) && ltb x 10 ≡ true = all_at right 10 d computed h in
    (eqb-true _ _ (and_left (eqb x (doubled d)) (ltb x 10) e), ltb-true _ _ (and_right (eqb x (doubled d)) (ltb x 10) e))

pub returns-then-twice : goal.returns-then-twice
unfolding table
returns-then-twice c =
    let a = c.args in
    let r = rule a.d c.requires in
    record {
      value = r.0 ∙ sym (ap (λ (t : Bool). weight t a.d) c.if-twice.true);
      upper_bound = r.1;
    }
