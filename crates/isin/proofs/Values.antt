-- Request 2.8: the claim `Values`. One test is computed over the 36 allowed characters, which are taken in the order of their values; a law then
-- says that every allowed character is the one of its value. Assumes nothing.
use Prim.Native.Nat.{ℕ, ◌+◌, ◌-◌, ◌<◌}
use mathlib.Core.Path.{◌≡◌, refl, sym, ap, ◌∙◌}
use mathlib.Core.Bool.{Bool, true, cond, ◌&&◌}
use native.Mathlib.Omega.{arith}
use borrow.Author.Tests.{eqb-true, lt-ltb, le-ltb}
use lib.Dec.{ltb, eqb}
use Rattle.lists.specs.Scan.{all}
use Rattle.lists.proofs.Scans.{all_at}
use Rattle.lists.proofs.Cases.{and_left, and_right}
use Rattle.isin.specs.Isin.{value_of}
use Rattle.isin.specs.Values.{is_allowed, by_arithmetic, Values}
use Rattle.isin.proofs.Characters.{by_allowed, allowed_value}
use Rattle.isin.proofs.Form.{one}

-- the characters in the order of their values: 0 to 9, then A to Z
abbrev character : ℕ → ℕ
character v = cond (ltb v 10) (48 + v) (55 + v)

-- the character of v is allowed, and v is its value by arithmetic
right : ℕ → Bool
right v = is_allowed (character v) && eqb (by_arithmetic (character v)) v

computed : all right 36 ≡ true
unfolding all right
computed = refl

-- what the test says of one of them
record Right (v : ℕ) : Type 0 where
  allowed : is_allowed (character v) ≡ true
  value : by_arithmetic (character v) ≡ v

at : (v : ℕ) → v < 36 → Right v
unfolding right
at v h =
    let e : is_allowed (character v) && eqb (by_arithmetic (character v)) v ≡ true = all_at right 36 v computed h in
    record { allowed = and_left _ _ e; value = eqb-true _ _ (and_right (is_allowed (character v)) _ e) }

-- an allowed character is the one of its value, which is below 36
record Inverse (b : ℕ) : Type 0 where
  below : value_of b < 36
  back : b ≡ character (value_of b)

inverse : (b : ℕ) → is_allowed b ≡ true → Inverse b
inverse b e =
    by_allowed b e
    (λ l h v. record { below = rw v (omega arith); back = rw (v, le-ltb (b - 55) 10 (omega arith)) (omega arith) })
    (λ l h v. record { below = rw v (omega arith); back = rw (v, lt-ltb (b - 48) 10 (omega arith)) (omega arith) })

same : (b : ℕ) → is_allowed b ≡ true → by_arithmetic b ≡ value_of b
same b e = let k = inverse b e in ap by_arithmetic k.back ∙ (at (value_of b) k.below).value

pub values : Values
values = record {
  form = λ b. allowed_value b ∙ sym (one 0 35 b);
  same = same;
  most = λ b e. rw (same b e) (inverse b e).below;
  once = λ v h. record {
    character = character v;
    allowed = (at v h).allowed;
    has = (at v h).value;
    only = λ b e f. (inverse b e).back ∙ ap character (sym (same b e) ∙ f);
  };
}
