-- Cases on tests and on equations of numbers, and what a conjunction or a disjunction says of its parts. Assumes nothing.
use mathlib.Core.Path.{◌≡◌, refl, sym}
use mathlib.Core.Logic.{◌≢◌}
use mathlib.Core.Bool.{Bool, true, false, cond, not, ◌&&◌, ◌||◌, true≢false}
use Prim.Native.Nat.{ℕ}
use native.Mathlib.Decide.{ℕ_discrete}

-- a goal by cases on a test, with what the test gave
pub by_bool : {P : Type 0} (b : Bool) → (b ≡ true → P) → (b ≡ false → P) → P
by_bool true f g = f refl
by_bool false f g = g refl

pub and_left : (a b : Bool) → a && b ≡ true → a ≡ true
and_left true b e = refl
and_left false b e = e

pub and_right : (a b : Bool) → a && b ≡ true → b ≡ true
and_right true b e = e
and_right false b e = absurd (true≢false (sym e))

-- both tests pass, or their conjunction fails
pub by_and : {P : Type 0} (a b : Bool) → (a ≡ true → b ≡ true → a && b ≡ true → P) → (a && b ≡ false → P) → P
by_and true true f g = f refl refl refl
by_and true false f g = g refl
by_and false b f g = g refl

-- a goal by cases on an equation of numbers
pub by_eq : {P : Type 0} (a b : ℕ) → (a ≡ b → P) → (a ≢ b → P) → P
by_eq {P} a b f g = go (ℕ_discrete a b)
  where
    go : Dec (a ≡ b) → P
    go (yes e) = f e
    go (no e) = g e

pub and_false : (a : Bool) → (a && false) ≡ false
and_false true = refl
and_false false = refl

pub and_no : (a b : Bool) → b ≡ false → a && b ≡ false
and_no a b e = rw e (and_false a)

pub and_true : (a : Bool) → (a && true) ≡ a
and_true true = refl
and_true false = refl

-- a choice between two that have P
pub cond_elim : {A : Type 0} (P : A → Type 0) (b : Bool) (x y : A) → P x → P y → P (cond b x y)
cond_elim P true x y p q = p
cond_elim P false x y p q = q

-- a choice between equals
pub cond_same : {A : Type 0} (b : Bool) (x : A) → cond b x x ≡ x
cond_same true x = refl
cond_same false x = refl

-- ---- disjunctions and conjunctions by their parts

pub or_left : (a b : Bool) → a ≡ true → a || b ≡ true
or_left a b e = rw e

pub or_right : (a b : Bool) → b ≡ true → a || b ≡ true
or_right true b e = refl
or_right false b e = e

pub or_left_false : (a b : Bool) → a || b ≡ false → a ≡ false
or_left_false true b e = e
or_left_false false b e = refl

pub or_elim : (a b : Bool) → a || b ≡ true → a ≡ false → b ≡ true
or_elim true b e f = absurd (true≢false f)
or_elim false b e f = e

-- either test passes
pub by_or : {P : Type 0} (a b : Bool) → a || b ≡ true → (a ≡ true → P) → (b ≡ true → P) → P
by_or a b e f g = by_bool a f (λ n. g (or_elim a b e n))

pub or_map : (a b c : Bool) → (b ≡ true → c ≡ true) → a || b ≡ true → a || c ≡ true
or_map true b c f e = refl
or_map false b c f e = f e

pub and_both : (a b : Bool) → a ≡ true → b ≡ true → a && b ≡ true
and_both a b e f = rw (e, f)

pub and_three : (a b c : Bool) → a ≡ true → b ≡ true → c ≡ true → a && b && c ≡ true
and_three a b c e f g = rw (e, f, g)

-- a test that asks c where w holds, and d where it does not
pub either_yes : (w c d : Bool) → w && c || not w && d ≡ true → w ≡ true → c ≡ true
either_yes true true d e f = refl
either_yes true false d e f = e
either_yes false c d e f = absurd (true≢false (sym f))

pub either_no : (w c d : Bool) → w && c || not w && d ≡ true → w ≡ false → d ≡ true
either_no true c d e f = absurd (true≢false f)
either_no false c d e f = e

pub either_is : (w c d : Bool) → (w ≡ true → c ≡ true) → (w ≡ false → d ≡ true) → w && c || not w && d ≡ true
either_is true c d f g = rw (f refl)
either_is false c d f g = rw (g refl)
