-- `isin::sum` meets its contract. The invariant: t and twice say what the digits of the characters from i on do,
-- and t is at most 18 for each of these.
-- Assumes nothing.
use native.Mathlib.Omega.{arith}
use Prim.Native.Nat.{ℕ, ◌-◌, ◌<◌, ◌≤◌}
use mathlib.Core.Path.{◌≡◌, sym, ap, ◌∙◌}
use lib.ListN.{drop, get_or}
use Rattle.isin.specs.Isin.{expanded, digit_sum}
use Rattle.isin.proofs.Characters.{digit_below, other_above}
use Rattle.isin.proofs.Digits.{one_digit, two_digits, no_digits}
use Rattle.isin.proofs.sum.Goals as goal
use Rattle.isin.proofs.sum.Goals.{Else-is_digit, In-loop-i, Then-is_digit}

pub loop-i-init : goal.loop-i-init
loop-i-init c = (omega arith, no_digits c.args.s.now)

-- the character at i - 1
abbrev byte : In-loop-i → ℕ
byte c = get_or c.args.s.now (c.loop-i.i - 1) 0

pub value-v-requires : goal.value-v-requires
value-v-requires c =
    c.requires.by_index _ (omega arith)

-- where it is a digit its value is one digit, and else two
one : (c : Then-is_digit) → c.value-v.result < 10
one c = rw c.value-v.ensures.value (digit_below (byte (goal.at.Then-is_digit c).In-loop-i) (sym c.is_digit.ensures ∙ c.if-is_digit.true))

two : (c : Else-is_digit) → 10 ≤ c.value-v.result
two c = rw c.value-v.ensures.value (other_above (byte (goal.at.Else-is_digit c).In-loop-i) (sym c.is_digit.ensures ∙ c.if-is_digit.false))

pub loop-i-preserved-then-is_digit : goal.loop-i-preserved-then-is_digit
loop-i-preserved-then-is_digit c = (
  omega arith,
  one_digit _ _ _ _ _ _ c.loop-i-test.true (omega arith) c.value-v.ensures.value
      (one (goal.at.loop-i-preserved-then-is_digit c).Then-is_digit) c.weighed.ensures.value c.loop-i.invariant.1,
)

pub loop-i-preserved : goal.loop-i-preserved
loop-i-preserved c = (
  omega arith,
  two_digits _ _ _ _ _ _ _ c.loop-i-test.true (omega arith) c.value-v.ensures.value
      (two (goal.at.loop-i-preserved c).Else-is_digit) c.weighed-else-is_digit.ensures.value c.weighed-else-is_digit-2.ensures.value c.loop-i.invariant.1,
)

pub returns : goal.returns
returns c =
    let z : c.loop-i.i ≡ 0 = omega arith in
    record {
      value = c.loop-i.invariant.1.0 ∙ ap (λ (n : ℕ). digit_sum (expanded (drop n c.args.s.now))) z;
      upper_bound = omega arith;
    }

pub weighed-requires : goal.weighed-requires
weighed-requires c = one (goal.at.weighed-requires c).Then-is_digit
