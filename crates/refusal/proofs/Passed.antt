-- The number of a result that is tested, and of one that a `?` hands back.
use mathlib.Core.Bool.{true≢false}
use Rattle.std.proofs.Common.{ℕ, ◌≡◌, ◌≢◌, ◌<◌, true, false, Result, Ok, Err, is_err, IsErr, IsErrAnd, refl, sym, ap, arith}
use Rattle.refusal.proofs.Numbers.{number_positive}
use Rattle.refusal.specs.Numbers.{number_of, answer_of}
use Rattle.refusal.specs.declared.Refusal.{Refusal}

-- what a `?` hands back has the number of the refusal that it met; the fact is what its step `from_residual` ensures
pub passed_on : {T : Type 0} (r : Result T Refusal) (e : Refusal) → IsErr r × IsErrAnd r (λ x. x ≡ e) → answer_of r ≡ number_of e
passed_on (Ok x) e h = absurd h.1
passed_on (Err x) e h = ap number_of h.1

-- and what has its number is not 0
pub not_zero : (e : Refusal) (n : ℕ) → number_of e ≡ n → n ≢ 0
not_zero e n h z = omega (arith, number_positive e)

-- the number of a result, by which of the two it is
pub refused_number : {T : Type 0} (r : Result T Refusal) → is_err r ≡ true → 0 < answer_of r
refused_number (Ok x) h = absurd (true≢false (sym h))
refused_number (Err e) h = number_positive e

pub accepted_number : {T : Type 0} (r : Result T Refusal) → is_err r ≡ false → answer_of r ≡ 0
accepted_number (Ok x) h = refl
accepted_number (Err e) h = absurd (true≢false h)
