-- `isin::value` meets its contract: its arithmetic is document 01's value, by the theorem `values`. Assumes nothing.
use native.Mathlib.Omega.{arith}
use mathlib.Core.Path.{refl}
use Rattle.isin.proofs.Characters.{by_allowed}
use Rattle.isin.proofs.Values.{values}
use Rattle.isin.proofs.value.Goals as goal

-- no subtraction goes below 0
pub overflow_sub-result : goal.overflow_sub-result
overflow_sub-result c = by_allowed c.args.b c.requires (λ l h v. omega arith) (λ l h v. omega arith)

pub overflow_sub-result-2 : goal.overflow_sub-result-2
overflow_sub-result-2 c = by_allowed c.args.b c.requires (λ l h v. omega arith) (λ l h v. omega arith)

pub returns : goal.returns
returns c = record {
  value = values.same _ c.requires;
  value_2 = refl;
  upper_bound = values.most _ c.requires;
}
