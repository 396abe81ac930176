-- `validity::max_replica` meets its contract. The flags of the root's row are the first sixteen.
-- Assumes nothing.
use Rattle.std.proofs.Common.{rules, arith, ◌≡◌, take, ap, ◌+◌, ℕ, ◌∙◌}
use Rattle.std.specs.List.{count_by}
use lib.Dec.{eqb}
use native.Mathlib.Nat.{zero-add}
use Rattle.lists.proofs.Count.{count_to_same}
use Rattle.table.specs.Views.{parts}
use Rattle.validity.specs.Validity.{max_replica}
use Rattle.validity.proofs.Counts.{counted}
use Rattle.validity.proofs.max_replica.Goals as goal

pub returns : goal.returns
unfolding max_replica parts
returns c =
    let told = c.args.t.now.told in
    let e : c.count.result ≡ count_by (λ x. eqb x 1) (take 16 told) = search rules in
    ap (λ (n : ℕ). n + 1)
    (e ∙ counted (λ x. eqb x 1) 0 told 16 (omega arith) ∙ count_to_same _ _ 16 (λ d h. simp zero-add))
