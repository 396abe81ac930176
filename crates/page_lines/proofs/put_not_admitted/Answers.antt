-- `page_lines::put_not_admitted` meets its contract. Assumes nothing.
use native.Mathlib.Omega.{arith}
use Rattle.text.proofs.Writes.{then}
use Rattle.page_lines.specs.Lines.{not_admitted_line}
use Rattle.page_lines.proofs.Longest.{not_admitted_most}
use Rattle.page_lines.proofs.put_not_admitted.Goals as goal

pub returns : goal.returns
unfolding not_admitted_line
returns c =
    let n = not_admitted_most c.args.identifier.now in
    then c.put.ensures c.put-2.ensures (omega arith)
