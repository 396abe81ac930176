-- `page_lines::put_open` meets its contract. Assumes nothing.
use native.Mathlib.Omega.{arith}
use Rattle.text.proofs.Writes.{then}
use Rattle.page_lines.specs.Lines.{open_line}
use Rattle.page_lines.proofs.Longest.{open_most}
use Rattle.page_lines.proofs.put_open.Goals as goal

pub returns : goal.returns
unfolding open_line
returns c =
    let n = open_most c.args.identifier.now c.args.replica c.requires.replica_bound in
    then c.put.ensures c.put_line_end.ensures (omega arith)
