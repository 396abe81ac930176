-- `page_lines::put_line_end` meets its contract. Assumes nothing.
use native.Mathlib.Omega.{arith}
use Rattle.text.proofs.Digits.{two_digits}
use Rattle.text.proofs.Writes.{then_two}
use Rattle.page_lines.specs.Lines.{line_end}
use Rattle.page_lines.proofs.Longest.{line_end_most}
use Rattle.page_lines.proofs.put_line_end.Goals as goal

pub put_decimal-requires : goal.put_decimal-requires
put_decimal-requires c =
    omega (arith, two_digits c.args.n c.requires.n_bound)

pub put-requires-2 : goal.put-requires-2
put-requires-2 c =
    omega (arith, two_digits c.args.n c.requires.n_bound)

pub returns : goal.returns
unfolding line_end
returns c =
    let n = line_end_most c.args.words.now c.args.n c.requires.n_bound in
    then_two c.put.ensures c.put_decimal.ensures c.put-2.ensures (omega arith)
