-- `page_lines::put_priced` meets its contract. Assumes nothing.
use native.Mathlib.Omega.{arith}
use lib.ListN.{length-append}
use Rattle.text.specs.Text.{ascii}
use Rattle.text.proofs.Digits.{length_hex}
use Rattle.text.proofs.Writes.{then, then_two}
use Rattle.page_lines.specs.Lines.{priced_line}
use Rattle.page_lines.proofs.Longest.{priced_most}
use Rattle.page_lines.proofs.put_priced.Goals as goal

pub put_line_end-requires-clause-words_in_bounds : goal.put_line_end-requires-clause-words_in_bounds
put_line_end-requires-clause-words_in_bounds c = omega (arith, length_hex c.args.price)

pub returns : goal.returns
unfolding priced_line
returns c =
    let n = priced_most c.args.identifier.now c.args.price c.args.replica c.requires.replica_bound in
    then_two (then
    c.put.ensures c.put-2.ensures
    (omega (arith, length-append c.args.identifier.now (ascii " priced "))))
    c.put_hex.ensures c.put_line_end.ensures (omega arith)
