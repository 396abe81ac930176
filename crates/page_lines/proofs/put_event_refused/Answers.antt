-- `page_lines::put_event_refused` meets its contract. Assumes nothing.
use native.Mathlib.Omega.{arith}
use Rattle.text.proofs.Digits.{five_digits}
use Rattle.text.proofs.Writes.{then_two}
use Rattle.page_lines.specs.Lines.{event_refused_line}
use Rattle.page_lines.proofs.Longest.{event_most}
use Rattle.page_lines.proofs.put_event_refused.Goals as goal

pub put_decimal-requires : goal.put_decimal-requires
put_decimal-requires c = omega (arith, five_digits c.args.place)

pub put_line_end-requires-clause-words_in_bounds : goal.put_line_end-requires-clause-words_in_bounds
put_line_end-requires-clause-words_in_bounds c = omega (arith, five_digits c.args.place)

pub returns : goal.returns
unfolding event_refused_line
returns c =
    let n = event_most c.args.place c.args.n c.requires.n_bound in
    then_two c.put.ensures c.put_decimal.ensures c.put_line_end.ensures (omega arith)
