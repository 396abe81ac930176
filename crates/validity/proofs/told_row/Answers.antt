-- `validity::told_row` meets its contract. Item i of the row is flag m * 16 + i of the array, and the flags lent are the machines' own.
-- Assumes nothing.
use Rattle.std.proofs.Common.{rules, arith, ◌≡◌, ◌+◌, ◌-◌, ◌*◌, get_or, take, drop}
use Rattle.table.specs.Views.{parts}
use Rattle.validity_element.specs.Element.{told_ok}
use Rattle.validity.specs.Validity.{told_row}
use Rattle.validity.proofs.Rows.{row_at}
use Rattle.validity.proofs.told_row.Goals as goal

pub returns : goal.returns
unfolding told_row parts
returns c = c.each.ensures 16 0 _ (omega arith) (λ i r h q.
    let l = c.args.t.now.told in
    let a = c.args.m * 16 in
    let x = get_or (take ((a + 16) - a) (drop a l)) i 0 in
    let e : r ≡ told_ok c.args.t.now.machine_count (get_or c.args.alive.now i 0) c.args.m i x = search rules in
    cc (e, row_at l a 16 i 0 (omega arith), c.requires.is i))
