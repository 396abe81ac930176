-- `validity::pool_row` meets its contract. Item i of the row is cell m * 64 + i of the array.
-- Assumes nothing.
use Rattle.std.proofs.Common.{rules, arith, ◌≡◌, ◌+◌, ◌-◌, ◌*◌, get_or, take, drop}
use Rattle.table.specs.Views.{parts, no_machine}
use Rattle.validity_element.specs.Element.{cell_ok}
use Rattle.validity.specs.Validity.{pool_row}
use Rattle.validity.proofs.Rows.{row_at}
use Rattle.validity.proofs.pool_row.Goals as goal

pub returns : goal.returns
unfolding pool_row parts
returns c = c.each.ensures 64 0 _ (omega arith) (λ i r h q.
    let l = c.args.t.now.pools in
    let a = c.args.m * 64 in
    let x = get_or (take ((a + 64) - a) (drop a l)) i 0 in
    let e : r ≡ cell_ok c.args.t.now.entry_count c.args.b (get_or c.args.t.now.machines c.args.m no_machine).alive i x = search rules in
    cc (e, row_at l a 64 i 0 (omega arith)))
