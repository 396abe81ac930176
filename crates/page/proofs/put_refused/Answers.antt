-- `page::put_refused` meets its contract. Assumes nothing.
use native.Mathlib.Omega.{arith}
use Rattle.page.proofs.put_refused.Goals as goal

pub returns : goal.returns
returns c =
    let n = c.new-c.ensures in
    let p = c.put_book_refused.ensures in
    let w = rw (n.text, n.at) at p.written in
    record { text = grind (arith, w.text, p.same, n.same_reference); end = w.end }
