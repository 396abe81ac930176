-- `page::page_in` meets its contract: in a buffer with room for every page the page is its front. Assumes nothing.
use mathlib.Core.Path.{◌≡◌, ap, ◌∙◌}
use native.Mathlib.Omega.{arith}
use lib.ListN.{length, length-take}
use Rattle.std.specs.Prelude.{is_some}
use Rattle.page.specs.Page.{page_of}
use Rattle.page.proofs.Longest.{page_most}
use Rattle.page.proofs.Reports.{printed_length, page_part}
use Rattle.page.proofs.page_in.Goals as goal
use Rattle.page.proofs.page_in.Goals.{After-unwrap-length}

pub unwrap-length-requires : goal.unwrap-length-requires
unwrap-length-requires c =
    let e = c.page.ensures.value ∙ printed_length c.args.book.now c.args.events.now c.args.out.now c.requires in ap is_some e

-- the length that is answered is that of the page
is_length : (c : After-unwrap-length) → c.unwrap-length.result ≡ length (page_of c.args.book.now c.args.events.now)
is_length c =
    let p = printed_length c.args.book.now c.args.events.now c.args.out.now c.requires in
    cc (c.unwrap-length.ensures, c.page.ensures.value, p)

pub slice_bounds-result-end : goal.slice_bounds-result-end
slice_bounds-result-end c =
    let n = is_length (goal.at.slice_bounds-result-end c).After-unwrap-length in
    omega (arith, page_most c.args.book.now c.args.events.now, length-take c.unwrap-length.result c.page.new.out)

pub returns : goal.returns
returns c =
    let n = is_length (goal.at.returns c).After-unwrap-length in
    rw n (page_part c.args.book.now c.args.events.now c.args.out.now c.requires _ c.page.ensures.out_after)
