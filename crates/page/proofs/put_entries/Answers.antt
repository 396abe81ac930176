-- `page::put_entries` meets its contract. The invariant of its loop: the lines of the first i entries are written. Assumes nothing.
use mathlib.Core.Path.{◌≡◌, ap, ◌∙◌}
use Prim.Native.Nat.{◌+◌, ◌<◌}
use native.Mathlib.Omega.{arith}
use lib.ListN.{length}
use Rattle.text.proofs.Writes.{joined_none, joined_more}
use Rattle.book.specs.Parts.{entry_count_of, identifier_of}
use Rattle.book.proofs.Accepted.{identifier_whole, identifier_below}
use Rattle.table.specs.Views.{job_at}
use Rattle.table.proofs.Long.{long}
use Rattle.table_opening.proofs.Counts as counts
use Rattle.dispatcher.proofs.Ready.{passed_sized}
use Rattle.page.specs.Page.{entries_text}
use Rattle.page.proofs.Longest.{line_of, identifier_most, replica_small, lines_most}
use Rattle.page.proofs.Pages.{line_written}
use Rattle.page.proofs.put_entries.Goals as goal
use Rattle.page.proofs.put_entries.Goals.{After-identifier_at, In-loop-i}

pub loop-i-init : goal.loop-i-init
loop-i-init c = joined_none (line_of c.args.book.now c.args.t) c.args.c.now (omega arith)

pub bounds-t-i : goal.bounds-t-i
bounds-t-i c = omega (arith, counts.entry_count_most c.args.book.now)

-- in a turn the entry is one of the book's
below : (c : In-loop-i) → c.loop-i.i < entry_count_of c.args.book.now
below c = omega arith

pub identifier_at-requires : goal.identifier_at-requires
identifier_at-requires c = identifier_whole _ _ (below (goal.at.identifier_at-requires c).In-loop-i)

-- the part that is handed over is the entry's identifier
identifier_is : (c : After-identifier_at)
    → c.identifier_at.result.now ≡ identifier_of c.args.book.now
    c.loop-i.i
identifier_is c = c.identifier_at.ensures ∙ identifier_below _ _ (below (goal.at.After-identifier_at c).In-loop-i)

pub put_entry-requires : goal.put_entry-requires
unfolding job_at
put_entry-requires c =
    let a = c.args in
    let l = c.loop-i in
    let z = passed_sized a.t (long a.t _ c.well_formed.1.1.0) c.requires.t_value in
    let n = counts.entry_count_most a.book.now in
    let i = ap length (identifier_is (goal.at.put_entry-requires c).After-identifier_at) in record {
      identifier_in_bounds = omega (arith, i, identifier_most a.book.now l.i, l.invariant.written.end, l.invariant.long, lines_most a.book.now a.t z c.requires.t_value l.i (omega arith));
      replica_bound = replica_small a.book.now a.t z c.requires.t_value l.i (omega arith);
    }

pub loop-i-preserved : goal.loop-i-preserved
unfolding job_at
loop-i-preserved c =
    let a = c.args in
    let l = c.loop-i in
    let z = passed_sized a.t (long a.t _ c.well_formed.1.1.0) c.requires.t_value in
    let n = counts.entry_count_most a.book.now in
    let w = line_written a.book.now a.t l.i _ (identifier_is (goal.at.loop-i-preserved c).After-identifier_at) c.put_entry.ensures in
    joined_more (line_of a.book.now a.t) l.invariant w
    (omega (arith, c.requires.entries_most_in_bounds, lines_most a.book.now a.t z c.requires.t_value (l.i + 1) (omega arith)))

pub returns : goal.returns
unfolding entries_text
returns c =
    let e : c.loop-i.i ≡ entry_count_of c.args.book.now = omega arith in
    rw e at c.loop-i.invariant
