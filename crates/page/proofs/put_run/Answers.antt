-- `page::put_run` meets its contract. Assumes nothing.
use mathlib.Core.Path.{◌≡◌, ap}
use mathlib.Core.Bool.{true}
use native.Mathlib.Omega.{arith}
use lib.ListN.{length}
use Rattle.table.proofs.Long.{long}
use Rattle.table.proofs.Views.{Sized}
use Rattle.validity.specs.Validity.{table_ok}
use Rattle.dispatcher.specs.Events.{events_in}
use Rattle.dispatcher.proofs.Preserved.{run_ok, run_sized}
use Rattle.dispatcher.proofs.Ready.{passed_sized}
use Rattle.page.proofs.Longest.{listed_most, entries_most_lem, open_small, run_most}
use Rattle.page.proofs.Pages.{run_written}
use Rattle.page.proofs.put_run.Goals as goal
use Rattle.page.proofs.put_run.Goals.{After-run-ran, Start}

-- ---- the events have been run, and the entries have been written

sized : (s : Start) → Sized s.args.t
sized s = passed_sized s.args.t (long s.args.t _ s.well_formed.1.0) s.requires.t_value

-- the table after the events passes check 9
passed : (c : After-run-ran) → table_ok c.run-ran.result.table ≡ true
passed c = let s = (goal.at.After-run-ran c).Start in
    rw c.run-ran.ensures.table (run_ok c.args.t (events_in c.args.events.now) (sized s) c.requires.t_value)

sized_after : (c : After-run-ran) → Sized c.run-ran.result.table
sized_after c = let s = (goal.at.After-run-ran c).Start in
    rw c.run-ran.ensures.table (run_sized c.args.t (events_in c.args.events.now) (sized s))

pub put_entries-requires : goal.put_entries-requires
put_entries-requires c =
    let r = (goal.at.put_entries-requires c).After-run-ran in
    let b = c.requires.events_len_bound in
    let n = c.new-c.ensures in
    record {
      t_value = passed r;
      entries_most_in_bounds = omega (arith, n.at, ap length n.text, c.run-ran.ensures.lines.end, listed_most c.args.t c.args.events.now b.0, b.1);
    }

pub put_open_jobs-requires : goal.put_open_jobs-requires
put_open_jobs-requires c =
    let r = (goal.at.put_open_jobs-requires c).After-run-ran in
    let b = c.requires.events_len_bound in
    let n = c.new-c.ensures in
    let p = c.put_entries.ensures in
    let u = c.run-ran.result.table in
    let m = entries_most_lem c.args.book.now u (sized_after r) (passed r) in
    let l = listed_most c.args.t c.args.events.now b.0 in
    record {
      at_in_bounds = omega (arith, p.written.end, p.long, n.at, ap length n.text, c.run-ran.ensures.lines.end, m, l, b.1);
      n_bound = omega (arith, c.open_jobs.ensures, open_small c.args.book.now u (sized_after r) (passed r));
    }

pub returns : goal.returns
returns c =
    let a = c.args in
    let b = c.requires.events_len_bound in
    let n = c.new-c.ensures in
    let m = run_most a.book.now a.t a.events.now (sized (goal.at.returns c).Start) c.requires.t_value b.0 in
    let w = run_written a.book.now a.t (events_in a.events.now) c.run-ran.ensures (rw (n.text, n.at) at c.put_entries.ensures.written)
    (rw c.open_jobs.ensures at c.put_open_jobs.ensures.written) (omega (arith, m, b.1)) in
    record { text = grind (arith, w.text, c.put_open_jobs.ensures.same, c.put_entries.ensures.same, n.same_reference); end = w.end }
