-- `page::page` meets its contract. Assumes nothing.
use Prim.Native.Nat.{◌<◌}
use mathlib.Core.Path.{sym, ap, ◌∙◌}
use native.Mathlib.Omega.{arith}
use lib.ListN.{length, length-take}
use Rattle.refusal.proofs.Numbers.{number_positive}
use Rattle.validity.specs.Validity.{table_ok}
use Rattle.dispatcher.specs.Events.{bytes_most}
use Rattle.theorem_fresh.proofs.Passes.{fresh_passes}
use Rattle.page.proofs.Opened.{verdict_small}
use Rattle.page.proofs.Pages.{page_printed, page_buffer, refused_written, accepted_written}
use Rattle.page.proofs.Reports.{front_reported}
use Rattle.page.proofs.page.Goals as goal

pub put_refused-requires-clause-n_bound : goal.put_refused-requires-clause-n_bound
put_refused-requires-clause-n_bound c = omega (arith, verdict_small c.args.book.now, c.in-Err.ensures, c.from.ensures)

pub returns-in-Err : goal.returns-in-Err
returns-in-Err c =
    let book = c.args.book.now in
    let events = c.args.events.now in
    let h = c.if-out-lt-LONGEST.false in
    let p : 0 < c.from.result = omega (arith, number_positive c.in-Err.refusal, c.from.ensures) in
    let w = refused_written book events _ (c.from.ensures ∙ c.in-Err.ensures) p c.put_refused.ensures in
    record { value = page_printed book events h w; out_after = page_buffer book events h w; reported = front_reported book events w }

pub put_run-requires : goal.put_run-requires
put_run-requires c =
    let f = ap length c.first_bytes.ensures in record {
      t_value = ap table_ok c.fresh-t.ensures ∙ fresh_passes c.args.book.now (sym c.in_default.ensures);
      events_len_bound = (omega (arith, f, length-take bytes_most c.args.events.now), omega arith);
    }

pub returns : goal.returns
returns c =
    let book = c.args.book.now in
    let events = c.args.events.now in
    let h = c.if-out-lt-LONGEST.false in
    let w = accepted_written book events c.in_default.ensures _ _ c.fresh-t.ensures c.first_bytes.ensures c.put_run.ensures in
    record { value = page_printed book events h w; out_after = page_buffer book events h w; reported = front_reported book events w }
