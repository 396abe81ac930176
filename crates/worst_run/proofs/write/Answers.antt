-- `worst_run::write` meets its contract. A call that is answered 0 has room for the first event and for every death. Assumes nothing.
use mathlib.Core.Path.{◌≡◌, refl, sym, ap, ◌∙◌}
use native.Mathlib.Omega.{arith}
use lib.ListN.{length}
use Rattle.refusal.proofs.Passed.{not_zero}
use Rattle.worst_run.proofs.Bytes.{length_bytes, run_none, run_more}
use Rattle.worst_run.proofs.Numbers.{Fits, fits, refused, written}
use Rattle.worst_run.proofs.write.Goals as goal
use Rattle.worst_run.proofs.write.Goals.{In_ok-verdict}

room : (c : In_ok-verdict) → Fits c.args.machines c.args.deaths (length c.args.buffer.now)
room c = fits _ _ _ (sym c.in_ok-verdict.ensures)

pub returns-in_err-verdict-clause-buffer_after : goal.returns-in_err-verdict-clause-buffer_after
returns-in_err-verdict-clause-buffer_after c = refused _ _ _ _ refl (not_zero _ _ c.in_err-verdict.ensures)

pub put-requires : goal.put-requires
put-requires c = let f = room (goal.at.put-requires c).In_ok-verdict in let n = c.new-c.ensures in omega (arith, f.room, n.at, ap length n.text)

pub loop-i-init : goal.loop-i-init
loop-i-init c =
    let n = c.new-c.ensures in
    record { same = refl; long = refl; written = run_none (rw (n.text, n.at) at c.put.ensures.written) }

pub overflow_cast-i : goal.overflow_cast-i
overflow_cast-i c = let f = room (goal.at.overflow_cast-i c).In_ok-verdict in omega (arith, f.most, f.below)

pub put_death-requires : goal.put_death-requires
put_death-requires c =
    let f = room (goal.at.put_death-requires c).In_ok-verdict in
    let i = c.loop-i.invariant in
    omega (arith, f.room, i.long, c.put.ensures.long, ap length c.new-c.ensures.text, i.written.end, length_bytes c.loop-i.i)

pub loop-i-preserved : goal.loop-i-preserved
loop-i-preserved c =
    let f = room (goal.at.loop-i-preserved c).In_ok-verdict in
    let i = c.loop-i.invariant in
    let p = c.put_death.ensures in
    record { same = p.same ∙ i.same; long = p.long ∙ i.long; written = run_more c.loop-i.i (omega (arith, f.room)) i.written p.written }

pub returns-clause-buffer_after : goal.returns-clause-buffer_after
returns-clause-buffer_after c =
    let e : c.loop-i.i ≡ c.args.deaths = omega arith in
    let i = c.loop-i.invariant in
    let w = written _ _ _ c.in_ok-verdict.ensures (rw e at i.written) in
    grind (arith, w, i.same, c.put.ensures.same, c.new-c.ensures.same_reference)
