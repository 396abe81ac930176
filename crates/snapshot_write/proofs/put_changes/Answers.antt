-- `snapshot_write::put_changes` meets its contract. One byte, and three parts that follow each other. Assumes nothing.
use mathlib.Core.Path.{◌≡◌, ap, ◌∙◌}
use native.Mathlib.Omega.{arith}
use lib.ListN.{length, set, length-set}
use Rattle.snapshot_write.proofs.Lengths.{length_jobs_to, written_changes}
use borrow.Author.Rules.{rules}
use Rattle.snapshot_write.proofs.put_changes.Goals as goal
use Rattle.snapshot_write.proofs.put_changes.Goals.{Start}

-- the buffer with the machine count in it is as long
as_long : (s : Start) → length (set s.args.out.now 0 s.args.t.now.machine_count) ≡ length s.args.out.now
as_long s = length-set s.args.out.now 0 s.args.t.now.machine_count

pub put_all-requires : goal.put_all-requires
put_all-requires c =
    let l = c.args.t.now.jobs in
    let n = c.new-c.ensures in
    omega (arith, n.at, rw length-set at (ap length n.text), length_jobs_to l (length l), c.requires.1)

pub put_machine_state-requires : goal.put_machine_state-requires
put_machine_state-requires c =
    let l = c.args.t.now.jobs in
    let n = c.new-c.ensures in
    let p = c.put_all.ensures in
    omega (arith, n.at, rw length-set at (ap length n.text), p.long, p.written.end, length_jobs_to l (length l), c.requires.1)

pub put_flight-requires : goal.put_flight-requires
put_flight-requires c =
    let l = c.args.t.now.jobs in
    let n = c.new-c.ensures in
    let p = c.put_all.ensures in
    let q = c.put_machine_state.ensures in (
      search rules,
      omega (
        arith,
        n.at,
        rw length-set at (ap length n.text),
        p.long,
        p.written.end,
        q.written.long,
        q.value,
        length_jobs_to l (length l),
        c.requires.1,
      ),
    )

pub returns : goal.returns
returns c =
    let n = c.new-c.ensures in
    let p = c.put_all.ensures in
    let q = c.put_machine_state.ensures in
    let w = written_changes c.args.t.now c.args.n p q.written c.put_flight.ensures (search rules) q.value (search rules) n.at
    (rw length-set at (ap length n.text) ∙ c.requires.1) in
    grind (arith, w, n.text, c.put_flight.ensures.same, q.written.same, p.same, n.same_reference)

pub shape_of-out : goal.shape_of-out
shape_of-out c = let h = as_long (goal.at.shape_of-out c).Start in
    search rules
