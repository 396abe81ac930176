-- `validity::alive_of` meets its contract. The loop fills the array with what the machines passed so far say.
-- Assumes nothing.
use Prim.Native.Nat.{ℕ}
use mathlib.Core.Path.{ap, ◌∙◌}
use mathlib.Core.List.{List}
use native.Mathlib.Omega.{arith}
use lib.ListN.{length, get_or, get_or-map}
use Rattle.lists.specs.Scan.{tabulate}
use Rattle.lists.proofs.Scans.{tabulate_none, tabulate_more, tabulate_end, tabulate_map, pad_default}
use Rattle.table.specs.Views.{no_machine}
use Rattle.validity.proofs.alive_of.Invariants.{living}
use Rattle.validity.proofs.alive_of.Goals as goal

pub loop-i-init : goal.loop-i-init
loop-i-init c = tabulate_none _ 256 0

pub loop-i-preserved : goal.loop-i-preserved
loop-i-preserved c =
    let machines = c.args.machines.now in
    tabulate_more (λ k. living (get_or machines k no_machine)) 256 0 c.loop-i.i c.loop-i.alive (omega arith) c.loop-i.invariant

pub returns : goal.returns
returns c = λ k.
    let machines = c.args.machines.now in
    let f : ℕ → ℕ = λ i. living (get_or machines i no_machine) in
    let n = c.told-machines in
    let e = tabulate_end f 256 0 (length machines) c.loop-i.i c.loop-i.alive (omega (arith, n)) (omega (arith, n)) c.loop-i.invariant in
    ap (λ (a : List ℕ). get_or a k 0) e
    ∙ pad_default 0 256 (tabulate f (length machines)) k
    ∙ ap (λ (a : List ℕ). get_or a k 0) (tabulate_map living machines no_machine)
    ∙ get_or-map living machines k no_machine
