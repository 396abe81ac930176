-- `table_opening::with_machines` meets its contract. The loop keeps: the machines passed so far are alive.
-- Assumes nothing.
use mathlib.Core.Path.{ap, ◌∙◌}
use Rattle.lists.proofs.Scans.{up_none, up_more}
use Rattle.table.specs.declared.Machine.{Machine}
use Rattle.table.specs.Views.{with_machine, parts}
use Rattle.table_opening.proofs.Alive.{revive}
use Rattle.table_opening.proofs.with_machines.Goals as goal

pub loop-i-init : goal.loop-i-init
loop-i-init c = up_none revive _

pub loop-i-preserved : goal.loop-i-preserved
unfolding parts
loop-i-preserved c =
    let l = c.loop-i in
    ap (λ (x : Machine). with_machine l.u l.i x) c.idle_machine.ensures ∙ up_more revive _ _ _ l.invariant
