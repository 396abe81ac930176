-- `event_notice::reissue` meets its contract. The loop keeps: the jobs before j have had their turn.
-- Assumes nothing.
use mathlib.Core.Path.{◌≡◌}
use Rattle.lists.specs.Scan.{up_to}
use Rattle.table.specs.Views.{job_at}
use Rattle.event_notice.specs.Notice.{reissue_one}
use Rattle.event_notice.proofs.reissue.Given as goal

abbrev pub invariant-loop-j : goal.invariant-loop-j
invariant-loop-j l = l.u ≡ up_to (λ k v. reissue_one (job_at l.fn.t k) l.b k v) l.j l.fn.t
