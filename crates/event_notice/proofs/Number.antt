-- The number of event 7 by parts is that on the table. Assumes nothing.
use mathlib.Core.Path.{◌≡◌, sym}
use Prim.Native.Nat.{ℕ}
use Rattle.table.specs.declared.Table.{Table}
use Rattle.table.specs.Views.{machine_at, told_at}
use Rattle.table.proofs.Refusals.{judged_number}
use Rattle.event_notice.specs.Notice.{noticed, notice_number, notice_of}

pub notice_number_lem : (t : Table) (a b : ℕ) → notice_number (machine_at t a) (machine_at t b) (told_at t a b) ≡ (notice_of t a b).number
unfolding notice_of
notice_number_lem t a b = sym (judged_number t _ (noticed t a b))
