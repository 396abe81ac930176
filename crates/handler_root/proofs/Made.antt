-- What the root makes of a job, made on a table, is what specs/Root.antt says. The machine is any: nothing is changed of it. Assumes nothing.
use mathlib.Core.Path.{◌≡◌}
use mathlib.Core.Bool.{not, ◌&&◌, ◌||◌}
use Prim.Native.Nat.{ℕ}
use lib.Dec.{eqb}
use Rattle.std.proofs.Common.{None, Some}
use Rattle.lists.proofs.Cases.{by_bool}
use Rattle.table.specs.declared.Job.{Job}
use Rattle.table.specs.declared.Message.{Message}
use Rattle.table.specs.declared.Table.{Table}
use Rattle.table.specs.Views.{job_at, told_at}
use Rattle.table.specs.Parts.{moved, placed, priced, message, AUTH, DENIED, OBSOLETE, OPEN, PRICED}
use Rattle.protocol_change.specs.Change.{parts_at, send_some, made}
use Rattle.protocol_change.proofs.Made.{made_silent, made_sent, made_job}
use Rattle.handler_root.specs.Root.{reply, on_req, on_ack, on_result}
use Rattle.handler_root.specs.RootParts.{answer, req_change, ack_change, result_change}

module _ (t : Table) (k : ℕ) (m : Message) where
  abbrev v : Job
  v = job_at t m.job

  pub made_req : made t k m.job (req_change (parts_at t k m.job) m (told_at t 0 m.thief)) ≡ on_req t m
  unfolding req_change on_req reply answer message send_some parts_at
  made_req =
      by_bool (eqb v.state PRICED || not (eqb v.replica m.replica)) (λ a. rw a (made_sent t k m.job (Some (answer m OBSOLETE))))
      (λ a. by_bool (not (eqb (told_at t 0 m.thief) 0) || not (eqb v.moving 0)) (λ b. rw (a, b) (made_sent t k m.job (Some (answer m DENIED))))
      (λ b. rw (a, b) (made_job t k m.job (moved v m.from m.thief) (Some (answer m AUTH)))))

  pub made_ack : made t k m.job (ack_change (parts_at t k m.job) m) ≡ on_ack t m
  unfolding ack_change on_ack send_some parts_at
  made_ack =
      by_bool (eqb v.state OPEN && eqb v.replica m.replica)
      (λ a. rw a (made_job t k m.job (placed v m.from) None))
      (λ a. rw a (made_silent t k m.job))

  pub made_result : made t k m.job (result_change (parts_at t k m.job) m) ≡ on_result t m
  unfolding result_change on_result send_some parts_at
  made_result =
      by_bool (eqb v.state OPEN) (λ a. rw a (made_job t k m.job (priced v m.price) None)) (λ a. rw a (made_silent t k m.job))
