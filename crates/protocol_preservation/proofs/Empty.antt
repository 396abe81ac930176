-- A job, machine or message whose numbers all pass the test of 0 is the empty one.
-- Assumes nothing.
use Prim.Native.Nat.{ℕ}
use mathlib.Core.Path.{◌≡◌, ap}
use mathlib.Core.Bool.{true}
use mathlib.Core.List.{List, [], ◌∷◌}
use lib.ListN.{get_or}
use Rattle.lists.proofs.Chains.{zeros}
use Rattle.table.specs.declared.Job.{Job}
use Rattle.table.specs.declared.Machine.{Machine}
use Rattle.table.specs.declared.Message.{Message}
use Rattle.table.specs.Views.{no_job, no_machine, no_message}
use Rattle.validity_element.specs.Element.{empty_job, empty_machine}
use Rattle.validity_message.specs.Message.{empty_message}

pub empty_job_lem : (v : Job) → empty_job v ≡ true → v ≡ no_job
empty_job_lem v e =
    ap (λ (l : List ℕ). record {
      state = get_or l 0 0;
      replica = get_or l 1 0;
      moving = get_or l 2 0;
      holder = get_or l 3 0;
      thief = get_or l 4 0;
      price = get_or l 5 0;
    })
    (zeros (v.state ∷ v.replica ∷ v.moving ∷ v.holder ∷ v.thief ∷ v.price ∷ []) e)

pub empty_machine_lem : (n : Machine) → empty_machine n ≡ true → n ≡ no_machine
empty_machine_lem n e =
    ap (λ (l : List ℕ). record {
      alive = get_or l 0 0;
      reserved_job = get_or l 1 0;
      reserved_replica = get_or l 2 0;
      reserved_thief = get_or l 3 0;
      running_job = get_or l 4 0;
      running_replica = get_or l 5 0;
      waits = get_or l 6 0;
    })
    (zeros (n.alive ∷ n.reserved_job ∷ n.reserved_replica ∷ n.reserved_thief ∷ n.running_job ∷ n.running_replica ∷ n.waits ∷ []) e)

pub empty_message_lem : (m : Message) → empty_message m ≡ true → m ≡ no_message
empty_message_lem m e =
    ap (λ (l : List ℕ). record {
      kind = get_or l 0 0;
      from = get_or l 1 0;
      to = get_or l 2 0;
      job = get_or l 3 0;
      replica = get_or l 4 0;
      thief = get_or l 5 0;
      price = get_or l 6 0;
    })
    (zeros (m.kind ∷ m.from ∷ m.to ∷ m.job ∷ m.replica ∷ m.thief ∷ m.price ∷ []) e)
