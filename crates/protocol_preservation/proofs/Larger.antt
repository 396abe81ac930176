-- The tests of check 9 grow with the machine count M and the largest replica number B: what passes by smaller ones passes by larger ones.
-- Assumes nothing.
use Prim.Native.Nat.{ℕ, ◌≤◌, ◌<◌}
use mathlib.Core.Path.{◌≡◌}
use mathlib.Core.Bool.{Bool, true, ◌&&◌}
use native.Mathlib.Omega.{arith}
use borrow.Author.Tests.{ltb-true, lt-ltb}
use lib.Dec.{eqb, ltb}
use Rattle.lists.proofs.Cases.{by_bool, by_eq, and_left, and_right, and_both, or_left, or_map}
use Rattle.table.specs.declared.Job.{Job}
use Rattle.table.specs.declared.Machine.{Machine}
use Rattle.table.specs.declared.Message.{Message}
use Rattle.validity_element.specs.Element.{copy_ok, empty_job, place_ok, job_ok, empty_machine, reserved_ok, running_ok, machine_ok, told_ok, cell_ok}
use Rattle.validity_message.specs.Message.{message_ok}
use Rattle.protocol_preservation.proofs.Facts.{copy_job, copy_some, copy_most, copy_is_lem, kind_some, kind_most, no_price, from_in, to_in}
use Rattle.protocol_preservation.proofs.Facts.{ends_at_root, copy_in, no_copy, thief_in, no_thief, message_most, place_facts, job_is, job_state}
use Rattle.protocol_preservation.proofs.Facts.{job_copy, job_place, machine_is, machine_dead, machine_in, machine_waits, reserved, runs}
use Rattle.protocol_preservation.proofs.Facts.{told_in_lem, told_dead, told_most, cell_copy, cell_alive, cell_most}
use Rattle.protocol_preservation.proofs.Elements.{place_passes, told_passes, cell_passes, kind_passes, ends_pass, carries_passes, thief_passes}
use Rattle.protocol_preservation.proofs.Elements.{message_passes}

-- both parts of a conjunction, each by its own step
and_map : (a b c d : Bool) → (a ≡ true → c ≡ true) → (b ≡ true → d ≡ true) → a && b ≡ true → c && d ≡ true
and_map a b c d f g e = and_both c d (f (and_left a b e)) (g (and_right a b e))

module _ (M N E B C : ℕ) (w : M ≤ N) (h : B ≤ C) where
  below : (x : ℕ) → x < M → x < N
  below x l = omega arith

  copy_up : (j r : ℕ) → copy_ok E B j r ≡ true → copy_ok E C j r ≡ true
  copy_up j r c = copy_is_lem E C j r (copy_job E B j r c) (copy_some E B j r c) (omega (arith, copy_most E B j r c))

  place_up : (v : Job) → place_ok M v ≡ true → place_ok N v ≡ true
  place_up v g = let p = place_facts M v g in place_passes N E C 0 v (below _ p.holder) p.moving (λ n. below _ p.thief) p.still

  pub job_up : (j : ℕ) (v : Job) → job_ok M E B j v ≡ true → job_ok N E C j v ≡ true
  job_up j v g =
      by_bool (empty_job v) (or_left (empty_job v) _)
      (λ e. job_is N E C j v (job_state M E B j v g e) (copy_up j v.replica (job_copy M E B j v g e)) (place_up v (job_place M E B j v g e)))

  reserved_up : (n : Machine) → reserved_ok M E B n ≡ true → reserved_ok N E C n ≡ true
  reserved_up n =
      let j = n.reserved_job in
      let r = n.reserved_replica in
      let th = n.reserved_thief in
      or_map (eqb j 0 && eqb r 0 && eqb th 0) (copy_ok E B j r && ltb th M) (copy_ok E C j r && ltb th N)
      (and_map (copy_ok E B j r) (ltb th M) (copy_ok E C j r) (ltb th N) (copy_up j r) (λ e. lt-ltb th N (below th (ltb-true th M e))))

  running_up : (n : Machine) → running_ok E B n ≡ true → running_ok E C n ≡ true
  running_up n =
      let j = n.running_job in
      let r = n.running_replica in
      or_map (eqb j 0 && eqb r 0) (copy_ok E B j r) (copy_ok E C j r) (copy_up j r)

  pub machine_up : (m : ℕ) (n : Machine) → machine_ok M E B m n ≡ true → machine_ok N E C m n ≡ true
  machine_up m n g =
      by_eq n.alive 1
      (λ al. machine_is N E C m n (below m (machine_in M E B m n g al)) al (omega (arith, machine_waits M E B m n g al))
      (reserved_up n (reserved M E B m n g al)) (running_up n (runs M E B m n g al)))
      (λ d. or_left (empty_machine n) _ (machine_dead M E B m n g d))

  pub cell_up : (al j x : ℕ) → cell_ok E B al j x ≡ true → cell_ok E C al j x ≡ true
  cell_up al j x g =
      cell_passes E C al j x (cell_alive E B al j x g) (λ n. copy_job E B j x (cell_copy E B al j x g n)) (omega (arith, cell_most E B al j x g))

  pub told_up : (al m d x : ℕ) → told_ok M al m d x ≡ true → told_ok N al m d x ≡ true
  told_up al m d x g =
      told_passes N al m d x (told_most M al m d x g)
      (λ n. let p = told_in_lem M al m d x g n in (below m p.0, below d p.1)) (told_dead M al m d x g)

  pub message_up : (x : Message) → message_ok M E B x ≡ true → message_ok N E C x ≡ true
  message_up x g =
      message_passes N E C x
      (kind_passes N E C x (kind_some M E B x g) (kind_most M E B x g) (no_price M E B x g))
      (ends_pass N E C x (below _ (from_in M E B x g)) (below _ (to_in M E B x g)) (ends_at_root M E B x g))
      (carries_passes N E C x
      (λ k. let c = copy_in M E B x g k in (copy_job E B x.job x.replica c, copy_some E B x.job x.replica c))
      (no_copy M E B x g) (omega (arith, message_most M E B x g)))
      (thief_passes N E C x (λ k. below _ (thief_in M E B x g k)) (no_thief M E B x g))
