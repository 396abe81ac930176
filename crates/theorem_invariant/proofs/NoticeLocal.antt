-- What Notice does to every machine that is told (its told flag, its messages, its reserved copy, its wait), through the table's views.
-- Assumes nothing.
use mathlib.Core.Path.{◌≡◌, ap, ◌∙◌}
use mathlib.Core.Logic.{◌≢◌}
use mathlib.Core.Bool.{not, cond, ◌&&◌}
use Prim.Native.Nat.{ℕ, ◌+◌, ◌<◌}
use lib.Dec.{eqb}
use Rattle.lists.specs.Scan.{filter}
use Rattle.lists.proofs.Cases.{by_bool}
use Rattle.table.specs.declared.Machine.{Machine}
use Rattle.table.specs.declared.Table.{Table}
use Rattle.table.specs.Views.{machine_at, told_at, flight, with_messages}
use Rattle.table.specs.Pools.{enter, returned}
use Rattle.table.specs.Messages.{keep_messages, not_from}
use Rattle.table.specs.Parts.{release, waiting}
use Rattle.table.proofs.Views.{Sized, views, machine_same, machine_other, told_same, told_other, told_other_machine, told_messages, flight_told}
use Rattle.table.proofs.Messages.{flight_keep_messages, sized_keep_messages}
use Rattle.event_notice.specs.Notice.{informed, clear_wait, return_reserved, notice_local}
use Rattle.event_notice.proofs.Parts.{machine_informed, same_notice_local}
use Rattle.protocol_preservation.proofs.Sizes.{sized_informed, sized_return_reserved}
use Rattle.theorem_invariant.proofs.Frame.{machine_returned, machine_returned_other}

-- machine a's record once the copy reserved for b is returned, and once a wait on b has ended
unfoldable pub return_reserved_machine : Machine → ℕ → Machine
return_reserved_machine n b = cond (not (eqb n.reserved_replica 0) && eqb n.reserved_thief b) (release n) n

unfoldable pub clear_wait_machine : Machine → ℕ → Machine
clear_wait_machine n b = cond (eqb n.waits (b + 1)) (waiting n 0) n

unfoldable pub notice_local_machine : Machine → ℕ → Machine
notice_local_machine n b = clear_wait_machine (return_reserved_machine n b) b

module _ (t : Table) (a b : ℕ) where
  machine_return_reserved : Sized t → a < 16 → machine_at (return_reserved t a b) a ≡ return_reserved_machine (machine_at t a) b
  unfolding return_reserved return_reserved_machine
  machine_return_reserved s l =
      by_bool (not (eqb (machine_at t a).reserved_replica 0) && eqb (machine_at t a).reserved_thief b)
      (λ c. rw (c, return_reserved) (machine_returned t a s l))
      (λ c. rw (c, return_reserved))

  machine_clear_wait : Sized t → a < 16 → machine_at (clear_wait t a b) a ≡ clear_wait_machine (machine_at t a) b
  unfolding clear_wait clear_wait_machine
  machine_clear_wait s l =
      by_bool (eqb (machine_at t a).waits (b + 1))
      (λ c. rw (c, clear_wait) (machine_same t s a (waiting (machine_at t a) 0) l))
      (λ c. rw (c, clear_wait))

module _ (t : Table) (a b : ℕ) where
  pub flight_notice_local : flight (notice_local t a b) ≡ filter (not_from b a) (flight t)
  unfolding informed returned enter
  flight_notice_local =
      same_notice_local flight t a b (λ u. simp views) (λ u v. simp views) ∙ flight_told (keep_messages t (not_from b a)) a b 1
      ∙ flight_keep_messages t (not_from b a)

  told_informed : (m d : ℕ) → told_at (notice_local t a b) m d ≡ told_at (informed t a b) m d
  unfolding returned enter
  told_informed m d = same_notice_local (λ u. told_at u m d) t a b (λ u. simp views) (λ u v. simp views)

  pub told_notice_local : Sized t → a < 16 → b < 16 → told_at (notice_local t a b) a b ≡ 1
  unfolding informed
  told_notice_local s al bl = told_informed a b ∙ told_same (keep_messages t (not_from b a)) (sized_keep_messages t s (not_from b a)) a b 1 al bl

  -- of any other machine, and of whoever is not a
  pub told_notice_local_other : (m d : ℕ) → b < 16 → d < 16 → d ≢ b → told_at (notice_local t a b) m d ≡ told_at t m d
  unfolding informed keep_messages
  told_notice_local_other m d bl dl e = told_informed m d ∙ told_other (with_messages t _ _) a b m d 1 bl dl e ∙ told_messages t _ _ m d

  pub told_notice_local_others : (m d : ℕ) → b < 16 → d < 16 → m ≢ a → told_at (notice_local t a b) m d ≡ told_at t m d
  unfolding informed keep_messages
  told_notice_local_others m d bl dl e = told_informed m d ∙ told_other_machine (with_messages t _ _) a b m d 1 bl dl e ∙ told_messages t _ _ m d

  pub machine_notice_local : Sized t → a < 16 → machine_at (notice_local t a b) a ≡ notice_local_machine (machine_at t a) b
  unfolding notice_local notice_local_machine
  machine_notice_local s l =
      let i = informed t a b in
      machine_clear_wait (return_reserved i a b) a b (sized_return_reserved i (sized_informed t s a b) a b) l
      ∙ ap (λ (n : Machine). clear_wait_machine n b) (machine_return_reserved i a b (sized_informed t s a b) l
      ∙ ap (λ (n : Machine). return_reserved_machine n b) (machine_informed t a b a))

  pub machine_notice_local_other : (m : ℕ) → m ≢ a → machine_at (notice_local t a b) m ≡ machine_at t m
  machine_notice_local_other m e =
      same_notice_local (λ u. machine_at u m) t a b (λ u. machine_returned_other u a m e) (λ u v. machine_other u a m v e) ∙ machine_informed t a b m
