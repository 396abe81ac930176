-- The notice that a machine gets of the one that it waits on ends its wait. Assumes nothing.
use Prim.Native.Nat.{ℕ, ◌+◌}
use mathlib.Core.Path.{◌≡◌, ap, ◌∙◌}
use native.Mathlib.Omega.{arith}
use borrow.Author.Tests.{eq-eqb, ltb-true, ltb-false}
use lib.Dec.{eqb, ltb}
use lib.ListN.{length, get_or-eq_default}
use lib.Seq.{get_or-set_same}
use Rattle.lists.proofs.Cases.{by_bool, cond_elim}
use Rattle.table.specs.declared.Machine.{Machine}
use Rattle.table.specs.declared.Table.{Table}
use Rattle.table.specs.Views.{no_machine, machine_at, with_machine}
use Rattle.table.specs.Pools.{enter, returned}
use Rattle.table.specs.Parts.{release, waiting}
use Rattle.table.proofs.Views.{views, part_machine}
use Rattle.event_notice.specs.Notice.{informed, clear_wait, return_reserved, notice_local, noticed}
use Rattle.event_notice.proofs.Parts.{machine_informed, same_return_reserved}
use Rattle.theorem_invariant.proofs.Reissued.{machine_reissue}

-- a machine that lives is one of the array, so what is written of it is read
pub written : (t : Table) (a : ℕ) (v : Machine) → (machine_at t a).alive ≡ 1 → machine_at (with_machine t a v) a ≡ v
unfolding machine_at with_machine
written t a v h =
    by_bool (ltb a (length t.machines))
    (λ l. get_or-set_same t.machines a v no_machine (ltb-true _ _ l))
    (λ l.
    let none = ap (λ (n : Machine). n.alive) (get_or-eq_default t.machines no_machine (ltb-false _ _ l)) in
    absurd (omega (arith, none, h)))

-- who lives, and its wait
abbrev living : Machine → ℕ × ℕ
living n = (n.alive, n.waits)

-- a reserved copy that returns changes neither
living_returned : (t : Table) (a : ℕ) → living (machine_at (returned t a) a) ≡ living (machine_at t a)
unfolding returned enter release
living_returned t a = part_machine living (enter t a _ _) a (release (machine_at t a)) (simp views) a ∙ simp views

living_told : (t : Table) (a b : ℕ) → living (machine_at (return_reserved (informed t a b) a b) a) ≡ living (machine_at t a)
living_told t a b =
    same_return_reserved (λ u. living (machine_at u a)) (informed t a b) a b (living_returned (informed t a b) a) ∙ ap living (machine_informed t a b a)

cleared : (t : Table) (a b : ℕ) → (machine_at t a).alive ≡ 1 → (machine_at t a).waits ≡ b + 1 → (machine_at (clear_wait t a b) a).waits ≡ 0
unfolding clear_wait waiting
cleared t a b i w = rw (eq-eqb (machine_at t a).waits (b + 1) w) (ap (λ (n : Machine). n.waits) (written t a (waiting (machine_at t a) 0) i))

pub waits_noticed : (t : Table) (a b : ℕ) → (machine_at t a).alive ≡ 1 → (machine_at t a).waits ≡ b + 1 → (machine_at (noticed t a b) a).waits ≡ 0
unfolding noticed notice_local
waits_noticed t a b i w =
    let u = return_reserved (informed t a b) a b in
    let p = living_told t a b in
    let q = cleared u a b (ap (λ (x : ℕ × ℕ). x.0) p ∙ i) (ap (λ (x : ℕ × ℕ). x.1) p ∙ w) in
    cond_elim (λ x. (machine_at x a).waits ≡ 0) (eqb a 0) _ _ (ap (λ (n : Machine). n.waits) (machine_reissue (notice_local t a b) b a) ∙ q) q
