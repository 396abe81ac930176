-- Which messages are about a reserved copy, and what is reserved after each update of a machine.
-- Assumes nothing.
use mathlib.Core.Path.{◌≡◌, refl}
use mathlib.Core.Logic.{◌≢◌}
use mathlib.Core.Bool.{Bool, true, false, not, cond, ◌&&◌, false≢true}
use Prim.Native.Nat.{ℕ}
use lib.Dec.{eqb}
use borrow.Author.Tests.{ne_eqb, eqb-true}
use Rattle.lists.proofs.Cases.{and_left, and_right}
use Rattle.table.specs.declared.Machine.{Machine}
use Rattle.table.specs.declared.Message.{Message}
use Rattle.table.specs.declared.Table.{Table}
use Rattle.table.specs.Views.{machine_at}
use Rattle.table.specs.Parts.{copy_is, reserves, reserve, release, running, waiting, message, REQ}
use Rattle.theorem_invariant.proofs.State.{is_answer, about}

-- ---- messages

-- neither a REQ nor an answer to one
unfoldable pub plain : ℕ → Bool
plain k = not (eqb k REQ) && not (is_answer k)

plain_bool : (a b c d g : Bool) → not a && not c ≡ true → cond a b (c && d) && g ≡ false
plain_bool true b c d g p = absurd (false≢true p)
plain_bool false b true d g p = absurd (false≢true p)
plain_bool false b false d g p = refl

-- such a message is about no reserved copy
pub about_plain : (m th j q : ℕ) (x : Message) → plain x.kind ≡ true → about m th j q x ≡ false
unfolding about plain
about_plain m th j q x p = plain_bool (eqb x.kind REQ) (eqb x.from m) (is_answer x.kind) (eqb x.to m) _ p

-- and is no REQ
pub plain_not : (x : Message) → plain x.kind ≡ true → x.kind ≡ REQ → ⊥
unfolding plain
plain_not x p e = let z : ◌≡◌ {A = Bool} false true = rw e at p in false≢true z

pub about_req : (b j₀ r₀ th₀ m th j q : ℕ) → about m th j q (message REQ b 0 j₀ r₀ th₀) ≡ eqb b m && copy_is j₀ r₀ th₀ j q th
unfolding about message
about_req b j₀ r₀ th₀ m th j q = refl

pub about_answer : (m th j q : ℕ) (x : Message) → eqb x.kind REQ ≡ false → is_answer x.kind ≡ true
    → about m th j q x ≡ eqb x.to m && copy_is x.job x.replica x.thief j q th
unfolding about
about_answer m th j q x e a = rw (e, a)

-- the answer to a REQ is about the copy that the REQ is about
pub about_reply : (x : Message) (k m th j q : ℕ) → x.kind ≡ REQ → is_answer k ≡ true → eqb k REQ ≡ false
    → about m th j q (message k 0 x.from x.job x.replica x.thief) ≡ about m th j q x
unfolding about message
about_reply x k m th j q e a b = rw (e, a, b)

dead_bool : (a b c d g : Bool) → (a ≡ true → ⊥) → (d ≡ true → ⊥) → cond a b (c && d) && g ≡ false
dead_bool true b c d g p q = absurd (p refl)
dead_bool false b true true g p q = absurd (q refl)
dead_bool false b true false g p q = refl
dead_bool false b false d g p q = refl

-- a message to a dead machine is about no living machine's copy
pub about_dead : (t : Table) (x : Message) (m th j q : ℕ) → (x.kind ≡ REQ → x.to ≡ 0) → (machine_at t 0).alive ≡ 1 → (machine_at t x.to).alive ≢ 1
    → (machine_at t m).alive ≡ 1
    → about m th j q x ≡ false
unfolding about
about_dead t x m th j q s r d a =
    dead_bool (eqb x.kind REQ) (eqb x.from m) (is_answer x.kind) (eqb x.to m) _
    (λ e. d (rw (s (eqb-true x.kind REQ e)) r))
    (λ e. d (rw (eqb-true x.to m e) a))

-- ---- copies

pub copy_eqs : (j r th k q u : ℕ) → copy_is j r th k q u ≡ true → (j ≡ k) × (r ≡ q) × (th ≡ u)
unfolding copy_is
copy_eqs j r th k q u e =
    let tail = and_right (eqb j k) (eqb r q && eqb th u) e in
    (eqb-true j k (and_left (eqb j k) _ e), eqb-true r q (and_left (eqb r q) (eqb th u) tail), eqb-true th u (and_right (eqb r q) (eqb th u) tail))

copy_same : (j r th k q u a b c : ℕ) → copy_is j r th k q u ≡ true → copy_is j r th a b c ≡ copy_is k q u a b c
copy_same j r th k q u a b c e = let es = copy_eqs j r th k q u e in rw (es.0, es.1, es.2)

-- ---- what is reserved

pub reserves_none : (n : Machine) (j q th : ℕ) → n.reserved_replica ≡ 0 → reserves n j q th ≡ false
unfolding reserves
reserves_none n j q th e = rw (e, reserves)

pub reserves_reserve : (n : Machine) (j₀ r₀ th₀ j q th : ℕ) → r₀ ≢ 0 → reserves (reserve n j₀ r₀ th₀) j q th ≡ copy_is j₀ r₀ th₀ j q th
unfolding reserves reserve
reserves_reserve n j₀ r₀ th₀ j q th h = rw (ne_eqb r₀ 0 h)

pub reserves_release : (n : Machine) (j q th : ℕ) → reserves (release n) j q th ≡ false
unfolding reserves release
reserves_release n j q th = refl

pub reserves_waiting : (n : Machine) (w j q th : ℕ) → reserves (waiting n w) j q th ≡ reserves n j q th
unfolding reserves waiting
reserves_waiting n w j q th = refl

pub reserves_running : (n : Machine) (k r j q th : ℕ) → reserves (running n k r) j q th ≡ reserves n j q th
unfolding reserves running
reserves_running n k r j q th = refl

-- where the reserved copy is (k, q, u), any other question on it is one on (k, q, u)
pub reserves_same : (n : Machine) (k q u a b c : ℕ) → reserves n k q u ≡ true → reserves n a b c ≡ copy_is k q u a b c
unfolding reserves
reserves_same n k q u a b c e =
    let f : not (eqb n.reserved_replica 0) ≡ true = and_left (not (eqb n.reserved_replica 0)) _ e in
    rw (f, reserves) (copy_same _ _ _ k q u a b c (and_right (not (eqb n.reserved_replica 0)) _ e))

pub alive_reserve : (n : Machine) (j r th : ℕ) → (reserve n j r th).alive ≡ n.alive
unfolding reserve
alive_reserve n j r th = refl

pub alive_release : (n : Machine) → (release n).alive ≡ n.alive
unfolding release
alive_release n = refl

pub alive_waiting : (n : Machine) (w : ℕ) → (waiting n w).alive ≡ n.alive
unfolding waiting
alive_waiting n w = refl

pub alive_running : (n : Machine) (j r : ℕ) → (running n j r).alive ≡ n.alive
unfolding running
alive_running n j r = refl

pub kind_message : (k f o j r th : ℕ) → (message k f o j r th).kind ≡ k
unfolding message
kind_message k f o j r th = refl
