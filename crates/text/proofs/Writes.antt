-- One write through a cursor after another. Assumes nothing.
use Prim.Native.Nat.{ℕ, ◌+◌, ◌≤◌}
use mathlib.Core.Path.{refl, ◌∙◌}
use mathlib.Core.List.{List, ◌++◌}
use native.Mathlib.Omega.{arith}
use lib.ListN.{length, length-append}
use Rattle.text.specs.Text.{joined}
use Rattle.text.specs.declared.Cursor.{Cursor}
use Rattle.text.specs.Cursor.{Writes}
use Rattle.text.proofs.Over as over

pub then : {a b c : Cursor} {v w : List ℕ} → Writes a v b → Writes b w c → a.at + length (v ++ w) ≤ length a.out.now → Writes a (v ++ w) c
then p q h = record { same = q.same ∙ p.same; long = q.long ∙ p.long; written = over.then p.written q.written h }

pub then_two : {a b c d : Cursor} {u v w : List ℕ} → Writes a u b → Writes b v c → Writes c w d
    → a.at + length (u ++ v ++ w) ≤ length a.out.now → Writes a (u ++ v ++ w) d
then_two {u = u} {v = v} {w = w} p q r h = then (then p q (omega (arith, length-append (u ++ v) w))) r h

-- ---- texts one after another, each written by a turn of a loop

module _ (f : ℕ → List ℕ) where
  pub joined_none : (a : Cursor) → a.at ≤ length a.out.now → Writes a (joined f 0) a
  joined_none a h = record { same = refl; long = refl; written = over.joined_none f a.out.now a.at h }

  pub joined_more : {a b c : Cursor} {k : ℕ} → Writes a (joined f k) b → Writes b (f k) c → a.at + length (joined f (k + 1)) ≤ length a.out.now
      → Writes a (joined f (k + 1)) c
  joined_more p q h = record { same = q.same ∙ p.same; long = q.long ∙ p.long; written = over.joined_more f p.written q.written h }
