-- A part of a buffer written over it at a higher place; and the three writes of a book that grows, as one. Assumes nothing.
use Prim.Native.Nat.{ℕ, ◌+◌, ◌-◌, ◌≤◌}
use mathlib.Core.Path.{◌≡◌, ap, ◌∙◌}
use mathlib.Core.List.{List, ◌++◌, append_assoc}
use native.Mathlib.Omega.{arith}
use lib.ListN.{length, length-append}
use Rattle.std.specs.List.{copy_within}
use Rattle.lists.proofs.Slices.{part, length_part}
use Rattle.text.specs.Text.{over}
use Rattle.text.proofs.Over.{over_over, over_below}

-- ---- the part, as the library writes it

pub moved : (d : List ℕ) (at count by : ℕ) → at ≤ count → count ≤ length d → copy_within d at count (at + by) ≡ over d (at + by) (part d at count)
unfolding over
moved d at count by h k = let l = length_part d at count h k in rw l

-- ---- the identifier, the terms after it, the new one last

pub three : (d : List ℕ) (at count : ℕ) (w t : List ℕ) (x y z : List ℕ) → at ≤ count → count + length w + length t ≤ length d
    → x ≡ over d (at + length w) (part d at count) → y ≡ over x at w → z ≡ over y (count + length w) t → z ≡ over d at (w ++ (part d at count ++ t))
three d at count w t x y z h k e f g =
    let p : List ℕ = part d at count in
    let l : length p ≡ count - at = length_part d at count h (omega arith) in
    let n : length (w ++ p) ≡ length w + length p = length-append w p in
    let o : length ((w ++ p) ++ t) ≡ length (w ++ p) + length t = length-append (w ++ p) t in
    let m : count + length w ≡ at + length (w ++ p) = omega arith in
    let q : y ≡ over d at (w ++ p) = f ∙ ap (λ (u : List ℕ). over u at w) e ∙ over_below d at w p (omega arith) in
    g ∙ ap (λ (u : List ℕ). over u (count + length w) t) q ∙ ap (λ (j : ℕ). over (over d at (w ++ p)) j t) m
    ∙ over_over d at (w ++ p) t (omega arith)
    ∙ ap (over d at) (append_assoc w p t)
