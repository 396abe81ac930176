-- The form of an event, by its length and then by its bytes.
-- Assumes nothing.
use Prim.Native.Nat.{ℕ, ◌≤◌, ◌<◌}
use mathlib.Core.Path.{◌≡◌, refl, ◌∙◌}
use mathlib.Core.Bool.{true, false, ◌&&◌, ◌||◌}
use mathlib.Core.List.{List, [], ◌∷◌}
use borrow.Author.Tests.{le-leb, lt-leb, leb-true}
use lib.Dec.{eqb, leb}
use lib.ListN.{length}
use Rattle.lists.proofs.Cases.{by_bool}
use Rattle.lists.proofs.Chains.{chain_apart}
use Rattle.dispatcher.specs.declared.Code.{Code}
use Rattle.dispatcher.specs.declared.Code.TheVariants.{Admit, Steal, Deliver, Start, Done, Die, Notice, Join}
use Rattle.dispatcher.specs.EventParts.{code_number}
use Rattle.dispatcher.specs.Codes.{last_code}
use Rattle.dispatcher.specs.Step.{code_of, second_of, uses_second, well_formed}

pub well_formed_short : (e : List ℕ) → length e < 3 → well_formed e ≡ false
unfolding well_formed
well_formed_short e h = rw (lt-leb 3 (length e) h)

pub well_formed_is : (e : List ℕ) → 3 ≤ length e
    → well_formed e ≡ (leb 1 (code_of e) && leb (code_of e) last_code && (uses_second (code_of e) || eqb (second_of e) 0))
unfolding well_formed
well_formed_is e h = rw (le-leb 3 (length e) h)

pub well_formed_code : (e : List ℕ) → well_formed e ≡ true → (1 ≤ code_of e) × (code_of e ≤ last_code)
unfolding well_formed
well_formed_code e f =
    let c = code_of e in
    let h = (chain_apart (leb 3 (length e)) (leb 1 c ∷ leb c last_code ∷ (uses_second c || eqb (second_of e) 0) ∷ []) f).1 in
    (leb-true 1 c h.0, leb-true c last_code h.1.0)

pub well_formed_none : (e : List ℕ) → (leb 1 (code_of e) && leb (code_of e) last_code) ≡ false → well_formed e ≡ false
unfolding well_formed
well_formed_none e h =
    by_bool (leb 3 (length e)) (λ l. rw l (by_bool (leb 1 (code_of e)) (λ m. let k : leb (code_of e) last_code ≡ false = rw m at h in rw (m, k)) (λ m. rw m)))
    (λ l. rw l)

-- of an event that a code names, b alone is left to be asked about
pub well_formed_named : (e : List ℕ) (c : Code) → 3 ≤ length e → code_of e ≡ code_number c
    → well_formed e ≡ (uses_second (code_number c) || eqb (second_of e) 0)
well_formed_named e c h i = well_formed_is e h ∙ rw i (named c)
  where
    named : (c : Code) → (leb 1 (code_number c) && leb (code_number c) last_code && (uses_second (code_number c) || eqb (second_of e) 0))
        ≡ (uses_second (code_number c) || eqb (second_of e) 0)
    named Admit = refl
    named Steal = refl
    named Deliver = refl
    named Start = refl
    named Done = refl
    named Die = refl
    named Notice = refl
    named Join = refl
