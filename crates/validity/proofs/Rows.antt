-- An item of a part of a list. Assumes nothing.
use Rattle.std.proofs.Common.{◌≡◌, ℕ, ◌+◌, ◌-◌, ◌<◌, List, get_or, take, drop, arith, ◌∙◌}
use Rattle.std.proofs.lemmas.List.{get_or-take, get_or-drop}

pub row_at : {A : Type 0} (l : List A) (a n i : ℕ) (d : A) → i < n → get_or (take ((a + n) - a) (drop a l)) i d ≡ get_or l (a + i) d
row_at l a n i d h = get_or-take ((a + n) - a) (drop a l) i d (omega arith) ∙ get_or-drop a l i d
