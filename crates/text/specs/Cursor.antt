-- What a write through a cursor needs and leaves. Definitions only.
use Rattle.std.specs.Prelude.{ℕ, ◌+◌, ◌≡◌, ◌≤◌, List, length}
use Rattle.text.specs.Text.{Written}
use Rattle.text.specs.declared.Cursor.{Cursor}

-- there is room for n bytes more
abbrev pub Room : Cursor → ℕ → Type 0
Room c n = c.at + n ≤ length c.out.now

-- the text w is written over the same buffer from the cursor's position on, and the cursor stands after it
pub record Writes (before : Cursor) (w : List ℕ) (after : Cursor) : Type 0 where
  pub same : after.out.ghost_name ≡ before.out.ghost_name
  pub long : length after.out.now ≡ length before.out.now
  pub written : Written before.out.now before.at w after.out.now after.at
