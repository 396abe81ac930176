-- Messages changed in place: one is taken off, or none, and then one is sent, or none. Definitions only.
use Rattle.std.specs.Prelude.{not, cond, ◌&&◌, List, ℕ, ◌+◌, ◌-◌, eqb, ltb, get_or, Option, None, Some}
use Rattle.table.specs.declared.Machine.{Machine}
use Rattle.table.specs.declared.Message.{Message}
use Rattle.table.specs.declared.Table.{Table}
use Rattle.table.specs.Views.{no_machine}
use Rattle.table.specs.Messages.{remove_at}

-- the message in slot k is taken off, where one is in flight there
unfoldable pub taken : Table → ℕ → Table
taken t k = cond (ltb k t.in_flight) (remove_at t k) t

-- how many stay
unfoldable pub kept : ℕ → ℕ → ℕ
kept slot used = cond (ltb slot used) (used - 1) used

-- what is stored of what is sent to one of these machines; a message of kind 0 is none
unfoldable pub stored : Option Message → List Machine → Option Message
stored None machines = None
stored (Some m) machines = cond (not (eqb m.kind 0) && eqb (get_or machines m.to no_machine).alive 1) (Some m) None

-- how many are in flight with it
unfoldable pub counted : ℕ → Option Message → ℕ
counted keep None = keep
counted keep (Some m) = cond (not (eqb m.kind 0)) (keep + 1) keep
