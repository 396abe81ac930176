-- Document 01, "The table", event 2, with its own refusals in the order of "Where each refusal is checked"; 24 and 25 are document 02's, 2.5, and that
-- 16 asks whether the victim lives is its 2.10. What the dispatcher has tested before (9, 10, 11) is not tested again. A proof that opens an event
-- opens its number too (`unfolding`). Definitions only.
use Rattle.std.specs.Prelude.{not, cond, ◌&&◌, ℕ, ◌+◌, eqb, leb}
use Rattle.table.specs.declared.Machine.{Machine}
use Rattle.table.specs.declared.Table.{Table}
use Rattle.table.specs.declared.Answer.{Answer}
use Rattle.table.specs.Views.{machine_at, told_at, with_machine}
use Rattle.table.specs.Messages.{send}
use Rattle.table.specs.Parts.{waiting, message, FISH, judged}

-- "2. Steal a b: thief a sends FISH to b and waits on b."
unfoldable pub stolen : Table → ℕ → ℕ → Table
stolen t a b = send (with_machine t a (waiting (machine_at t a) (b + 1))) (message FISH a b 0 0 0)

-- 12 thief dead; "14 now means only that thief and victim are the same"; "24, thief already waits, after 14; 25, thief was told the victim is dead,
-- after 24"; 16 128 messages in flight, where the victim lives: "A message to a dead machine takes no place", and this line "now goes first". Thief a
-- is n, victim b is v; told says whether a was told that b is dead, used how many messages are in flight
unfoldable pub steal_number : Machine → Machine → ℕ → ℕ → ℕ → ℕ → ℕ
steal_number n v told used a b =
    cond (not (eqb n.alive 1)) 12
    (cond (eqb a b) 14
    (cond (not (eqb n.waits 0)) 24
    (cond (not (eqb told 0)) 25
    (cond (eqb v.alive 1 && leb 128 used) 16 0))))

-- event 2, by its number
unfoldable pub steal_of : Table → ℕ → ℕ → Answer
unfolding steal_number
steal_of t a b = judged t (steal_number (machine_at t a) (machine_at t b) (told_at t a b) t.in_flight a b) (stolen t a b)
