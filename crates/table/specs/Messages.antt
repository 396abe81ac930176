-- The messages: sending, finding the oldest of a channel, taking one off, dropping some.
use Rattle.std.specs.Prelude.{[], ◌∷◌, ◌++◌, Bool, not, cond, ◌&&◌, ℕ, ◌+◌, ◌-◌, eqb, length, set}
use Rattle.lists.specs.Scan.{least, filter, pad_to, without}
use Rattle.table.specs.declared.Message.{Message}
use Rattle.table.specs.declared.Table.{Table}
use Rattle.table.specs.Views.{no_message, machine_at, message_at, flight, with_messages}

-- "messages fill the slots from the first": m fills the next slot
unfoldable pub push : Table → Message → Table
push t m = with_messages t (t.in_flight + 1) (set t.messages t.in_flight m)

-- slot k goes, those after it move up by one, and the last slot is empty
unfoldable pub remove_at : Table → ℕ → Table
remove_at t k = with_messages t (t.in_flight - 1) (without k t.messages ++ (no_message ∷ []))

-- only the messages of which p holds stay in flight, in their order
unfoldable pub keep_messages : Table → (Message → Bool) → Table
keep_messages t p = with_messages t (length (filter p (flight t))) (pad_to 128 no_message (filter p (flight t)))

-- "A message to a dead machine is stored nowhere."
unfoldable pub send : Table → Message → Table
send t m = cond (eqb (machine_at t m.to).alive 1) (push t m) t

-- "The channel from one machine to another": from a to b
abbrev pub in_channel : ℕ → ℕ → Message → Bool
in_channel a b m = eqb m.from a && eqb m.to b

-- "the oldest message from a to b": its slot, or the number in flight where there is none
unfoldable pub oldest : Table → ℕ → ℕ → ℕ
oldest t a b = least (λ i. in_channel a b (message_at t i)) t.in_flight

-- what stays where "messages to it are dropped"
abbrev pub not_to : ℕ → Message → Bool
not_to x m = not (eqb m.to x)

-- what stays where "undelivered messages from b to a are dropped"
abbrev pub not_from : ℕ → ℕ → Message → Bool
not_from b a m = not (eqb m.from b && eqb m.to a)
