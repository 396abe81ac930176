-- Document 01, "A run": the events of a list of bytes. Definitions only.
use Rattle.std.specs.Prelude.{ℕ, ◌+◌, ◌*◌, ◌/◌, List, length, take, drop}
use Rattle.lists.specs.Scan.{tabulate}

-- "Events are three bytes": those of event k, counted from 0; the last event has fewer where the bytes end before it does
unfoldable pub event_at : List ℕ → ℕ → List ℕ
event_at s k = take 3 (drop (3 * k) s)

-- "events.bin (at most 60,000 bytes; later ones are not read)"
abbrev pub bytes_most : ℕ
bytes_most = 60000

-- how many events there are, one of too few bytes included
abbrev pub event_count : List ℕ → ℕ
event_count s = (length s + 2) / 3

-- "Refused events stay in the list, those of too few bytes included."
unfoldable pub events_in : List ℕ → List (List ℕ)
events_in s = tabulate (event_at s) (event_count s)
