-- Document 02, 2.7: what is claimed of the bytes of the run, and of a buffer after a call that is not refused. It is stated over definitions alone;
-- its proof is `read_back` in proofs/ReadBack.antt.
--
--   worst_run, worst_bytes      the events of k deaths, and their bytes        (Worst)
--   worst_number, worst_buffer  the number of a call, and the buffer after it  (Worst)
--   events_in                   the events of a list of bytes                  (dispatcher)
use Rattle.std.specs.Prelude.{ℕ, ◌+◌, ◌*◌, ◌≡◌, List, length, take, drop}
use Rattle.dispatcher.specs.Events.{events_in}
use Rattle.worst_run.specs.Worst.{worst_run, worst_bytes, worst_number, worst_buffer}

-- "So 1 + 7k events, 3 bytes each"
pub record Sizes (k : ℕ) : Type 0 where
  pub events : length (worst_run k) ≡ 1 + 7 * k
  pub bytes : length (worst_bytes k) ≡ 3 * (1 + 7 * k)

-- the buffer after a call that is answered 0
pub record Read (m k : ℕ) (buffer : List ℕ) : Type 0 where
  -- they "go to the front of the buffer": read as a list of events, the front is the run
  pub front : events_in (take (3 * (1 + 7 * k)) (worst_buffer m k buffer)) ≡ worst_run k
  -- "and the rest is untouched"
  pub rest : drop (3 * (1 + 7 * k)) (worst_buffer m k buffer) ≡ drop (3 * (1 + 7 * k)) buffer

pub record ReadBack : Type 0 where
  pub sizes : (k : ℕ) → Sizes k
  pub read : (m k : ℕ) (buffer : List ℕ) → worst_number m k (length buffer) ≡ 0 → Read m k buffer
