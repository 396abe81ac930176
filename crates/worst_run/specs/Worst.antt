-- Document 02, 2.7, "The run that copies most": its events, its refusals, and the buffer that they are written to. m is the number of machines, k that
-- of deaths. Definitions only.
use Rattle.std.specs.Prelude.{ℕ, zero, suc, ◌-◌, not, cond, ◌&&◌, ◌||◌, eqb, leb, ltb, length}
use mathlib.Core.List.{List, [], ◌∷◌, ◌++◌, flatten}
use Rattle.text.specs.Text.{onto}
use Rattle.dispatcher.specs.Codes.{ADMIT, STEAL, DELIVER, DIE, NOTICE}
use Rattle.dispatcher.specs.Step.{event}

-- "Each death takes seven events: the machine steals from the root, its FISH, REQ, AUTH and SCHEDULE are delivered, it dies, the root is told." The
-- machine is i. The root is the victim, so that REQ and AUTH are from the root to itself
unfoldable pub death_of : ℕ → List (List ℕ)
death_of i =
    event STEAL i 0
    ∷ event DELIVER i 0
    ∷ event DELIVER 0 0
    ∷ event DELIVER 0 0
    ∷ event DELIVER 0 i
    ∷ event DIE i 0
    ∷ event NOTICE 0 i
    ∷ []

-- "Machines 1 to k go in turn."
unfoldable pub deaths_to : ℕ → List (List ℕ)
deaths_to zero = []
deaths_to (suc k) = deaths_to k ++ death_of (suc k)

-- "the events that admit job 0 and drive its replica number to k + 1"
unfoldable pub worst_run : ℕ → List (List ℕ)
worst_run k = event ADMIT 0 0 ∷ deaths_to k

-- their bytes, one event after another
unfoldable pub worst_bytes : ℕ → List ℕ
worst_bytes k = flatten (worst_run k)

-- "28, m not 2 to 16 or k above m - 1; 29, buffer too short; in that order": of a buffer of `size` bytes
unfoldable pub worst_number : ℕ → ℕ → ℕ → ℕ
worst_number m k size =
    cond (not (leb 2 m && leb m 16) || ltb (m - 1) k) 28
    (cond (ltb size (length (worst_bytes k))) 29 0)

-- the events "go to the front of the buffer and the rest is untouched"; document 01: "A refusal returns its number; table and buffers are unchanged"
unfoldable pub worst_buffer : ℕ → ℕ → List ℕ → List ℕ
worst_buffer m k buffer = cond (eqb (worst_number m k (length buffer)) 0) (onto (worst_bytes k) buffer) buffer
