-- Document 01, "The table", and document 02, 2.6: the codes of the events, by the names of the events. Definitions only.
use Rattle.std.specs.Prelude.{ℕ}

-- "1. Admit a", "2. Steal a b", "3. Deliver a b", "4. Start a b", "5. Done a", "6. Die a", "7. Notice a b"
abbrev pub ADMIT : ℕ
ADMIT = 1

abbrev pub STEAL : ℕ
STEAL = 2

abbrev pub DELIVER : ℕ
DELIVER = 3

abbrev pub START : ℕ
START = 4

abbrev pub DONE : ℕ
DONE = 5

abbrev pub DIE : ℕ
DIE = 6

abbrev pub NOTICE : ℕ
NOTICE = 7

-- document 02, 2.6: "Event 8, Join a"
abbrev pub JOIN : ℕ
JOIN = 8

-- "Number 10 now accepts codes 1 to 8": the codes are 1 to this one
abbrev pub last_code : ℕ
last_code = JOIN
