-- Document 01, "Where each refusal is checked", and the new numbers of document 02: each refusal's number. Definitions only.
use Rattle.std.specs.Prelude.{ℕ, Result, Ok, Err}
use Rattle.refusal.specs.declared.Refusal.{Refusal}
use Rattle.refusal.specs.declared.Refusal.TheVariants.{ShortBook, SizeOutOfRange, BookLength, IdentifierForm, CheckDigit, RepeatedIdentifier}
use Rattle.refusal.specs.declared.Refusal.TheVariants.{TermOutsideRules, TableOutOfOrder, MalformedEvent, NumberTooLarge, DeadMachine}
use Rattle.refusal.specs.declared.Refusal.TheVariants.{AlreadyAdmitted, OwnVictim, NoneInFlight, FullFlight, AlreadyRunning, NotInPool}
use Rattle.refusal.specs.declared.Refusal.TheVariants.{NothingRunning, RootNeverDies, StillAlive, AlreadyTold, ShortBuffer, AlreadyWaits}
use Rattle.refusal.specs.declared.Refusal.TheVariants.{VictimKnownDead, NoMachineLeft, NotNextMachine, NoSuchRun, ShortRunBuffer}

-- the number beside its condition
abbrev pub number_of : Refusal → ℕ
-- "fewer than 4 bytes"
number_of ShortBook = 1
-- "a size outside its range", and of the writer a 65th entry
number_of SizeOutOfRange = 2
-- "length not 4 + 31n", and of the writer "A stated count past the buffer's end"
number_of BookLength = 3
-- "identifier form"
number_of IdentifierForm = 4
-- "check digit"
number_of CheckDigit = 5
-- "equals an earlier identifier"
number_of RepeatedIdentifier = 6
-- "term outside the rules"
number_of TermOutsideRules = 7
-- the row "Table, before any event"
number_of TableOutOfOrder = 9
-- "code not 1 to 8, unused b not 0, or fewer than three bytes"
number_of MalformedEvent = 10
-- "machine or entry number too large"
number_of NumberTooLarge = 11
-- "thief dead", "a dead", "a already dead"
number_of DeadMachine = 12
-- "already admitted"
number_of AlreadyAdmitted = 13
-- "thief and victim are the same"
number_of OwnVictim = 14
-- "none in flight from a to b"
number_of NoneInFlight = 15
-- "128 messages in flight"
number_of FullFlight = 16
-- "a running"
number_of AlreadyRunning = 17
-- "job not in pool"
number_of NotInPool = 18
-- "nothing running"
number_of NothingRunning = 19
-- "a is the root"
number_of RootNeverDies = 20
-- "b alive"
number_of StillAlive = 21
-- "a already told"
number_of AlreadyTold = 22
-- "buffer shorter than the grown book"
number_of ShortBuffer = 23
-- "thief already waits"
number_of AlreadyWaits = 24
-- "thief was told the victim is dead"
number_of VictimKnownDead = 25
-- "there are 16 already"
number_of NoMachineLeft = 26
-- "a is not the next number"
number_of NotNextMachine = 27
-- "m not 2 to 16 or k above m - 1"
number_of NoSuchRun = 28
-- "buffer too short", for the run that copies most
number_of ShortRunBuffer = 29

-- "An accepted event returns 0. A refusal returns its number": the same of a book, a term and whatever else may be refused
abbrev pub answer_of : {T : Type 0} → Result T Refusal → ℕ
answer_of (Ok x) = 0
answer_of (Err r) = number_of r
