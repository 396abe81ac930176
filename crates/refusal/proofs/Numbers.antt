-- An answer is known by its number: no refusal has the number 0, and no two have the same.
use Rattle.std.proofs.Common.{ℕ, ◌≡◌, ◌<◌, Result, Ok, Err, [], ◌∷◌, get_or, refl, ap, arith}
use Rattle.refusal.specs.Numbers.{number_of, answer_of}
use Rattle.refusal.specs.declared.Refusal.{Refusal}
use Rattle.refusal.specs.declared.Refusal.TheVariants.{ShortBook, SizeOutOfRange, BookLength, IdentifierForm, CheckDigit, RepeatedIdentifier}
use Rattle.refusal.specs.declared.Refusal.TheVariants.{TermOutsideRules, TableOutOfOrder, MalformedEvent, NumberTooLarge, DeadMachine}
use Rattle.refusal.specs.declared.Refusal.TheVariants.{AlreadyAdmitted, OwnVictim, NoneInFlight, FullFlight, AlreadyRunning, NotInPool}
use Rattle.refusal.specs.declared.Refusal.TheVariants.{NothingRunning, RootNeverDies, StillAlive, AlreadyTold, ShortBuffer, AlreadyWaits}
use Rattle.refusal.specs.declared.Refusal.TheVariants.{VictimKnownDead, NoMachineLeft, NotNextMachine, NoSuchRun, ShortRunBuffer}

-- no refusal has the number of what is accepted
pub number_positive : (r : Refusal) → 0 < number_of r
number_positive ShortBook = omega arith
number_positive SizeOutOfRange = omega arith
number_positive BookLength = omega arith
number_positive IdentifierForm = omega arith
number_positive CheckDigit = omega arith
number_positive RepeatedIdentifier = omega arith
number_positive TermOutsideRules = omega arith
number_positive TableOutOfOrder = omega arith
number_positive MalformedEvent = omega arith
number_positive NumberTooLarge = omega arith
number_positive DeadMachine = omega arith
number_positive AlreadyAdmitted = omega arith
number_positive OwnVictim = omega arith
number_positive NoneInFlight = omega arith
number_positive FullFlight = omega arith
number_positive AlreadyRunning = omega arith
number_positive NotInPool = omega arith
number_positive NothingRunning = omega arith
number_positive RootNeverDies = omega arith
number_positive StillAlive = omega arith
number_positive AlreadyTold = omega arith
number_positive ShortBuffer = omega arith
number_positive AlreadyWaits = omega arith
number_positive VictimKnownDead = omega arith
number_positive NoMachineLeft = omega arith
number_positive NotNextMachine = omega arith
number_positive NoSuchRun = omega arith
number_positive ShortRunBuffer = omega arith

-- the answer that has a number
numbered : ℕ → Result Unit Refusal
numbered n = get_or (
    Ok tt ∷ Err ShortBook ∷ Err SizeOutOfRange ∷ Err BookLength ∷ Err IdentifierForm ∷ Err CheckDigit ∷ Err RepeatedIdentifier ∷
    Err TermOutsideRules ∷ Ok tt ∷ Err TableOutOfOrder ∷ Err MalformedEvent ∷ Err NumberTooLarge ∷ Err DeadMachine ∷ Err AlreadyAdmitted ∷
    Err OwnVictim ∷ Err NoneInFlight ∷ Err FullFlight ∷ Err AlreadyRunning ∷ Err NotInPool ∷ Err NothingRunning ∷ Err RootNeverDies ∷ Err StillAlive ∷
    Err AlreadyTold ∷ Err ShortBuffer ∷ Err AlreadyWaits ∷ Err VictimKnownDead ∷ Err NoMachineLeft ∷ Err NotNextMachine ∷ Err NoSuchRun ∷
    Err ShortRunBuffer ∷ []) n (Ok tt)

known : (r : Result Unit Refusal) → numbered (answer_of r) ≡ r
unfolding numbered
known (Ok x) = refl
known (Err ShortBook) = refl
known (Err SizeOutOfRange) = refl
known (Err BookLength) = refl
known (Err IdentifierForm) = refl
known (Err CheckDigit) = refl
known (Err RepeatedIdentifier) = refl
known (Err TermOutsideRules) = refl
known (Err TableOutOfOrder) = refl
known (Err MalformedEvent) = refl
known (Err NumberTooLarge) = refl
known (Err DeadMachine) = refl
known (Err AlreadyAdmitted) = refl
known (Err OwnVictim) = refl
known (Err NoneInFlight) = refl
known (Err FullFlight) = refl
known (Err AlreadyRunning) = refl
known (Err NotInPool) = refl
known (Err NothingRunning) = refl
known (Err RootNeverDies) = refl
known (Err StillAlive) = refl
known (Err AlreadyTold) = refl
known (Err ShortBuffer) = refl
known (Err AlreadyWaits) = refl
known (Err VictimKnownDead) = refl
known (Err NoMachineLeft) = refl
known (Err NotNextMachine) = refl
known (Err NoSuchRun) = refl
known (Err ShortRunBuffer) = refl

-- two answers with one number are the same
pub answer_known : (a b : Result Unit Refusal) → answer_of a ≡ answer_of b → a ≡ b
answer_known a b h = cc (ap numbered h, known a, known b)
