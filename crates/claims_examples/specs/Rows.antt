-- Document 01, "Examples": the starred ones, in its order, each as what a definition gives and what the paper says. Definitions only.
use Rattle.std.specs.Prelude.{ℕ, List, [], ◌∷◌, ◌++◌, map, length, replicate}
use Rattle.std.specs.Float.{binary64}
use Rattle.std.specs.Float.Ieee.{of_bits}
use Rattle.isin.specs.Isin.{verdict_of}
use Rattle.pricer.specs.Price.{price_bits}
use Rattle.pricer.specs.declared.Bond.{Bond}
use Rattle.pricer.specs.declared.Terms.{Terms}
use Rattle.pricer.specs.declared.Terms.TheVariants.{Zero, Fixed}
use Rattle.book.specs.Book.{book_verdict}
use Rattle.table.specs.declared.Job.{Job}
use Rattle.table.specs.declared.Message.{Message}
use Rattle.table.specs.declared.Table.{Table}
use Rattle.table.specs.Views.{job_at, told_at, flight}
use Rattle.table.specs.Parts.{opened, message, REQ, DENIED, ACK}
use Rattle.table_opening.specs.Opening.{open_of}
use Rattle.dispatcher.specs.Codes.{ADMIT, STEAL, DELIVER, DIE, NOTICE}
use Rattle.dispatcher.specs.Step.{event, run_of, answers_of}

-- what a row speaks of
pub data Outcome : Type 0 where
  number : ℕ → Outcome
  numbers : List ℕ → Outcome
  price : ℕ → Outcome
  in_flight_of : List Message → Outcome
  job : Job → Outcome

-- what a definition gives, and what the paper says
pub data Row : Type 0 where
  row : Outcome → Outcome → Row

-- the two columns of a row
abbrev pub given_in : Row → Outcome
given_in (row g s) = g

abbrev pub stated_in : Row → Outcome
stated_in (row g s) = s

-- ---- identifiers

-- eight zeros, between ZZ and the last two digits a and b
abbrev pub zz : ℕ → ℕ → List ℕ
zz a b = 90 ∷ 90 ∷ 48 ∷ 48 ∷ 48 ∷ 48 ∷ 48 ∷ 48 ∷ 48 ∷ 48 ∷ a ∷ b ∷ []

-- "ZZ0000000016", "ZZ0000000024", "ZZ0000000017" and "US0378331005", in ASCII
abbrev pub zz16 : List ℕ
zz16 = zz 49 54

abbrev pub zz24 : List ℕ
zz24 = zz 50 52

abbrev pub zz17 : List ℕ
zz17 = zz 49 55

abbrev pub us : List ℕ
us = 85 ∷ 83 ∷ 48 ∷ 51 ∷ 55 ∷ 56 ∷ 51 ∷ 51 ∷ 49 ∷ 48 ∷ 48 ∷ 53 ∷ []

-- ---- prices

-- a bond of n periods with these terms, paid twice a year
abbrev pub bond : ℕ → Terms → Bond
bond n t = record { periods = n; payments = 2; terms = t }

-- "Coupon 4, yield 0, 2 periods": 4 has the bits 4010 0000 0000 0000
abbrev pub four : Bond
four = bond 2 (Fixed (of_bits binary64 0x4010_0000_0000_0000) (of_bits binary64 0))

-- "Zero, yield 0.5, 2 periods": 0.5 has the bits 3FE0 0000 0000 0000
abbrev pub zero_half : Bond
zero_half = bond 2 (Zero (of_bits binary64 0x3FE0_0000_0000_0000))

-- "Coupon 10, yield 0.5, 1 period": 10 has the bits 4024 0000 0000 0000
abbrev pub ten : Bond
ten = bond 1 (Fixed (of_bits binary64 0x4024_0000_0000_0000) (of_bits binary64 0x3FE0_0000_0000_0000))

-- ---- a book of so many machines and one entry: ZZ0000000016, coupon 4, yield 0, with these periods

abbrev pub book_with : ℕ → ℕ → List ℕ
book_with m n = m ∷ 0 ∷ 1 ∷ 0 ∷ zz16 ++ 2 ∷ n ∷ 0 ∷ 0 ∷ 0 ∷ 0 ∷ 0 ∷ 0 ∷ 0 ∷ 16 ∷ 64 ∷ 0 ∷ 0 ∷ 0 ∷ 0 ∷ 0 ∷ 0 ∷ 0 ∷ 0 ∷ []

-- ---- runs of three machines and one bond

abbrev pub book : List ℕ
book = book_with 3 2

abbrev pub fresh : Table
fresh = (open_of book).table

-- every one of these events is answered 0
abbrev pub all_accepted : List (List ℕ) → List ℕ
all_accepted es = replicate (length es) 0

-- machine 2 steals from the root, dies, and the root is told; the root's REQ for machine 2 is still in flight, from the root to itself
abbrev pub before_req : List (List ℕ)
before_req = event ADMIT 0 0 ∷ event STEAL 2 0 ∷ event DELIVER 2 0 ∷ event DIE 2 0 ∷ event NOTICE 0 2 ∷ []

-- and it is delivered
abbrev pub dead_thief : List (List ℕ)
dead_thief = before_req ++ event DELIVER 0 0 ∷ []

-- machine 1 steals the job from the root, and machine 2 from machine 1; machine 1 dies and the root is told before the ACK of machine 2 comes
abbrev pub before_ack : List (List ℕ)
before_ack =
    event ADMIT 0 0 ∷ event STEAL 1 0 ∷ event DELIVER 1 0 ∷ event DELIVER 0 0 ∷ event DELIVER 0 0 ∷ event DELIVER 0 1 ∷ event DELIVER 1 0
    ∷ event STEAL 2 1 ∷ event DELIVER 2 1 ∷ event DELIVER 1 0 ∷ event DELIVER 0 1 ∷ event DELIVER 1 2 ∷ event DIE 1 0 ∷ event NOTICE 0 1 ∷ []

-- and it comes
abbrev pub late_ack : List (List ℕ)
late_ack = before_ack ++ event DELIVER 2 0 ∷ []

-- ---- the rows

unfoldable pub rows : List Row
rows =
    -- "ZZ0000000016, ZZ0000000024 and US0378331005 pass"
    row (number (verdict_of zz16)) (number 0)
    ∷ row (number (verdict_of zz24)) (number 0)
    ∷ row (number (verdict_of us)) (number 0)
    -- "ZZ0000000017 is refused 5"
    ∷ row (number (verdict_of zz17)) (number 5)
    -- "Coupon 4, yield 0, 2 periods: 104." Prices are compared as their 64 bits
    ∷ row (price (price_bits four)) (price 0x405A_0000_0000_0000)
    -- "Zero, yield 0.5, 2 periods: 64."
    ∷ row (price (price_bits zero_half)) (price 0x4050_0000_0000_0000)
    -- "Coupon 10, yield 0.5, 1 period: 84."
    ∷ row (price (price_bits ten)) (price 0x4055_0000_0000_0000)
    -- "241 is refused 7"
    ∷ row (number (book_verdict (book_with 2 241))) (number 7)
    -- the book of the two runs below is accepted
    ∷ row (number (open_of book).number) (number 0)
    -- "Dead thief: its REQ reaches a root already told: DENIED." Every event is accepted; before the last one the REQ (job 0, replica 1, thief 2) is
    -- in flight and the root has been told of machine 2, after it the answer is in flight
    ∷ row (numbers (answers_of fresh dead_thief)) (numbers (all_accepted dead_thief))
    ∷ row (in_flight_of (flight (run_of fresh before_req))) (in_flight_of (message REQ 0 0 0 1 2 ∷ []))
    ∷ row (number (told_at (run_of fresh before_req) 0 2)) (number 1)
    ∷ row (in_flight_of (flight (run_of fresh dead_thief))) (in_flight_of (message DENIED 0 0 0 1 2 ∷ []))
    -- "Late ACK with an old replica: place unchanged." Every event is accepted; before the last one the ACK of machine 2 (job 0, replica 1) is in
    -- flight and the job is open with replica 2, on the root; after it the ACK is gone and the job is as before
    ∷ row (numbers (answers_of fresh late_ack)) (numbers (all_accepted late_ack))
    ∷ row (in_flight_of (flight (run_of fresh before_ack))) (in_flight_of (message ACK 2 0 0 1 0 ∷ []))
    ∷ row (job (job_at (run_of fresh before_ack) 0)) (job (opened 2))
    ∷ row (in_flight_of (flight (run_of fresh late_ack))) (in_flight_of [])
    ∷ row (job (job_at (run_of fresh late_ack) 0)) (job (opened 2))
    ∷ []

unfoldable pub given : List Outcome
unfolding rows
given = map given_in rows

unfoldable pub stated : List Outcome
unfolding rows
stated = map stated_in rows
