-- A snapshot: the bytes in which a table is kept between calls, in the order of document 01, "The table", and the table that they stand for. What
-- document 02 has the table keep stands before the messages, which may be written in part.
-- Definitions only. Numbers of more than one byte are little-endian, as in the book. docs/LAYOUT.md has the sizes and places as numbers.
use Rattle.std.specs.Prelude.{ℕ, ◌+◌, ◌*◌, Bool, false, cond, ◌&&◌, ◌||◌, List, eqb, length, get_or, Float}
use Rattle.std.specs.Float.{binary64}
use Rattle.std.specs.Float.Ieee.{of_bits}
use Rattle.endian.specs.Endian.{le64}
use Rattle.lists.specs.Scan.{all, tabulate}
use Rattle.pricer.specs.declared.Bond.{Bond}
use Rattle.pricer.specs.declared.Terms.{Terms}
use Rattle.pricer.specs.declared.Terms.TheVariants.{Zero, Fixed}
use Rattle.table.specs.declared.Job.{Job}
use Rattle.table.specs.declared.Machine.{Machine}
use Rattle.table.specs.declared.Message.{Message}
use Rattle.table.specs.declared.Table.{Table}

-- ---- the size of each element, and where in it its numbers of 8 bytes are

-- after case, periods and payments
abbrev pub coupon_at : ℕ
coupon_at = 3

-- after the coupon's 8 bytes
abbrev pub yield_at : ℕ
yield_at = coupon_at + 8

-- with its last 8 bytes
abbrev pub bond_size : ℕ
bond_size = yield_at + 8

-- after state, replica, moving, holder and thief
abbrev pub job_price_at : ℕ
job_price_at = 5

-- with its last 8 bytes
abbrev pub job_size : ℕ
job_size = job_price_at + 8

-- alive, reserved job, replica and thief, running job and replica, waits: a byte each
abbrev pub machine_size : ℕ
machine_size = 7

-- after kind, from, to, job, replica and thief
abbrev pub message_price_at : ℕ
message_price_at = 6

-- with its last 8 bytes
abbrev pub message_size : ℕ
message_size = message_price_at + 8

-- ---- where each region starts: where the one before it ends. First the machine count and the entry count

abbrev pub bonds_start : ℕ
bonds_start = 2

abbrev pub jobs_start : ℕ
jobs_start = bonds_start + 64 * bond_size

abbrev pub machines_start : ℕ
machines_start = jobs_start + 64 * job_size

abbrev pub told_start : ℕ
told_start = machines_start + 16 * machine_size

abbrev pub pools_start : ℕ
pools_start = told_start + 256

-- the number of messages in flight
abbrev pub used_start : ℕ
used_start = pools_start + 1024

-- the number of open jobs
abbrev pub open_start : ℕ
open_start = used_start + 1

abbrev pub messages_start : ℕ
messages_start = open_start + 1

-- how many bytes a snapshot has
abbrev pub table_size : ℕ
table_size = messages_start + 128 * message_size

-- element i of each array
abbrev pub bond_start : ℕ → ℕ
bond_start i = bonds_start + bond_size * i

abbrev pub job_start : ℕ → ℕ
job_start i = jobs_start + job_size * i

abbrev pub machine_start : ℕ → ℕ
machine_start i = machines_start + machine_size * i

abbrev pub message_start : ℕ → ℕ
message_start i = messages_start + message_size * i

-- ---- one element, its bytes from index `at` on

-- the number that the 64 bits at an index stand for
abbrev pub number_at : List ℕ → ℕ → Float
number_at s at = of_bits binary64 (le64 s at)

-- by the case, 0 zero-coupon, 1 fixed: coupon and yield
unfoldable pub terms_from : List ℕ → ℕ → Terms
terms_from s at =
    cond (eqb (get_or s at 0) 0) (Zero (number_at s (at + yield_at)))
    (Fixed (number_at s (at + coupon_at)) (number_at s (at + yield_at)))

-- "the terms of each entry": case, periods, payments, coupon, yield
unfoldable pub bond_from : List ℕ → ℕ → Bond
bond_from s at = record { periods = get_or s (at + 1) 0; payments = get_or s (at + 2) 0; terms = terms_from s at }

-- "for each job": state, replica, moving, holder, thief, price bits
unfoldable pub job_from : List ℕ → ℕ → Job
job_from s at = record {
  state = get_or s at 0;
  replica = get_or s (at + 1) 0;
  moving = get_or s (at + 2) 0;
  holder = get_or s (at + 3) 0;
  thief = get_or s (at + 4) 0;
  price = le64 s (at + job_price_at);
}

-- "for each machine": alive, the reserved copy (job, replica, thief), the running copy (job, replica), waits
unfoldable pub machine_from : List ℕ → ℕ → Machine
machine_from s at = record {
  alive = get_or s at 0;
  reserved_job = get_or s (at + 1) 0;
  reserved_replica = get_or s (at + 2) 0;
  reserved_thief = get_or s (at + 3) 0;
  running_job = get_or s (at + 4) 0;
  running_replica = get_or s (at + 5) 0;
  waits = get_or s (at + 6) 0;
}

-- a message: kind, from, to, job, replica, thief, price bits
unfoldable pub message_from : List ℕ → ℕ → Message
message_from s at = record {
  kind = get_or s at 0;
  from = get_or s (at + 1) 0;
  to = get_or s (at + 2) 0;
  job = get_or s (at + 3) 0;
  replica = get_or s (at + 4) 0;
  thief = get_or s (at + 5) 0;
  price = le64 s (at + message_price_at);
}

-- ---- the arrays

unfoldable pub bonds_from : List ℕ → List Bond
bonds_from s = tabulate (λ i. bond_from s (bond_start i)) 64

unfoldable pub jobs_from : List ℕ → List Job
jobs_from s = tabulate (λ i. job_from s (job_start i)) 64

unfoldable pub machines_from : List ℕ → List Machine
machines_from s = tabulate (λ i. machine_from s (machine_start i)) 16

-- "which dead machines it has been told of"
unfoldable pub told_from : List ℕ → List ℕ
told_from s = tabulate (λ i. get_or s (told_start + i) 0) 256

-- "a pool (per job a replica number, 0 for none)"
unfoldable pub pools_from : List ℕ → List ℕ
pools_from s = tabulate (λ i. get_or s (pools_start + i) 0) 1024

unfoldable pub messages_from : List ℕ → List Message
messages_from s = tabulate (λ i. message_from s (message_start i)) 128

-- ---- the whole

-- the table that the bytes stand for
unfoldable pub decode : List ℕ → Table
decode s = record {
  machine_count = get_or s 0 0;
  entry_count = get_or s 1 0;
  bonds = bonds_from s;
  jobs = jobs_from s;
  machines = machines_from s;
  told = told_from s;
  pools = pools_from s;
  in_flight = get_or s used_start 0;
  messages = messages_from s;
  open_jobs = get_or s open_start 0;
}

-- the case is zero-coupon with "all 64 bits clear" for a coupon, or fixed
unfoldable pub terms_decodable : List ℕ → ℕ → Bool
terms_decodable s at = eqb (get_or s at 0) 0 && eqb (le64 s (at + coupon_at)) 0 || eqb (get_or s at 0) 1

-- the bytes are those of a table: their number, and the case of each entry
unfoldable pub decodable : List ℕ → Bool
decodable s = cond (eqb (length s) table_size) (all (λ i. terms_decodable s (bond_start i)) 64) false
