-- Refusal 9, one element of the table at a time: which bond, job, machine, told flag and pool cell passes.
-- Each test is on numbers and on the one element. Machines is the machine count, entries the entry count, b the largest replica number allowed.
-- Message slots are in the crate `validity_message`;
-- the tests of whole arrays, and the list of document 01's conditions, are in the crate `validity`.
use Rattle.std.specs.Prelude.{ℕ, Bool, false, cond, ◌&&◌, ◌||◌, ltb, leb, eqb}
use Rattle.std.specs.Float.{binary64}
use Rattle.std.specs.Float.Ieee.{to_bits}
use Rattle.pricer.specs.declared.Bond.{Bond}
use Rattle.pricer.specs.declared.Terms.{Terms}
use Rattle.pricer.specs.declared.Terms.TheVariants.{Zero, Fixed}
use Rattle.pricer.specs.Range.{in_range}
use Rattle.table.specs.declared.Job.{Job}
use Rattle.table.specs.Parts.{NOT_ADMITTED, OPEN, PRICED}
use Rattle.table.specs.declared.Machine.{Machine}

-- ---- a copy

-- a job number in its range, and a replica number that is "at least 1" and not "above 1 + the deaths the root was told of"
abbrev pub copy_ok : ℕ → ℕ → ℕ → ℕ → Bool
copy_ok entries b job replica = ltb job entries && leb 1 replica && leb replica b

-- ---- "the terms of each entry"

-- all 64 bits clear
abbrev pub no_terms : Terms → Bool
no_terms (Zero y) = eqb (to_bits binary64 y) 0
no_terms (Fixed c y) = false

-- what stands where no entry is: no periods, no payments, and a zero's terms whose bits are clear
abbrev pub empty_bond : Bond → Bool
empty_bond x = eqb x.periods 0 && eqb x.payments 0 && no_terms x.terms

-- "term outside its range" for an entry, and "an entry's terms in a table hold one of these four" payments (document 02);
-- "an unused part not 0" past the last one
abbrev pub bond_ok : ℕ → ℕ → Bond → Bool
bond_ok entries j x = cond (ltb j entries) (in_range x) (empty_bond x)

-- ---- "for each job"

-- "a job not admitted has replica 0 and place 0", "a job not priced has price bits 0"
abbrev pub empty_job : Job → Bool
empty_job v = eqb v.state NOT_ADMITTED && eqb v.replica 0 && eqb v.moving 0 && eqb v.holder 0 && eqb v.thief 0 && eqb v.price 0

-- "open or priced"; "a job not priced has price bits 0"
abbrev pub admitted_ok : Job → Bool
admitted_ok v = eqb v.state OPEN && eqb v.price 0 || eqb v.state PRICED

-- "its place (on p, or moving from v to t)": machine numbers in their range, and no second one where the job is on p
abbrev pub place_ok : ℕ → Job → Bool
place_ok machines v = ltb v.holder machines && (eqb v.moving 0 && eqb v.thief 0 || eqb v.moving 1 && ltb v.thief machines)

-- not admitted, as every job past the last entry is; or open or priced
abbrev pub job_ok : ℕ → ℕ → ℕ → ℕ → Job → Bool
job_ok machines entries b j v = empty_job v || admitted_ok v && copy_ok entries b j v.replica && place_ok machines v

-- ---- "for each machine"

-- "a dead machine has .. no reserved copy, running copy or wait"; the same past the last machine
abbrev pub empty_machine : Machine → Bool
empty_machine n =
    eqb n.alive 0 && eqb n.reserved_job 0 && eqb n.reserved_replica 0 && eqb n.reserved_thief 0
    && eqb n.running_job 0 && eqb n.running_replica 0 && eqb n.waits 0

-- "at most one reserved copy (job, replica, thief)"
abbrev pub reserved_ok : ℕ → ℕ → ℕ → Machine → Bool
reserved_ok machines entries b n =
    eqb n.reserved_job 0 && eqb n.reserved_replica 0 && eqb n.reserved_thief 0
    || copy_ok entries b n.reserved_job n.reserved_replica && ltb n.reserved_thief machines

-- "at most one running copy"
abbrev pub running_ok : ℕ → ℕ → Machine → Bool
running_ok entries b n = eqb n.running_job 0 && eqb n.running_replica 0 || copy_ok entries b n.running_job n.running_replica

-- dead or past the last machine; or alive, with "the victim it waits on, if any" (its number and 1 more, or 0) in its range
abbrev pub machine_ok : ℕ → ℕ → ℕ → ℕ → Machine → Bool
machine_ok machines entries b m n =
    empty_machine n || ltb m machines && eqb n.alive 1 && leb n.waits machines && reserved_ok machines entries b n && running_ok entries b n

-- "which dead machines it has been told of": m and d are machines of the table, and d is not alive; x is the flag, alive is that of machine d
abbrev pub told_ok : ℕ → ℕ → ℕ → ℕ → ℕ → Bool
told_ok machines alive m d x = eqb x 0 || eqb x 1 && ltb m machines && ltb d machines && eqb alive 0

-- "a pool (per job a replica number, 0 for none)"; "a dead machine has an empty pool"
abbrev pub cell_ok : ℕ → ℕ → ℕ → ℕ → ℕ → Bool
cell_ok entries b alive j x = eqb x 0 || eqb alive 1 && copy_ok entries b j x
