-- Refusal 9, one message slot: "up to 128 messages in flight". The kinds are numbered FISH, REQ, AUTH, DENIED, OBSOLETE, SCHEDULE, ACK, NOWORK,
-- RESULT from 1 to 9. Machines is the machine count, entries the entry count, b the largest replica number allowed.
use Rattle.std.specs.Prelude.{ℕ, Bool, cond, ◌&&◌, ◌||◌, not, ltb, leb, eqb}
use Rattle.table.specs.declared.Message.{Message}
use Rattle.table.specs.Parts.{FISH, REQ, OBSOLETE, ACK, RESULT}
use Rattle.validity_element.specs.Element.{copy_ok}

-- "unused slots are all 0"
abbrev pub empty_message : Message → Bool
empty_message m = eqb m.kind 0 && eqb m.from 0 && eqb m.to 0 && eqb m.job 0 && eqb m.replica 0 && eqb m.thief 0 && eqb m.price 0

-- REQ, AUTH, DENIED, OBSOLETE, SCHEDULE, ACK and RESULT carry job and replica
abbrev pub with_copy : ℕ → Bool
with_copy k = leb REQ k && leb k ACK || eqb k RESULT

-- "REQ (job, replica, t)"; "AUTH, DENIED, OBSOLETE repeat job, replica and thief"
abbrev pub with_thief : ℕ → Bool
with_thief k = leb REQ k && leb k OBSOLETE

-- "a REQ, ACK or RESULT"
abbrev pub to_root : ℕ → Bool
to_root k = eqb k REQ || eqb k ACK || eqb k RESULT

-- a kind; "RESULT carries job, replica and price", and no other kind a price
abbrev pub kind_ok : Message → Bool
kind_ok m = leb FISH m.kind && leb m.kind RESULT && (eqb m.kind RESULT || eqb m.price 0)

-- machine numbers in their range, and the root where the kind goes "to the root"
abbrev pub ends_ok : ℕ → Message → Bool
ends_ok machines m = ltb m.from machines && ltb m.to machines && (not (to_root m.kind) || eqb m.to 0)

-- a copy where the kind carries one, 0 where it does not
abbrev pub carries_ok : ℕ → ℕ → Message → Bool
carries_ok entries b m =
    with_copy m.kind && copy_ok entries b m.job m.replica || not (with_copy m.kind) && (eqb m.job 0 && eqb m.replica 0)

-- a thief where the kind carries one, 0 where it does not
abbrev pub thief_ok : ℕ → Message → Bool
thief_ok machines m = with_thief m.kind && ltb m.thief machines || not (with_thief m.kind) && eqb m.thief 0

-- a message whose kind, ends and copy are in their ranges, and in which what its kind has no use for is 0
abbrev pub message_ok : ℕ → ℕ → ℕ → Message → Bool
message_ok machines entries b m = kind_ok m && ends_ok machines m && carries_ok entries b m && thief_ok machines m

-- slot i of which `used` are in use; alive is that of the receiver: "a message to a dead machine"
abbrev pub slot_ok : ℕ → ℕ → ℕ → ℕ → ℕ → ℕ → Message → Bool
slot_ok machines entries b used i alive m = cond (leb used i) (empty_message m) (eqb alive 1 && message_ok machines entries b m)
