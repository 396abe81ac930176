-- `dispatcher::look_of` meets its contract. A table that passes check 9 gives each read what it asks. Assumes nothing.
use borrow.Author.Rules.{rules}
use mathlib.Core.Path.{◌≡◌}
use Rattle.table.specs.Views.{parts}
use Rattle.protocol_change.specs.Change.{parts_at}
use Rattle.dispatcher.specs.EventParts.{look_of}
use Rattle.dispatcher.proofs.Ready.{measured, ready, empty_past, within_any}
use Rattle.dispatcher.proofs.OnTable.{Placed}
use Rattle.dispatcher.proofs.Made.{look_placed}
use Rattle.dispatcher.proofs.look_of.Goals as goal
use Rattle.dispatcher.proofs.look_of.Goals.{After-place_of-place}

pub slot_of-slot-requires : goal.slot_of-slot-requires
slot_of-slot-requires c = let p = c.requires.passed in (ready _ (measured _ p) p.ok).flight

pub message_in-message-requires : goal.message_in-message-requires
message_in-message-requires c = let p = c.requires.passed in
    record { flight = (ready _ (measured _ p) p.ok).flight; empty = empty_past _ (measured _ p) p.ok }

pub lowest_for-low-requires : goal.lowest_for-low-requires
lowest_for-low-requires c = let p = c.requires.passed in
    rw c.message_in-message.ensures (within_any _ (measured _ p) p.ok c.slot_of-slot.result).to

-- what the code has read
seen : (c : After-place_of-place) → c.place_of-place.result ≡ (look_of c.args.t.now c.args.ask).place
unfolding look_of
seen c = rw (c.place_of-place.ensures, c.lowest_for-low.ensures, c.message_in-message.ensures, c.slot_of-slot.ensures)

within_arrays : (c : After-place_of-place) → Placed c.place_of-place.result
within_arrays c = rw (seen c) (look_placed _ c.requires.passed _ c.requires.asked)

pub offset_bounds-t-place : goal.offset_bounds-t-place
offset_bounds-t-place c = let p = within_arrays (goal.at.offset_bounds-t-place c).After-place_of-place in search rules

pub bounds-t-place : goal.bounds-t-place
bounds-t-place c = let p = within_arrays (goal.at.bounds-t-place c).After-place_of-place in search rules

pub offset_bounds-t-place-2 : goal.offset_bounds-t-place-2
offset_bounds-t-place-2 c = let p = within_arrays (goal.at.offset_bounds-t-place-2 c).After-place_of-place in search rules

pub bounds-t-place-2 : goal.bounds-t-place-2
bounds-t-place-2 c = let p = within_arrays (goal.at.bounds-t-place-2 c).After-place_of-place in search rules

pub overflow_mul-cell : goal.overflow_mul-cell
overflow_mul-cell c = let p = within_arrays (goal.at.overflow_mul-cell c).After-place_of-place in search rules

pub overflow_add-cell : goal.overflow_add-cell
overflow_add-cell c = let p = within_arrays (goal.at.overflow_add-cell c).After-place_of-place in search rules

pub bounds-t-place-3 : goal.bounds-t-place-3
bounds-t-place-3 c = let p = within_arrays (goal.at.bounds-t-place-3 c).After-place_of-place in search rules

pub bounds-t-place-4 : goal.bounds-t-place-4
bounds-t-place-4 c = let p = within_arrays (goal.at.bounds-t-place-4 c).After-place_of-place in search rules

pub offset_bounds-t-place-3 : goal.offset_bounds-t-place-3
offset_bounds-t-place-3 c = let p = within_arrays (goal.at.offset_bounds-t-place-3 c).After-place_of-place in search rules

pub bounds-t-place-5 : goal.bounds-t-place-5
bounds-t-place-5 c = let p = within_arrays (goal.at.bounds-t-place-5 c).After-place_of-place in search rules

pub returns : goal.returns
unfolding look_of parts_at parts
returns c = rw (c.place_of-place.ensures, c.lowest_for-low.ensures, c.message_in-message.ensures, c.slot_of-slot.ensures)
