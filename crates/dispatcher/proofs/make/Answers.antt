-- `dispatcher::make` meets its contract: its three steps are those of the event (proofs/Made.antt). Assumes nothing.
use mathlib.Core.Path.{◌≡◌, ap, ◌∙◌}
use Rattle.table.specs.declared.Table.{Table}
use Rattle.table.specs.Views.{bond_at, parts}
use Rattle.protocol_change.specs.declared.Change.{Change}
use Rattle.protocol_change.specs.Change.{send_some}
use Rattle.protocol_messages.specs.InPlace.{taken}
use Rattle.dispatcher.specs.declared.Look.{Look}
use Rattle.dispatcher.specs.EventParts.{look_of, change_of, written}
use Rattle.dispatcher.proofs.Ready.{measured, ready, empty_past, open_fits}
use Rattle.dispatcher.proofs.OnTable.{steal_below}
use Rattle.dispatcher.proofs.Made.{look_placed, look_running, look_made, look_room, look_most, change, after}
use Rattle.dispatcher.proofs.make.Goals as goal
use Rattle.dispatcher.proofs.make.Goals.{After-change_of-change, After-write}

pub bounds-t-at : goal.bounds-t-at
bounds-t-at c = rw c.requires.looked (look_running _ c.requires.passed _ c.requires.asked)

pub change_of-change-requires : goal.change_of-change-requires
change_of-change-requires c = let p = c.requires.passed in steal_below _ (ready _ (measured _ p) p.ok) _ c.requires.asked

change_is : (c : After-change_of-change) → c.change_of-change.result ≡ change c.args.t.now c.requires.passed c.args.ask c.requires.asked
unfolding parts
change_is c =
    c.change_of-change.ensures
    ∙ ap (λ (v : Look). change_of c.args.ask v.parts v.message v.told v.low (bond_at c.args.t.now v.parts.machine.running_job)) c.requires.looked

pub write-requires : goal.write-requires
write-requires c =
    let p = c.requires.passed in
    let w = look_placed _ p _ c.requires.asked in
    rw c.requires.looked (record { place_bounds = (p.jobs, w.machine, w.job); open_bounds = open_fits _ p.ok _ w.job })

after_is : (c : After-write) → c.write.new.u ≡ after c.args.t.now c.requires.passed c.args.ask c.requires.asked
after_is c =
    let v = look_of c.args.t.now c.args.ask in
    c.write.ensures
    ∙ ap (λ (w : Look). written c.args.t.now w.place.machine w.place.job c.change_of-change.result) c.requires.looked
    ∙ ap (λ (x : Change). written c.args.t.now v.place.machine v.place.job x) (change_is (goal.at.After-write c).After-change_of-change)

pub exchange-requires : goal.exchange-requires
unfolding parts
exchange-requires c =
    let p = c.requires.passed in
    let k = c.requires.asked in
    let a = c.requires.accepted in
    let s = measured _ p in
    rw (after_is (goal.at.exchange-requires c).After-write, change_is (goal.at.exchange-requires c).After-change_of-change, c.requires.looked)
    (record {
      flight = (p.messages, s.used, look_most _ _);
      empty = empty_past _ s p.ok;
      room = look_room _ p _ k a.0 a.1;
    })

pub returns : goal.returns
returns c =
    let a = c.requires.accepted in
    c.exchange.ensures
    ∙ ap (λ (u : Table). send_some (taken u c.args.at.slot) c.change_of-change.result.sent) (after_is (goal.at.returns c).After-write)
    ∙ rw (change_is (goal.at.returns c).After-change_of-change, c.requires.looked) (look_made _ c.requires.passed _ c.requires.asked a.0 a.1)
