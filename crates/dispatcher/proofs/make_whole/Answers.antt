-- `dispatcher::make_whole` meets its contract: what the refusals of Die, Notice and Join have tested gives each its numbers. Assumes nothing.
use mathlib.Core.Path.{◌≡◌, refl, sym, ap, ◌∙◌}
use mathlib.Core.Logic.{◌≢◌}
use mathlib.Core.Bool.{true}
use Prim.Native.Nat.{◌≤◌}
use native.Mathlib.Omega.{arith}
use Rattle.table.specs.declared.Table.{Table}
use Rattle.table.specs.Needs.{Ready}
use Rattle.event_join.proofs.Cases.{join_16}
use Rattle.dispatcher.specs.Apply.{Passed}
use Rattle.dispatcher.specs.Codes.{DIE}
use Rattle.dispatcher.specs.declared.Ask.{Ask}
use Rattle.dispatcher.specs.declared.Code.{Code}
use Rattle.dispatcher.specs.declared.Code.TheVariants.{Admit, Steal, Deliver, Start, Done, Die, Notice, Join}
use Rattle.dispatcher.specs.EventParts.{code_number, Asked, asked_event}
use Rattle.dispatcher.specs.Step.{indices_in_range, event_of}
use Rattle.dispatcher.proofs.Accepted.{table_die, table_notice, table_join}
use Rattle.dispatcher.proofs.Numbers.{machines_below}
use Rattle.dispatcher.proofs.Ready.{measured, ready}
use Rattle.dispatcher.proofs.make_whole.Goals as goal

fit : (t : Table) → Passed t → Ready t
fit t p = ready t (measured t p) p.ok

-- the event is that of the arm's code
module _ (t : Table) (q : Ask) (k : Asked t q) (z : (asked_event t q).number ≡ 0) (d : Code) (e : q.code ≡ d) where
  within : indices_in_range t (code_number d) q.a q.b ≡ true
  within = rw e at k.indices

  done : (event_of t (code_number d) q.a q.b).number ≡ 0
  done = rw e at z

  left : (u : Table) → u ≡ (event_of t (code_number d) q.a q.b).table → u ≡ (asked_event t q).table
  left u y = y ∙ ap (λ (x : Code). (event_of t (code_number x) q.a q.b).table) (sym e)

-- past Done, and no death and no notice: a join
last : (d : Code) → DIE ≤ code_number d → d ≢ Die → d ≢ Notice → d ≡ Join
last Admit h x y = absurd (omega arith)
last Steal h x y = absurd (omega arith)
last Deliver h x y = absurd (omega arith)
last Start h x y = absurd (omega arith)
last Done h x y = absurd (omega arith)
last Die h x y = absurd (x refl)
last Notice h x y = absurd (y refl)
last Join h x y = refl

pub died-requires : goal.died-requires
died-requires c =
    let p = c.requires in
    let f = fit _ p.passed in
    ((machines_below _ f _ _ _ (within _ _ p.asked p.accepted.1 Die c.in-Die.is) refl).0, f.flight)

pub returns-in-Die : goal.returns-in-Die
returns-in-Die c =
    let p = c.requires in
    let w = within _ _ p.asked p.accepted.1 Die c.in-Die.is in
    left _ _ p.asked p.accepted.1 Die c.in-Die.is _ (c.died.ensures ∙ (table_die _ _ _ _ w (done _ _ p.asked p.accepted.1 Die c.in-Die.is) refl).1)

pub noticed-requires : goal.noticed-requires
noticed-requires c =
    let p = c.requires in
    let w = within _ _ p.asked p.accepted.1 Notice c.in-Notice.is in
    let y = (table_notice _ _ _ _ w (done _ _ p.asked p.accepted.1 Notice c.in-Notice.is) refl).0 in
    record { ready = fit _ p.passed; a_bound = (y.machine, y.named) }

pub returns-in-Notice : goal.returns-in-Notice
returns-in-Notice c =
    let p = c.requires in
    let w = within _ _ p.asked p.accepted.1 Notice c.in-Notice.is in
    left _ _ p.asked p.accepted.1 Notice c.in-Notice.is _ (c.noticed.ensures ∙ (table_notice _ _ _ _ w (done _ _ p.asked p.accepted.1 Notice c.in-Notice.is) refl).1)

pub joined-requires : goal.joined-requires
joined-requires c =
    let p = c.requires in
    let e = last _ p.accepted.0 c.in_default.not-Die c.in_default.not-Notice in
    let y = (table_join _ _ _ _ (within _ _ p.asked p.accepted.1 Join e) (done _ _ p.asked p.accepted.1 Join e) refl).0 in
    (join_16 _ _ y, y.room)

pub returns-in_default : goal.returns-in_default
returns-in_default c =
    let p = c.requires in
    let e = last _ p.accepted.0 c.in_default.not-Die c.in_default.not-Notice in
    left _ _ p.asked p.accepted.1 Join e _ (c.joined.ensures ∙ (table_join _ _ _ _ (within _ _ p.asked p.accepted.1 Join e) (done _ _ p.asked p.accepted.1 Join e) refl).1)
