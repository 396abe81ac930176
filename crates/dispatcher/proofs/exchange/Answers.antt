-- `dispatcher::exchange` meets its contract. Assumes nothing.
use borrow.Author.Rules.{rules}
use mathlib.Core.Path.{◌≡◌, ap, ◌∙◌}
use Prim.Native.Nat.{ℕ, ◌+◌, ◌≤◌, ◌<◌}
use native.Mathlib.Omega.{arith}
use lib.ListN.{length, set}
use Rattle.std.proofs.Common.{Option, None, unwrap_or}
use Rattle.table.specs.declared.Message.{Message}
use Rattle.table.specs.declared.Table.{Table}
use Rattle.table.specs.Views.{no_message, message_at, with_messages, parts}
use Rattle.protocol_change.specs.Change.{send_some}
use Rattle.protocol_messages.specs.InPlace.{taken, kept, stored, counted}
use Rattle.protocol_messages.proofs.InPlace.{moved_up, moved_none, moved_more, kept_least, kept_most, kept_next, kept_none, kept_full, settled_is, settled_full}
use Rattle.dispatcher.proofs.exchange.Goals as goal
use Rattle.dispatcher.proofs.exchange.Goals.{After-kept-keep, In-loop-i, After-counted-t}

-- how many stay
stay : (c : After-kept-keep) → c.kept-keep.result ≤ 128
stay c = let f = c.requires.flight in let h = kept_most c.args.slot c.args.t.now.in_flight in rw c.kept-keep.ensures (omega (arith, f.1))

pub loop-i-init : goal.loop-i-init
loop-i-init c = let f = c.requires.flight in moved_none _ _ (omega (arith, f.0, f.1, f.2))

-- what moves up comes from a slot
moves : (c : In-loop-i) → c.loop-i.i + 1 < 128
moves c =
    let l : c.loop-i.i < kept c.args.slot c.args.t.now.in_flight = rw c.kept-keep.ensures at c.loop-i-test.true in
    let n : c.loop-i.i + 1 < c.args.t.now.in_flight = kept_next _ _ _ c.loop-i.auto.i l in
    omega (arith, c.requires.flight.1)

pub offset_bounds-t-i : goal.offset_bounds-t-i
offset_bounds-t-i c = let h = moves (goal.at.offset_bounds-t-i c).In-loop-i in search rules

pub bounds-t-i : goal.bounds-t-i
bounds-t-i c = let h = moves (goal.at.bounds-t-i c).In-loop-i in search rules

pub offset_bounds-t-i-in-loop-i : goal.offset_bounds-t-i-in-loop-i
offset_bounds-t-i-in-loop-i c = let h = moves (goal.at.offset_bounds-t-i-in-loop-i c).In-loop-i in search rules

pub bounds-t-i-in-loop-i : goal.bounds-t-i-in-loop-i
bounds-t-i-in-loop-i c = let h = moves (goal.at.bounds-t-i-in-loop-i c).In-loop-i in search rules

pub loop-i-preserved : goal.loop-i-preserved
unfolding parts
loop-i-preserved c =
    let h = moves (goal.at.loop-i-preserved c).In-loop-i in
    moved_more _ _ _ _ c.loop-i.invariant c.loop-i.auto.i (omega (arith, c.requires.flight.0))

pub counted-t-requires : goal.counted-t-requires
counted-t-requires c = stay (goal.at.counted-t-requires c).After-kept-keep

-- the loop has come as far as those that stay; what is stored is read of the machine of the table before
ends : (c : After-counted-t) → (c.loop-i.i ≡ c.kept-keep.result) × (c.stored-last.result ≡ stored c.args.sent c.args.t.now.machines)
unfolding parts
ends c =
    let h = kept_least c.args.slot c.args.t.now.in_flight c.requires.flight.2 in
    let l : c.args.slot ≤ c.kept-keep.result = rw c.kept-keep.ensures h in
    (omega (arith, c.loop-i.auto.i-end l), c.stored-last.ensures ∙ ap (λ (y : Table). stored c.args.sent y.machines) c.loop-i.invariant)

module _ (t : Table) (slot : ℕ) (sent : Option Message) (long : length t.messages ≡ 128) (flight : t.in_flight ≤ 128) (most : slot ≤ t.in_flight)
    (empty : (i : ℕ) → t.in_flight ≤ i → message_at t i ≡ no_message) (v : Table) (i keep : ℕ) (l : Option Message)
    (hk : keep ≡ kept slot t.in_flight) (hv : v ≡ moved_up t slot i) (hi : i ≡ keep) (hl : l ≡ stored sent t.machines) where
  some : keep < 128 → with_messages v (counted keep l) (set v.messages keep (unwrap_or l no_message)) ≡ send_some (taken t slot) sent
  unfolding parts
  some b = rw (hv, hi, hl, hk) (settled_is t slot sent long flight empty most (rw hk at b))

  full : 128 ≤ keep → (128 ≤ t.in_flight → t.in_flight ≤ slot → stored sent t.machines ≡ None)
      → with_messages v (counted keep l) v.messages ≡ send_some (taken t slot) sent
  unfolding parts
  full b none =
      let g : 128 ≤ kept slot t.in_flight = rw hk at b in
      let f = kept_full slot t.in_flight flight g in
      rw (hv, hi, hl, hk) (settled_full t slot sent long flight empty (omega arith) (none (omega (arith, kept_none slot t.in_flight f)) f))

pub returns-then-keep-lt128 : goal.returns-then-keep-lt128
unfolding parts
returns-then-keep-lt128 c = let f = c.requires.flight in
    let w = ends (goal.at.returns-then-keep-lt128 c).After-counted-t in
    ap (λ (m : Message). with_messages c.loop-i.t c.counted-t.result (set c.loop-i.t.messages c.kept-keep.result m)) c.unwrap_or.ensures
    ∙ ap (λ (n : ℕ). with_messages c.loop-i.t n (set c.loop-i.t.messages c.kept-keep.result (unwrap_or c.stored-last.result no_message))) c.counted-t.ensures
    ∙ some c.args.t.now c.args.slot c.args.sent f.0 f.1 f.2 c.requires.empty _ _ _ _ c.kept-keep.ensures c.loop-i.invariant w.0 w.1 c.if-keep-lt128.true

pub returns-else-keep-lt128 : goal.returns-else-keep-lt128
unfolding parts
returns-else-keep-lt128 c = let f = c.requires.flight in
    let w = ends (goal.at.returns-else-keep-lt128 c).After-counted-t in
    ap (λ (n : ℕ). with_messages c.loop-i.t n c.loop-i.t.messages) c.counted-t.ensures
    ∙ full c.args.t.now c.args.slot c.args.sent f.0 f.1 f.2 c.requires.empty _ _ _ _ c.kept-keep.ensures c.loop-i.invariant w.0 w.1 c.if-keep-lt128.false
    c.requires.room
