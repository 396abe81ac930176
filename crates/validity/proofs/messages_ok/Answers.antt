-- `validity::messages_ok` meets its contract. The flag lent is that of the receiver.
-- Assumes nothing.
use Rattle.std.proofs.Common.{rules, arith, ◌≡◌, get_or}
use Rattle.table.specs.Views.{parts, no_message}
use Rattle.validity_message.specs.Message.{slot_ok}
use Rattle.validity.specs.Validity.{messages_ok}
use Rattle.validity.proofs.messages_ok.Goals as goal

pub returns : goal.returns
unfolding messages_ok parts
returns c = c.every.ensures 128 no_message _ (omega arith) (λ i r h q.
    let t = c.args.t.now in
    let m = get_or t.messages i no_message in
    let e : r ≡ slot_ok t.machine_count t.entry_count c.args.b t.in_flight i (get_or c.args.alive.now m.to 0) m = search rules in
    cc (e, c.requires m.to))
