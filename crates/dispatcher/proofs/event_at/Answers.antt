-- `dispatcher::event_at` meets its contract. Assumes nothing.
use Rattle.dispatcher.proofs.Bytes.{short_event, whole_event}
use Rattle.dispatcher.proofs.event_at.Goals as goal

pub returns-then-s-a-lt3 : goal.returns-then-s-a-lt3
returns-then-s-a-lt3 c = let a = c.args in short_event a.s.now a.k c.if-s-a-lt3.true

pub returns : goal.returns
returns c = let a = c.args in whole_event a.s.now a.k
