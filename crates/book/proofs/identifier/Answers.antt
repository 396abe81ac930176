-- `book::identifier` meets its contract: a faulty book has no entry, and the identifiers of an accepted one are whole. Assumes nothing.
use Prim.Native.Nat.{◌≤◌, ◌<◌}
use mathlib.Core.Path.{◌≡◌, sym, ◌∙◌}
use native.Mathlib.Omega.{arith}
use Rattle.refusal.proofs.Passed.{passed_on, not_zero}
use Rattle.book.specs.Parts.{entry_count_of}
use Rattle.book.proofs.Accepted.{accepted, accepted_size, identifier_whole, identifier_below, identifier_past, identifier_refused}
use Rattle.book.proofs.Accepted.{number_refused, number_past, number_below, no_part}
use Rattle.book.proofs.identifier.Goals as goal
use Rattle.book.proofs.identifier.Goals.{After-u16_at-n, Else-n-i, Then-n-i}

pub returns-in_err-verdict : goal.returns-in_err-verdict
returns-in_err-verdict c =
    let e = c.in_err-verdict.ensures in
    let d = not_zero c.in_err-verdict.field-0.0 _ e in
    record {
      part = no_part _ c.from_residual.ensures.0 ∙ identifier_refused _ _ d;
      number = passed_on _ _ c.from_residual.ensures ∙ e ∙ number_refused _ _ d;
    }

pub u16_at-n-requires : goal.u16_at-n-requires
u16_at-n-requires c = let a = accepted _ (sym c.in_ok-verdict.ensures) in omega (arith, a.four)

-- what was read is the entry count
count : (c : After-u16_at-n) → c.u16_at-n.result ≡ entry_count_of c.args.s.now
count c = c.u16_at-n.ensures ∙ sym (accepted_size _ _ (sym c.in_ok-verdict.ensures))

past : (c : Then-n-i) → entry_count_of c.args.s.now ≤ c.args.i
past c = rw (count (goal.at.Then-n-i c).After-u16_at-n) at c.if-n-i.true

below : (c : Else-n-i) → c.args.i < entry_count_of c.args.s.now
below c = rw (count (goal.at.Else-n-i c).After-u16_at-n) at c.if-n-i.false

pub returns-then-n-i : goal.returns-then-n-i
returns-then-n-i c =
    let h = past (goal.at.returns-then-n-i c).Then-n-i in
    record { part = identifier_past _ _ h; number = number_past _ _ (sym c.in_ok-verdict.ensures) h }

pub identifier_at-requires : goal.identifier_at-requires
identifier_at-requires c = identifier_whole _ _ (below (goal.at.identifier_at-requires c).Else-n-i)

pub returns : goal.returns
returns c =
    let h = below (goal.at.returns c).Else-n-i in
    record { part = c.identifier_at.ensures ∙ identifier_below _ _ h; number = number_below _ _ h }
