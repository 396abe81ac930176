-- `snapshot::step` meets its contract. By the three ways in which it ends. Assumes nothing.
use mathlib.Core.Path.{◌≡◌, ◌∙◌}
use native.Mathlib.Omega.{arith}
use borrow.Author.Rules.{rules}
use Rattle.refusal.specs.Numbers.{number_of, answer_of}
use Rattle.refusal.proofs.Numbers.{number_positive}
use Rattle.snapshot.proofs.Answers.{decodable_length, unread, refused, accepted}
use Rattle.snapshot.proofs.Parts.{Small}
use Rattle.snapshot.proofs.Changes.{passed_from, slots_most, changes_all}
use Rattle.snapshot.proofs.step.Goals as goal

pub returns-in_err-t : goal.returns-in_err-t
returns-in_err-t c =
    let r = c.in_err-t.field-0.0 in
    let v : answer_of c.from_residual.result ≡ number_of r = search rules in
    let n = c.in_err-t.ensures.number in
    let z = number_positive r in
    let p = unread c.args.table.now c.args.event.now (λ k. omega (arith, n, k)) in
    record { value = v ∙ n ∙ p.0; table_after = p.1 }

pub returns-in_err-apply : goal.returns-in_err-apply
returns-in_err-apply c =
    let r = c.in_err-apply.field-0.0 in
    let v : answer_of c.from_residual-in_err-apply.result ≡ number_of r = search rules in
    let k = c.in_ok-t.ensures.table in
    let z = number_positive r in
    let p = refused c.args.table.now c.args.event.now c.in_ok-t.t k.0 k.1 (number_of r) c.in_err-apply.ensures.number (λ e. omega arith) in
    record { value = v ∙ p.0; table_after = p.1 }

pub apply-requires : goal.apply-requires
apply-requires c = let k = c.in_ok-t.ensures.table in passed_from c.args.table.now c.in_ok-t.t k.1 k.2

pub put_changes-requires : goal.put_changes-requires
put_changes-requires c =
    let k = c.in_ok-t.ensures.table in
    let small : Small c.args.table.now = λ i. search rules in
    let m = slots_most c.args.table.now c.args.event.now c.in_ok-t.t c.apply.new.t k.0 k.1 k.2 c.in_ok-apply.ensures.table_after small in
    (omega (arith, c.max-n.ensures), decodable_length _ k.0)

pub returns : goal.returns
returns c =
    let s = c.args.table.now in
    let e = c.args.event.now in
    let t = c.in_ok-t.t in
    let u = c.apply.new.t in
    let k = c.in_ok-t.ensures.table in
    let q = c.in_ok-apply.ensures.table_after in
    let small : Small s = λ i. search rules in
    let m = slots_most s e t u k.0 k.1 k.2 q small in
    let n = c.max-n.result in
    let w = changes_all s e t u k.0 k.1 k.2 q small n (omega (arith, c.max-n.ensures)) (omega (arith, c.max-n.ensures)) (omega (arith, c.max-n.ensures)) in
    let p = accepted s e t k.0 k.1 u c.put_changes.new.out c.in_ok-apply.ensures.number q (c.put_changes.ensures ∙ w) in
    record { value = p.0; table_after = p.1 }
