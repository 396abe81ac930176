-- `book_term::from_fields` meets its contract: a NaN's bits are refused by the definition too, and past them each return is its case.
-- Assumes nothing.
use mathlib.Core.Path.{sym}
use native.Mathlib.Omega.{arith}
use borrow.Author.Tests.{eq-eqb, ne_eqb}
use Rattle.book_term.specs.Term.{term_from}
use Rattle.book_term.proofs.Nans.{yield_refused, coupon_refused, number}
use Rattle.book_term.proofs.from_fields.Goals as goal

pub returns-then-is_nan : goal.returns-then-is_nan
returns-then-is_nan c = sym (yield_refused _ _ _ (sym c.if-is_nan.ensures) _)

pub float_from_bits-y : goal.float_from_bits-y
float_from_bits-y c = number _ c.if-is_nan.ensures

pub returns-in-1 : goal.returns-in-1
unfolding term_from
returns-in-1 c = rw (c.in-1.is, ne_eqb c.args.coupon 0 c.if-coupon-ne0.true)

pub returns-in-1-2 : goal.returns-in-1-2
unfolding term_from
returns-in-1-2 c = rw (c.in_rules.ensures, c.with_terms.ensures, c.in-1.is, eq-eqb c.args.coupon 0 c.if-coupon-ne0.false)

pub returns-in-2 : goal.returns-in-2
unfolding term_from
returns-in-2 c = rw (c.in-2.is, coupon_refused c.args.b c.args.coupon c.args.ytm (sym c.if-is_nan-2.ensures))

pub float_from_bits-c : goal.float_from_bits-c
float_from_bits-c c = number _ c.if-is_nan-2.ensures

pub returns-in-2-2 : goal.returns-in-2-2
unfolding term_from
returns-in-2-2 c = rw (c.in_rules-in-2-2.ensures, c.with_terms-in-2-2.ensures, c.in-2.is)

pub returns-in_default : goal.returns-in_default
unfolding term_from
returns-in_default c = rw (ne_eqb c.args.kind 1 (λ e. omega arith), ne_eqb c.args.kind 2 (λ e. omega arith))
