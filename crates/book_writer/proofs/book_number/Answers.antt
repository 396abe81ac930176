-- `book_writer::book_number` meets its contract: each return is a case of the definition. Assumes nothing.
use Prim.Native.Nat.{ℕ, ◌+◌, ◌-◌, ◌≤◌, ◌<◌}
use mathlib.Core.Path.{◌≡◌, sym, ◌∙◌}
use mathlib.Core.Logic.{◌≢◌}
use mathlib.Core.Bool.{cond}
use mathlib.Core.List.{List}
use native.Mathlib.Omega.{arith}
use borrow.Author.Tests.{le-leb, lt-leb, lt-ltb, le-ltb, ne_eqb}
use lib.Dec.{ltb}
use lib.ListN.{length, get_or}
use Rattle.refusal.proofs.Passed.{passed_on, not_zero}
use Rattle.book.specs.Book.{book_verdict}
use Rattle.book.specs.Parts.{entry_count_of}
use Rattle.book.specs.Entry.{entry_fault}
use Rattle.book.proofs.Accepted.{whole_length, count_byte}
use Rattle.book_writer.specs.Writer.{book_number}
use Rattle.book_writer.proofs.Answers.{longer}
use borrow.Author.Rules.{rules}
use Rattle.book_writer.proofs.book_number.Goals as goal

-- the cases of the definition, with the entry count of an accepted book read in byte 2
module _ (s : List ℕ) (size : ℕ) (id term : List ℕ) where
  by_book : book_verdict s ≢ 0 → book_number s size id term ≡ book_verdict s
  unfolding book_number
  by_book h = rw (ne_eqb (book_verdict s) 0 h)

  module _ (e : 0 ≡ book_verdict s) where
    count_is : get_or s 2 0 ≡ entry_count_of s
    count_is = count_byte s (sym e)

    by_count : 64 ≤ get_or s 2 0 → book_number s size id term ≡ 2
    unfolding book_number
    by_count h = rw (← e, ← count_is, le-leb 64 (get_or s 2 0) h)

    by_entry : get_or s 2 0 < 64 → entry_fault s (get_or s 2 0) id term ≢ 0 → book_number s size id term ≡ entry_fault s (get_or s 2 0) id term
    unfolding book_number
    by_entry h d = rw (← e, ← count_is, lt-leb 64 (get_or s 2 0) h, ne_eqb (entry_fault s (get_or s 2 0) id term) 0 d)

    -- what is left is the test of the room: the grown book has 31 bytes more
    by_room : get_or s 2 0 < 64 → 0 ≡ entry_fault s (get_or s 2 0) id term → book_number s size id term ≡ cond (ltb size (length s + 31)) 23 0
    unfolding book_number
    by_room h f =
        let n = count_is in
        rw (← e, longer s id term (sym e) (rw n at (sym f)), ← n, lt-leb 64 (get_or s 2 0) h, ← f)

-- the test of the room, without a sum that might not fit a number
shorter : (a b : ℕ) → a ≤ b → b - a < 31 → b < a + 31
shorter a b h k = omega arith

enough : (a b : ℕ) → a ≤ b → 31 ≤ b - a → a + 31 ≤ b
enough a b h k = omega arith

pub returns-in_err-verdict : goal.returns-in_err-verdict
returns-in_err-verdict c =
    let e = c.in_err-verdict.ensures in
    passed_on _ _ c.from_residual.ensures ∙ e ∙ sym (by_book _ _ _ _ (not_zero c.in_err-verdict.field-0.0 _ e))

pub bounds-s-2 : goal.bounds-s-2
bounds-s-2 c = let w = whole_length _ (sym c.in_ok-verdict.ensures) in omega (arith, w)

pub returns-then-n-ge64 : goal.returns-then-n-ge64
returns-then-n-ge64 c = sym (by_count _ _ _ _ c.in_ok-verdict.ensures c.if-n-ge64.true)

pub entry_fault-requires : goal.entry_fault-requires
entry_fault-requires c =
    let e = sym c.in_ok-verdict.ensures in
    omega (arith, whole_length _ e, count_byte _ e)

pub returns-in_err-entry_fault : goal.returns-in_err-entry_fault
returns-in_err-entry_fault c =
    let e = c.in_err-entry_fault.ensures in
    passed_on _ _ c.from_residual-in_err-entry_fault.ensures ∙ e
    ∙ sym (by_entry _ _ _ _ c.in_ok-verdict.ensures c.if-n-ge64.false (not_zero c.in_err-entry_fault.field-0.0 _ e))

pub returns-then-size-s-lt31 : goal.returns-then-size-s-lt31
returns-then-size-s-lt31 c =
    let n = get_or c.args.s.now 2 0 in
    let f : 0 ≡ entry_fault c.args.s.now n c.args.id.now c.args.term.now = search rules in
    sym (by_room _ _ _ _ c.in_ok-verdict.ensures c.if-n-ge64.false f ∙ rw (lt-ltb _ _ (shorter _ _ (search rules) c.if-size-s-lt31.true)))

pub returns : goal.returns
returns c =
    sym (by_room _ _ _ _ c.in_ok-verdict.ensures c.if-n-ge64.false c.in_ok-entry_fault.ensures
    ∙ rw (le-ltb _ _ (enough _ _ (search rules) c.if-size-s-lt31.false)))
