-- One event more among the lines of the refused ones: its line, and how long the lines are at most. Assumes nothing.
use Prim.Native.Nat.{ℕ, zero, suc, ◌+◌, ◌*◌, ◌≤◌, ◌<◌}
use mathlib.Core.Path.{◌≡◌, refl, sym, ap, ◌∙◌}
use mathlib.Core.Logic.{◌≢◌}
use mathlib.Core.List.{List, [], ◌∷◌, ◌++◌, append_assoc, append-nil}
use native.Mathlib.Nat.{add-zero}
use native.Mathlib.Numerals.{add-one}
use native.Mathlib.Omega.{arith}
use Rattle.std.proofs.lemmas.Bool.Decides.{nat_tests}
use borrow.Author.Tests.{eq-eqb, ne_eqb}
use lib.ListN.{length, get_or, take, length-append}
use lib.Seq.{take-suc, take_all, take_at, length-take-le}
use Rattle.page_lines.specs.Lines.{event_refused_line}
use Rattle.page_lines.proofs.Longest.{event_most}
use Rattle.table.specs.declared.Table.{Table}
use Rattle.dispatcher.specs.Events.{event_count, events_in}
use Rattle.dispatcher.specs.Step.{step_of, answers_of}
use Rattle.dispatcher.proofs.Bytes.{events_length}
use Rattle.dispatcher.proofs.Events.{number_most}
use Rattle.dispatcher.proofs.Runs.{answers_length}
use Rattle.text.specs.declared.Cursor.{Cursor}
use Rattle.text.specs.Cursor.{Writes}
use Rattle.text.proofs.Over.{over_none}
use Rattle.text.proofs.Writes.{then}
use Rattle.page_run.specs.Run.{refusal, refusals}

-- ---- the line of one event

pub refusal_none : (place n : ℕ) → n ≡ 0 → [] ≡ refusal place n
unfolding refusal
refusal_none place n e = rw (eq-eqb n 0 e)

pub refusal_some : (place n : ℕ) → n ≢ 0 → event_refused_line place n ≡ refusal place n
unfolding refusal
refusal_some place n e = rw (ne_eqb n 0 e)

pub refusal_most : (place n : ℕ) → n ≤ 99 → length (refusal place n) ≤ 23
unfolding refusal
refusal_most place n h = grind (arith, nat_tests, event_most place n)

-- ---- the lines of several

refusals_last : (place : ℕ) (ns : List ℕ) (n : ℕ) → refusals place (ns ++ (n ∷ [])) ≡ refusals place ns ++ refusal (place + length ns) n
unfolding refusals
refusals_last place [] n = append-nil (refusal place n) ∙ ap (λ (k : ℕ). refusal k n) (sym (add-zero place))
refusals_last place (m ∷ ns) n =
    let e : place + 1 + length ns ≡ place + suc (length ns) = omega arith in
    ap (λ (x : List ℕ). refusal place m ++ x) (refusals_last (place + 1) ns n)
    ∙ sym (append_assoc (refusal place m) (refusals (place + 1) ns) (refusal (place + 1 + length ns) n))
    ∙ ap (λ (k : ℕ). refusal place m ++ refusals (place + 1) ns ++ refusal k n) e

pub refusals_most_lem : (place : ℕ) (t : Table) (es : List (List ℕ)) → length (refusals place (answers_of t es)) ≤ 23 * length es
unfolding refusals answers_of
refusals_most_lem place t [] = omega arith
refusals_most_lem place t (e ∷ es) =
    let r = refusal place (step_of t e).number in
    omega (
      arith,
      length-append r (refusals (place + 1) (answers_of (step_of t e).table es)),
      refusal_most place (step_of t e).number (number_most t e),
      refusals_most_lem (place + 1) (step_of t e).table es,
    )

-- a number has at most two digits
pub answers_most : (t : Table) (es : List (List ℕ)) (i : ℕ) → get_or (answers_of t es) i 0 < 100
unfolding answers_of
answers_most t [] i = omega arith
answers_most t (e ∷ es) zero = omega (arith, number_most t e)
answers_most t (e ∷ es) (suc i) = answers_most (step_of t e).table es i

-- the numbers of a run stand at the front of what it leaves
pub front : (t : Table) (s l d : List ℕ) → l ≡ answers_of t (events_in s) ++ d → take (event_count s) l ≡ answers_of t (events_in s)
front t s l d e =
    let n = answers_length t (events_in s) ∙ events_length s in
    rw e (take_at (answers_of t (events_in s)) d (event_count s) n)

-- ---- in a loop

-- the lines of the first k of these numbers are written through the cursor a, which is now b
pub record Lines (ns : List ℕ) (a : Cursor) (k : ℕ) (b : Cursor) : Type 0 where
  pub lines : Writes a (refusals 1 (take k ns)) b
  pub most : b.at ≤ a.at + 23 * k

module _ (ns : List ℕ) (a : Cursor) where
  pub lines_none : Lines ns a 0 a
  unfolding refusals
  lines_none =
      record {
        lines = record { same = refl; long = refl; written = record { text = sym (over_none a.out.now a.at); end = sym (add-zero a.at) } };
        most = omega arith;
      }

  module _ (k : ℕ) (b : Cursor) (p : Lines ns a k b) (h : k < length ns) where
    next : refusals 1 (take k ns) ++ refusal (k + 1) (get_or ns k 0) ≡ refusals 1 (take (k + 1) ns)
    next =
        let l : 1 + length (take k ns) ≡ k + 1 = omega (arith, length-take-le k ns (omega arith)) in
        ap (λ (n : ℕ). refusals 1 (take k ns) ++ refusal n (get_or ns k 0)) (sym l)
        ∙ sym (refusals_last 1 (take k ns) (get_or ns k 0))
        ∙ ap (refusals 1) (sym (take-suc ns k 0 h) ∙ ap (λ (n : ℕ). take n ns) (sym (add-one k)))

    pub lines_same : get_or ns k 0 ≡ 0 → Lines ns a (k + 1) b
    lines_same z =
        let w : refusals 1 (take k ns) ≡ refusals 1 (take (k + 1) ns) =
        sym (append-nil (refusals 1 (take k ns))) ∙ ap (λ (x : List ℕ). refusals 1 (take k ns) ++ x) (refusal_none (k + 1) _ z) ∙ next in
        record { lines = rw w at p.lines; most = omega (arith, p.most) }

    pub lines_more : (c : Cursor) → get_or ns k 0 ≢ 0 → get_or ns k 0 < 100 → a.at + 23 * (k + 1) ≤ length a.out.now
        → Writes b (event_refused_line (k + 1) (get_or ns k 0)) c → Lines ns a (k + 1) c
    lines_more c z n room w =
        let x : refusals 1 (take k ns) ++ event_refused_line (k + 1) (get_or ns k 0) ≡ refusals 1 (take (k + 1) ns) =
        ap (λ (l : List ℕ). refusals 1 (take k ns) ++ l) (refusal_some (k + 1) _ z) ∙ next in
        let m = event_most (k + 1) (get_or ns k 0) (omega arith) in
        let e = length-append (refusals 1 (take k ns)) (event_refused_line (k + 1) (get_or ns k 0)) in
        let g : Writes a (refusals 1 (take k ns) ++ event_refused_line (k + 1) (get_or ns k 0)) c =
        then p.lines w (omega (arith, p.most, p.lines.written.end, e)) in
        record { lines = rw x at g; most = omega (arith, p.most, w.written.end) }

  -- past the last number the lines of all of them are written
  pub lines_end : (k : ℕ) (b : Cursor) → length ns ≤ k → Lines ns a k b → Writes a (refusals 1 ns) b
  lines_end k b h p = rw (take_all k ns h) at p.lines
