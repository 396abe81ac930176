-- Demand 3 leaves no choice of what it speaks of: numbers and a table of which it holds are those that the run answers and returns.
-- Assumes nothing.
use Prim.Native.Nat.{ℕ, suc, ◌<◌}
use mathlib.Core.Path.{◌≡◌, sym, ap, ◌∙◌}
use mathlib.Core.List.{List, [], ◌∷◌, ◌++◌}
use native.Mathlib.Omega.{arith}
use lib.ListN.{length, take, drop, get_or}
use lib.Seq.{split_at, length-take-le, ext_get_or}
use Rattle.table.specs.declared.Table.{Table}
use Rattle.table_opening.specs.Opening.{open_of}
use Rattle.dispatcher.specs.Step.{run_of, answers_of}
use Rattle.claims.specs.Claims.{Demand3}
use Rattle.dispatcher.proofs.Runs.{answers_length, answer_at}

module _ (book : List ℕ) (events : List (List ℕ)) (numbers : List ℕ) (table : Table) (d : Demand3 book events numbers table) where
  abbrev t : Table
  t = (open_of book).table

  number_at : (i : ℕ) → i < length events → get_or numbers i 0 ≡ get_or (answers_of t events) i 0
  number_at i h =
      let front = take i events in
      let e = get_or events i [] in
      let back = drop (suc i) events in
      let split : events ≡ front ++ e ∷ back = split_at events i [] h in
      let n : length front ≡ i = length-take-le i events (omega arith) in
      ap (λ (k : ℕ). get_or numbers k 0) (sym n)
      ∙ (d.answers front e back split).number
      ∙ sym (answer_at t front e back)
      ∙ ap (λ (es : List (List ℕ)). get_or (answers_of t es) (length front) 0) (sym split)
      ∙ ap (λ (k : ℕ). get_or (answers_of t events) k 0) n

  pub only : (numbers ≡ answers_of t events) × (table ≡ run_of t events)
  only = (
    ext_get_or 0 numbers (answers_of t events) (d.each ∙ sym (answers_length t events)) (λ i l. number_at i (omega (arith, d.each))),
    d.returned,
  )
