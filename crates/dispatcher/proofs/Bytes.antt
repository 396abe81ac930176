-- The bytes of one event, as parts of the list; the bytes of a list of events, read as events again; and how many events there are. Assumes nothing.
use Prim.Native.Nat.{ℕ, zero, suc, ◌+◌, ◌-◌, ◌*◌, ◌/◌, ◌≤◌, ◌<◌}
use mathlib.Core.Path.{◌≡◌, refl, sym, ap, ◌∙◌}
use mathlib.Core.List.{List, [], ◌∷◌, ◌++◌, flatten}
use native.Mathlib.Nat.{not-suc-le-zero, le_of_suc-le-suc, mul-add-div}
use native.Mathlib.Omega.{arith}
use lib.ListN.{length, take, drop, get_or, length-append, length-drop}
use lib.Seq.{take_all, take-suc, take-length, take_at, drop_at, drop-drop}
use Rattle.lists.specs.Scan.{tabulate}
use Rattle.lists.proofs.Count.{Every}
use Rattle.lists.proofs.Scans.{length_tabulate}
use Rattle.dispatcher.specs.Events.{event_at, event_count, events_in}

module _ (s : List ℕ) (k : ℕ) where
  pub short_event : length s - 3 * k < 3 → take (length s - 3 * k) (drop (3 * k) s) ≡ event_at s k
  unfolding event_at
  short_event h =
      let l = length-drop (3 * k) s in
      take_all (length s - 3 * k) (drop (3 * k) s) (omega arith) ∙ sym (take_all 3 (drop (3 * k) s) (omega arith))

  pub whole_event : take (3 * k + 3 - 3 * k) (drop (3 * k) s) ≡ event_at s k
  unfolding event_at
  whole_event = let e : 3 * k + 3 - 3 * k ≡ 3 = omega arith in ap (λ (n : ℕ). take n (drop (3 * k) s)) e

-- ---- events of three bytes each, one after another

abbrev pub Three : List (List ℕ) → Type 0
Three es = Every (λ e. length e ≡ 3) es

pub length_three : (es : List (List ℕ)) → Three es → length (flatten es) ≡ 3 * length es
unfolding flatten
length_three [] h = refl
length_three (e ∷ es) h = omega (arith, length-append e (flatten es), h.0, length_three es h.1)

event_at_lem : (es : List (List ℕ)) → Three es → (k : ℕ) → k < length es → event_at (flatten es) k ≡ get_or es k []
unfolding event_at flatten
event_at_lem [] h k l = absurd (not-suc-le-zero l)
event_at_lem (e ∷ es) h zero l = take_at e (flatten es) 3 h.0
event_at_lem (e ∷ es) h (suc k) l =
    let m : 3 * suc k ≡ 3 + 3 * k = omega arith in
    ap (λ (n : ℕ). take 3 (drop n (e ++ flatten es))) m
    ∙ ap (take 3) (sym (drop-drop (3 * k) 3 (e ++ flatten es)) ∙ ap (drop (3 * k)) (drop_at e (flatten es) 3 h.0))
    ∙ event_at_lem es h.1 k (le_of_suc-le-suc l)

events_to : (es : List (List ℕ)) → Three es → (n : ℕ) → n ≤ length es → tabulate (event_at (flatten es)) n ≡ take n es
unfolding tabulate
events_to es h zero l = refl
events_to es h (suc n) l = rw (events_to es h n (omega arith), event_at_lem es h n l) (sym (take-suc es n [] l))

-- their bytes are read as these events
pub events_read : (es : List (List ℕ)) → Three es → events_in (flatten es) ≡ es
unfolding events_in
events_read es h =
    let n : (length (flatten es) + 2) / 3 ≡ length es =
    ap (λ (i : ℕ). (i + 2) / 3) (length_three es h) ∙ mul-add-div (omega arith) (length es) 2 ∙ omega arith in
    ap (tabulate (event_at (flatten es))) n ∙ events_to es h (length es) (omega arith) ∙ take-length es

-- ---- how many there are

pub events_length : (s : List ℕ) → length (events_in s) ≡ event_count s
unfolding events_in
events_length s = length_tabulate (event_at s) 0 [] (event_count s)
