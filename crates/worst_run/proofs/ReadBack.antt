-- The front of the buffer, read as a list of events, is the run that was written to it, and the rest is untouched. Assumes nothing.
use Prim.Native.Nat.{ℕ, ◌+◌, ◌*◌}
use mathlib.Core.Path.{◌≡◌, sym, ap, ◌∙◌}
use mathlib.Core.List.{List}
use lib.ListN.{length, take, drop}
use lib.Seq.{take_at, drop_at}
use Rattle.dispatcher.specs.Events.{events_in}
use Rattle.dispatcher.proofs.Bytes.{events_read}
use Rattle.worst_run.specs.Worst.{worst_run, worst_bytes, worst_number}
use Rattle.worst_run.specs.ReadBack.{Read, ReadBack}
use Rattle.worst_run.proofs.Bytes.{three_run, length_run, length_bytes}
use Rattle.worst_run.proofs.Numbers.{accepted}

read_run : (k : ℕ) → events_in (worst_bytes k) ≡ worst_run k
unfolding worst_bytes
read_run k = events_read (worst_run k) (three_run k)

read : (m k : ℕ) (buffer : List ℕ) → worst_number m k (length buffer) ≡ 0 → Read m k buffer
read m k buffer z =
    let n = 3 * (1 + 7 * k) in
    let w = worst_bytes k in
    let is = sym (accepted m k buffer z) in
    let rest = drop (length w) buffer in
    record {
      front = ap (λ (l : List ℕ). events_in (take n l)) is ∙ ap events_in (take_at w rest n (length_bytes k)) ∙ read_run k;
      rest = ap (drop n) is ∙ drop_at w rest n (length_bytes k) ∙ ap (λ (i : ℕ). drop i buffer) (length_bytes k);
    }

pub read_back : ReadBack
read_back = record { sizes = λ k. record { events = length_run k; bytes = length_bytes k }; read = read }
