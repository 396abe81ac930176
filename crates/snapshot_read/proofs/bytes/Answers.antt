-- `snapshot_read::bytes` meets its contract: the part that is copied, byte by byte. Assumes nothing.
use Rattle.std.proofs.Common.{ℕ, ◌≡◌, ◌+◌, ◌-◌, ◌<◌, length, get_or, sym, ◌∙◌, arith}
use Rattle.std.proofs.lemmas.List.{ext_get_or, get_or-take, get_or-drop, length-replicate}
use Rattle.lists.proofs.Scans.{length_tabulate, tabulate_at}
use Rattle.snapshot_read.proofs.bytes.Goals as goal

pub returns : goal.returns
returns g c =
    let s = c.args.s.now in
    let a = c.args.start in
    let n = g.row.N in
    let f = λ (i : ℕ). get_or s (a + i) 0 in
    let h = c.copy_from_slice.ensures in
    let l : length c.copy_from_slice.new.self ≡ n = h.len ∙ length-replicate n 0 in
    ext_get_or 0 _ _ (l ∙ sym (length_tabulate f n 0 n))
    (λ k b.
    let m : k < n = omega (arith, l) in
    let w : k < a + n - a = omega arith in
    rw h.after (get_or-take (a + n - a) _ k 0 w ∙ get_or-drop a s k 0 ∙ sym (tabulate_at f n 0 n k 0 m)))
