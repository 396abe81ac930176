-- The bytes of a table that passes check 9, read and written again, are the same bytes: no other bytes stand for that table. Assumes nothing.
use Prim.Native.Nat.{ℕ}
use mathlib.Core.Path.{◌≡◌, sym, ap, ◌∙◌}
use mathlib.Core.Bool.{true}
use mathlib.Core.List.{List}
use Rattle.validity.specs.Validity.{table_ok}
use Rattle.snapshot_read.specs.Layout.{decodable, decode}
use Rattle.snapshot_write.specs.Bytes.{encode}
use Rattle.snapshot.proofs.Same.{same_bytes_lem}
use Rattle.snapshot_round_trip.specs.RoundTrip.{AreBytes}

-- bytes that pass the check are the bytes of their table
pub encode_decode : (s : List ℕ) → AreBytes s → decodable s ≡ true → table_ok (decode s) ≡ true → encode (decode s) ≡ s
encode_decode s small f ok = same_bytes_lem s small f ok

-- and no other bytes stand for that table
pub only_bytes : (s r : List ℕ) → AreBytes s → AreBytes r → decodable s ≡ true → decodable r ≡ true → table_ok (decode s) ≡ true
    → decode s ≡ decode r → s ≡ r
only_bytes s r a b f g ok e = sym (encode_decode s a f ok) ∙ ap encode e ∙ encode_decode r b g (rw e at ok)
