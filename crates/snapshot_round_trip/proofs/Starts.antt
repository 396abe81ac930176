-- Bytes that start with a given list at an index: what is read there, byte by byte, number by number, and element by element of an array.
-- Assumes nothing.
use Prim.Native.Nat.{ℕ, zero, suc, ◌+◌, ◌*◌, ◌/◌, ◌%◌, ◌<◌}
use mathlib.Core.Path.{◌≡◌, refl, sym, ap, ◌∙◌}
use mathlib.Core.List.{List, [], ◌∷◌, ◌++◌, append_assoc}
use native.Mathlib.Nat.{not-suc-le-zero}
use native.Mathlib.Omega.{arith}
use lib.ListN.{length, get_or, drop, get_or-append}
use lib.Seq.{get_or-drop, drop-drop, drop_at}
use Rattle.lists.proofs.Cases.{by_eq}
use Rattle.endian.specs.Endian.{le16, le32, le64}
use Rattle.text.specs.Text.{joined}
use Rattle.snapshot_write.specs.Bytes.{bytes16, bytes32, bytes64}
use Rattle.snapshot_write.proofs.Lengths.{length_joined}

-- from index `at` on, s starts with x
pub record Starts (s : List ℕ) (at : ℕ) (x : List ℕ) : Type 0 where
  pub rest : List ℕ
  pub split : drop at s ≡ x ++ rest

module _ {s : List ℕ} {at : ℕ} where
  -- a first part, and what follows it
  pub front : (x y : List ℕ) → Starts s at (x ++ y) → Starts s at x
  front x y h = record { rest = y ++ h.rest; split = h.split ∙ append_assoc x y h.rest }

  pub behind : (x y : List ℕ) → Starts s at (x ++ y) → Starts s (at + length x) y
  behind x y h = record {
    rest = h.rest;
    split = sym (drop-drop (length x) at s) ∙ ap (drop (length x)) (h.split ∙ append_assoc x y h.rest) ∙ drop_at x (y ++ h.rest) (length x) refl;
  }

  -- its bytes
  pub byte : (x : List ℕ) → Starts s at x → (k : ℕ) → k < length x → get_or s (at + k) 0 ≡ get_or x k 0
  byte x h k l = sym (get_or-drop at s k 0) ∙ ap (λ (y : List ℕ). get_or y k 0) h.split ∙ get_or-append x h.rest 0 k l

  pub first : (a : ℕ) (x : List ℕ) → Starts s at (a ∷ x) → get_or s at 0 ≡ a
  first a x h = let z : at + 0 ≡ at = omega arith in ap (λ (k : ℕ). get_or s k 0) (sym z) ∙ byte (a ∷ x) h 0 (omega arith)

-- ---- numbers

pub number16 : (s : List ℕ) (at x : ℕ) → Starts s at (bytes16 x) → le16 s at ≡ x
unfolding bytes16
number16 s at x h = omega (arith, first (x % 256) (x / 256 ∷ []) h, byte (bytes16 x) h 1 (omega arith))

pub number32 : (s : List ℕ) (at x : ℕ) → Starts s at (bytes32 x) → le32 s at ≡ x
unfolding bytes32 bytes16
number32 s at x h =
    let a = bytes16 (x % 65536) in
    let b = bytes16 (x / 65536) in
    omega (arith, number16 s at (x % 65536) (front a b h), number16 s (at + 2) (x / 65536) (behind a b h))

pub number64 : (s : List ℕ) (at x : ℕ) → Starts s at (bytes64 x) → le64 s at ≡ x
unfolding bytes64 bytes32 bytes16
number64 s at x h =
    let a = bytes32 (x % 4294967296) in
    let b = bytes32 (x / 4294967296) in
    omega (arith, number32 s at (x % 4294967296) (front a b h), number32 s (at + 4) (x / 4294967296) (behind a b h))

-- ---- arrays

-- element i of n elements of w bytes
element_from : (f : ℕ → List ℕ) (w n : ℕ) → ((i : ℕ) → length (f i) ≡ w) → (i : ℕ) → i < n → (post : List ℕ)
    → Starts (joined f n ++ post) (i * w) (f i)
unfolding joined
element_from f w zero h i l post = absurd (not-suc-le-zero l)
element_from f w (suc n) h i l post =
    by_eq i n
    (λ e. record {
      rest = post;
      split = rw e (ap (drop (n * w)) (append_assoc (joined f n) (f n) post) ∙ drop_at (joined f n) (f n ++ post) (n * w) (length_joined f w n h));
    })
    (λ e.
    let r = element_from f w n h i (omega arith) (f n ++ post) in
    record { rest = r.rest; split = ap (drop (i * w)) (append_assoc (joined f n) (f n) post) ∙ r.split })

-- an array that starts at `at`: its element i
pub element : {s : List ℕ} {at : ℕ} (f : ℕ → List ℕ) (w n : ℕ) → ((i : ℕ) → length (f i) ≡ w) → Starts s at (joined f n) → (i : ℕ) → i < n
    → Starts s (at + w * i) (f i)
element {s} {at} f w n h a i l =
    let r = element_from f w n h i l a.rest in
    let e : i * w ≡ w * i = omega arith in
    record {
      rest = r.rest;
      split = sym (drop-drop (w * i) at s) ∙ ap (λ (k : ℕ). drop k (drop at s)) (sym e)
          ∙ ap (drop (i * w)) a.split ∙ r.split;
    }
