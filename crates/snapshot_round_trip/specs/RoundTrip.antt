-- What is claimed of snapshots. Definitions only; the theorems are `decode_encode` in proofs/Decode.antt, `encode_decode` and `only_bytes` in
-- proofs/Encode.antt, and `snapshot_run` in proofs/Run.antt.
use Rattle.std.specs.Prelude.{ℕ, ◌<◌, ◌≡◌, true, List, [], ◌∷◌, get_or}
use Rattle.table.specs.declared.Table.{Table}
use Rattle.dispatcher.specs.Step.{step_of, run_of}
use Rattle.snapshot_read.specs.Layout.{decodable, decode}
use Rattle.snapshot.specs.Snapshot.{step_number, step_bytes, open_jobs_of}

-- the bytes after a list of events, each a step on the bytes that the one before it left
unfoldable pub snapshot_after : List ℕ → List (List ℕ) → List ℕ
snapshot_after s [] = s
snapshot_after s (e ∷ es) = snapshot_after (step_bytes s e) es

-- each number of the list is a byte
abbrev pub AreBytes : List ℕ → Type 0
AreBytes s = (i : ℕ) → get_or s i 0 < 256

-- the bytes s stand for the table t
pub record Represents (s : List ℕ) (t : Table) : Type 0 where
  pub form : decodable s ≡ true
  pub table : decode s ≡ t

-- the bytes s, after any list of events, stand for the table of the run from t, the next event gets the number that it gets there, and the question how
-- many jobs are open is answered what that table keeps
pub record SameRun (s : List ℕ) (t : Table) : Type 0 where
  pub after : (es : List (List ℕ)) → Represents (snapshot_after s es) (run_of t es)
  pub number : (es : List (List ℕ)) (e : List ℕ) → step_number (snapshot_after s es) e ≡ (step_of (run_of t es) e).number
  pub open_jobs : (es : List (List ℕ)) → open_jobs_of (snapshot_after s es) ≡ (run_of t es).open_jobs
