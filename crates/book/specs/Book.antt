-- Document 01, "The book", and the rows "Book" and "Lowest faulty entry" of "Where each refusal is checked". Definitions only.
use Rattle.std.specs.Prelude.{ℕ, ◌+◌, ◌*◌, Bool, true, false, not, cond, ◌&&◌, List, [], ◌∷◌, leb, ltb, eqb, length, take, drop}
use Rattle.lists.specs.Scan.{all, least}
use Rattle.endian.specs.Endian.{le16}
use Rattle.isin.specs.Isin.{verdict_of}
use Rattle.book_term.specs.Term.{term_of, term_number}

-- "Bytes 0 and 1: machine count .. little-endian"
abbrev pub raw_machine_count : List ℕ → ℕ
raw_machine_count s = le16 s 0

-- "Bytes 2 and 3: entry count n"
abbrev pub raw_entry_count : List ℕ → ℕ
raw_entry_count s = le16 s 2

-- "machine count, 2 to 16"; "entry count n, 0 to 64"
unfoldable pub sizes_in_range : ℕ → ℕ → Bool
sizes_in_range machines entries = leb 2 machines && leb machines 16 && leb entries 64

-- "Then n identifiers of 12 bytes": that of entry i
unfoldable pub identifier_at : List ℕ → ℕ → List ℕ
identifier_at s i = take 12 (drop (4 + 12 * i) s)

-- "then n terms of 19 bytes": that of entry i
unfoldable pub term_at : List ℕ → ℕ → ℕ → List ℕ
term_at s n i = take 19 (drop (4 + 12 * n + 19 * i) s)

-- the same bytes
unfoldable pub same_bytes : List ℕ → List ℕ → Bool
same_bytes [] [] = true
same_bytes [] (b ∷ ys) = false
same_bytes (a ∷ xs) [] = false
same_bytes (a ∷ xs) (b ∷ ys) = eqb a b && same_bytes xs ys

-- 6: "equals an earlier identifier"
unfoldable pub repeated : List ℕ → ℕ → Bool
repeated s i = not (all (λ k. not (same_bytes (identifier_at s k) (identifier_at s i))) i)

-- the fault of entry i of n: 4 "identifier form" and 5 "check digit" first, then 6, then 7 "term outside the rules"; or 0
unfoldable pub fault_at : List ℕ → ℕ → ℕ → ℕ
fault_at s n i =
    cond (not (eqb (verdict_of (identifier_at s i)) 0)) (verdict_of (identifier_at s i))
    (cond (repeated s i) 6
    (term_number (term_of (term_at s n i))))

-- the "Lowest faulty entry" of n, or n where none is faulty
unfoldable pub lowest_faulty : List ℕ → ℕ → ℕ
lowest_faulty s n = least (λ i. not (eqb (fault_at s n i) 0)) n

-- its fault, or 0
unfoldable pub lowest_fault : List ℕ → ℕ → ℕ
lowest_fault s n = cond (ltb (lowest_faulty s n) n) (fault_at s n (lowest_faulty s n)) 0

-- 1 "fewer than 4 bytes", 2 "a size outside its range", 3 "length not 4 + 31n", then the lowest faulty entry
unfoldable pub book_verdict : List ℕ → ℕ
book_verdict s =
    cond (ltb (length s) 4) 1
    (cond (not (sizes_in_range (raw_machine_count s) (raw_entry_count s))) 2
    (cond (not (eqb (length s) (4 + 31 * raw_entry_count s))) 3
    (lowest_fault s (raw_entry_count s))))
