-- Document 01, "The table", event 7: "Notice a b: a is told that b is dead.", with its own refusals. A proof that opens the event opens its number too
-- (`unfolding`). Definitions only.
use Rattle.std.specs.Prelude.{Bool, not, cond, ◌&&◌, ◌||◌, ℕ, ◌+◌, eqb}
use Rattle.lists.specs.Scan.{up_to}
use Rattle.table.specs.declared.Job.{Job}
use Rattle.table.specs.declared.Machine.{Machine}
use Rattle.table.specs.declared.Table.{Table}
use Rattle.table.specs.declared.Answer.{Answer}
use Rattle.table.specs.Views.{job_at, machine_at, told_at, with_job, with_machine, with_told}
use Rattle.table.specs.Pools.{enter, returned}
use Rattle.table.specs.Messages.{keep_messages, not_from}
use Rattle.table.specs.Parts.{opened, waiting, judged, OPEN}

-- "a is told that b is dead. Undelivered messages from b to a are dropped."
unfoldable pub informed : Table → ℕ → ℕ → Table
informed t a b = with_told (keep_messages t (not_from b a)) a b 1

-- "If a waits on b, it stops waiting."
unfoldable pub clear_wait : Table → ℕ → ℕ → Table
clear_wait t a b = cond (eqb (machine_at t a).waits (b + 1)) (with_machine t a (waiting (machine_at t a) 0)) t

-- "If its reserved copy is for thief b, the copy returns to the pool."
unfoldable pub return_reserved : Table → ℕ → ℕ → Table
return_reserved t a b =
    cond (not (eqb (machine_at t a).reserved_replica 0) && eqb (machine_at t a).reserved_thief b) (returned t a) t

-- what every machine does
unfoldable pub notice_local : Table → ℕ → ℕ → Table
notice_local t a b = clear_wait (return_reserved (informed t a b) a b) a b

-- an "open job on b, or moving from or to b"
abbrev pub affected : Job → ℕ → Bool
affected v b = eqb v.state OPEN && (eqb v.holder b || eqb v.moving 1 && eqb v.thief b)

-- such a job "gets the next replica number, is on 0, and enters the root's pool"; v is job j as it was before
unfoldable pub reissue_one : Job → ℕ → ℕ → Table → Table
reissue_one v b j u = cond (affected v b) (enter (with_job u j (opened (v.replica + 1))) 0 j (v.replica + 1)) u

-- "If a is the root, each open job on b, or moving from or to b .."
unfoldable pub reissue : Table → ℕ → Table
reissue t b = up_to (λ j u. reissue_one (job_at t j) b j u) 64 t

-- "Notice a b": what every machine does, and where a is the root what the root does besides
unfoldable pub noticed : Table → ℕ → ℕ → Table
noticed t a b = cond (eqb a 0) (reissue (notice_local t a b) b) (notice_local t a b)

-- 12 a dead; 21 b alive; 22 a already told. Machine a is n, machine b is d; told says whether a was told that b is dead
unfoldable pub notice_number : Machine → Machine → ℕ → ℕ
notice_number n d told =
    cond (not (eqb n.alive 1)) 12
    (cond (eqb d.alive 1) 21
    (cond (not (eqb told 0)) 22 0))

-- event 7, by its number
unfoldable pub notice_of : Table → ℕ → ℕ → Answer
unfolding notice_number
notice_of t a b = judged t (notice_number (machine_at t a) (machine_at t b) (told_at t a b)) (noticed t a b)
