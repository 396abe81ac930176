-- What is asked of a table on which an event is applied in place, and what a step answers. Definitions only.
use Rattle.std.specs.Prelude.{true, ◌≡◌, length, Result, Ok, Err}
use Rattle.refusal.specs.declared.Refusal.{Refusal}
use Rattle.refusal.specs.Numbers.{number_of}
use Rattle.table.specs.declared.Answer.{Answer}
use Rattle.table.specs.declared.Table.{Table}
use Rattle.table.specs.Parts.{accept}
use Rattle.table.specs.Views.{refuse}
use Rattle.validity.specs.Validity.{table_ok}

-- a table that passes check 9. Its lists have the lengths of the table's arrays, which is known of a table by value, and not of one behind a reference
pub record Passed (t : Table) : Type 0 where
  pub ok : table_ok t ≡ true
  pub jobs : length t.jobs ≡ 64
  pub machines : length t.machines ≡ 16
  pub told : length t.told ≡ 256
  pub pools : length t.pools ≡ 1024
  pub messages : length t.messages ≡ 128

-- what a step answers as a number beside a table: 0 and the table after the event, or the refusal's and the table as it was
abbrev pub answered : Table → Result Table Refusal → Answer
answered t (Ok u) = accept u
answered t (Err r) = refuse (number_of r) t
