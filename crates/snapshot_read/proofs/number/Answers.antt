-- `snapshot_read::number` meets its contract: the bits of a NaN stand for the NaN. Assumes nothing.
use mathlib.Core.Path.{sym, ◌∙◌}
use lib.Ieee.{of_bits}
use Rattle.book_term.proofs.Nans.{nan_of}
use Rattle.snapshot_read.proofs.number.Goals as goal

pub returns-then-is_nan : goal.returns-then-is_nan
unfolding of_bits
returns-then-is_nan c = sym (nan_of c.args.bits (sym c.is_nan.ensures ∙ c.if-is_nan.true))
