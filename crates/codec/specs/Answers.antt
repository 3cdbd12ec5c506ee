-- What measuring answers. Only functions within the crate cite this.
-- Assumes nothing.
use Rattle.std.specs.Prelude.{ℕ, cond, List, eqb, length, Result as Answer, Ok, Err}
use Rattle.cells.specs.Row.{Cell}
use Rattle.cells.specs.declared.refusal.Refusal.{Refusal}
use Rattle.cells.specs.declared.refusal.Refusal.TheVariants.{OutOfRange}
use Rattle.packed.specs.Packing.{row_bits, lowest_wide}

-- what measuring cells finds: their bits, or the lowest with a value above 34 bits
abbrev pub measure_of : List Cell → Answer ℕ Refusal
measure_of cells = cond (eqb (lowest_wide cells) 0) (Ok (length (row_bits cells))) (Err (OutOfRange (lowest_wide cells)))
