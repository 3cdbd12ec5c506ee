-- Which floats read as which whole numbers.
-- Assumes nothing.
use Rattle.std.specs.Prelude.{ℕ, ◌*◌, ◌/◌, ◌%◌, ◌^◌, Bool, not, cond, ◌&&◌, ◌||◌, eqb, ltb, Float, Some, Result, Ok, Err}
use Rattle.std.specs.Float.{nan, inf, fin}
use Rattle.std.specs.Float.Ieee.{up, down}
use Rattle.cells.specs.Row.{value_bits, Cell}
use Rattle.worksheet.specs.declared.host_cell.ReadError.{ReadError}
use Rattle.worksheet.specs.declared.host_cell.ReadError.TheVariants.{NotWhole}

-- what a host's cell reads as: a cell, or why it cannot be read
abbrev pub Reading : Type 0
Reading = Result Cell ReadError

-- refusal 1, of the fraction a / c: it reads where it is whole, not below 0 (−0 is 0) and below 2 ^ 34
unfoldable pub read_fraction : Bool → ℕ → ℕ → Reading
read_fraction negative a c = cond (eqb (a % c) 0 && (not negative || eqb a 0) && ltb (a / c) (2 ^ value_bits)) (Ok (Some (a / c))) (Err NotWhole)

-- refusal 1, of a float: `fin negative m e` is m × 2 ^ e, and 2 ^ e is the fraction up e / down e
unfoldable pub read_number : Float → Reading
read_number nan = Err NotWhole
read_number (inf negative) = Err NotWhole
read_number (fin negative m e) = read_fraction negative (m * up e) (down e)
