-- Where the cells of a row come from, and what one of them reads as. Only functions within the crate cite it.
-- Assumes nothing.
use Rattle.std.specs.Prelude.{◌≡◌, ℕ, ◌<◌, List, length, get_or, Result as Answer, Ok, Err}
use Rattle.cells.specs.Row.{cell_count, Cell}
use Rattle.cells.specs.declared.refusal.Refusal.{Refusal}
use Rattle.cells.specs.declared.refusal.Refusal.TheVariants.{Unreadable}
use Rattle.worksheet.specs.Number.{Reading}
use Rattle.worksheet.specs.declared.host_cell.HostCell.{HostCell}
use Rattle.worksheet.specs.declared.host_cell.HostCell.TheVariants.{Blank}

-- the cells, of which a call with a cell's place answers that cell
pub record ComeFrom (cells : List HostCell) (Answers : ℕ → HostCell → Type 0) : Type 0 where
  pub whole : length cells ≡ cell_count
  pub each : (i : ℕ) (cell : HostCell) → i < cell_count → Answers i cell → cell ≡ get_or cells i Blank

-- what cell n reads as, or the refusal that names it
abbrev pub or_named : ℕ → Reading → Answer Cell Refusal
or_named n (Ok cell) = Ok cell
or_named n (Err reason) = Err (Unreadable n)
