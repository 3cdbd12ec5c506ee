-- "Read cells to whole numbers", for any number of cells.
-- Assumes nothing.
use Rattle.std.specs.Prelude.{ℕ, Bool, true, false, cond, List, map, eqb, None, Ok, Err}
use Rattle.cells.specs.Lowest.{lowest}
use Rattle.worksheet.specs.Number.{read_number, Reading}
use Rattle.cells.specs.Refusal.{Result, gives, refuses}
use Rattle.cells.specs.Row.{Cell}
use Rattle.worksheet.specs.declared.host_cell.HostCell.{HostCell}
use Rattle.worksheet.specs.declared.host_cell.HostCell.TheVariants.{Blank as Empty, Number}

-- a blank stays blank; a filled cell reads as its number
abbrev pub read_cell : HostCell → Reading
read_cell Empty = Ok None
read_cell (Number x) = read_number x

-- refusal 1: the cell is unreadable
abbrev pub is_unreadable : Reading → Bool
is_unreadable (Ok cell) = false
is_unreadable (Err reason) = true

-- the cell that was read; it is asked for only where every cell is readable
abbrev pub cell_read : Reading → Cell
cell_read (Ok cell) = cell
cell_read (Err reason) = None

-- the lowest unreadable cell, 0 where there is none
abbrev pub lowest_unreadable : List HostCell → ℕ
lowest_unreadable cells = lowest (λ (n : ℕ) (cell : HostCell). is_unreadable (read_cell cell)) 1 cells

-- "Read cells to whole numbers": refusal 1 and the lowest unreadable cell; otherwise the cells
abbrev pub read_cells : List HostCell → Result (List Cell)
read_cells cells =
    cond (eqb (lowest_unreadable cells) 0) (gives (map (λ (cell : HostCell). cell_read (read_cell cell)) cells)) (refuses 1 (lowest_unreadable cells))
