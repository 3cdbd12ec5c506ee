-- Cells and rows.
-- Assumes nothing.
use Rattle.std.specs.Prelude.{ℕ, ◌+◌, ◌-◌, List, [], ◌∷◌, replicate, set, Option, Some, None}
use Rattle.cells.specs.declared.row.Row.{Row}

-- a cell: a whole number, none where it is blank
abbrev pub Cell : Type 0
Cell = Option ℕ

-- how many cells a row has
abbrev pub cell_count : ℕ
cell_count = 22

-- a whole number in a cell has 34 bits
abbrev pub value_bits : ℕ
value_bits = 34

-- the cells of a row, cell 1 first
abbrev pub cells_of : Row → List Cell
cells_of row = row.cells

-- the row of given cells
abbrev pub row_of : List Cell → Row
row_of cells = record { cells = cells }

-- n blank cells
abbrev pub blanks : ℕ → List Cell
blanks n = replicate n None

-- the cells with another in the place of cell n
abbrev pub with_cell : ℕ → Cell → List Cell → List Cell
with_cell n cell cells = set cells (n - 1) cell

-- the cells with values in them from cell n on
abbrev pub fill_from : ℕ → List ℕ → List Cell → List Cell
fill_from n [] cells = cells
fill_from n (value ∷ values) cells = with_cell n (Some value) (fill_from (n + 1) values cells)

-- the row in which every cell is blank
abbrev pub blank_row : Row
blank_row = row_of (blanks cell_count)
