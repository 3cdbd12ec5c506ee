-- The row of kind 2 that is made of a floor beam.
-- Assumes nothing.
use Rattle.std.specs.Prelude.{ℕ, List, Some}
use Rattle.cells.specs.Row.{cell_count, blanks, with_cell, Cell}
use Rattle.floorrules.specs.Loads.{regime_of, moment_of, shear_of}
use Rattle.floorrules.specs.declared.beam.BeamCells.{BeamCells}
use Rattle.floorrules.specs.declared.beam.Loading.{Loading}

-- request 1: kind 2 with a regime, M and Q, cells 2 and 4 to 7 as given, all others blank
abbrev pub bending_row : ℕ → ℕ → ℕ → BeamCells → List Cell
bending_row regime M Q cells =
    with_cell 1 (Some 2)
    (with_cell 2 cells.grade
    (with_cell 3 (Some regime)
    (with_cell 4 cells.moisture
    (with_cell 5 cells.office
    (with_cell 6 cells.width
    (with_cell 7 cells.height
    (with_cell 9 (Some M)
    (with_cell 10 (Some Q)
    (blanks cell_count)))))))))

-- request 1: the row of a floor beam, with the regime, M and Q of its loads
abbrev pub beam_row : Loading → BeamCells → List Cell
beam_row l cells = bending_row (regime_of l) (moment_of l) (shear_of l) cells
