-- Rows on the edge of the factor, where the check named beside each still holds unrounded with the forces times 1.005 and no longer times 1.006; and rows whose
-- verdicts have the greatest count and the greatest utilisation.
-- Assumes nothing.
use Rattle.std.specs.Prelude.{List, [], ◌∷◌, Some}
use Rattle.cells.specs.Row.{cell_count, blanks, with_cell, fill_from, Cell}
use Rattle.member.specs.WorkedRows.{row_a, row_e}

-- check 4 and the count: row E with another N and a length of 672; 21 dowels in 7 columns for 1.005 × N, 22 in 8 for 1.006 × N
abbrev pub joint_edge : List Cell
joint_edge = with_cell 8 (Some 104977) (with_cell 17 (Some 672) row_e)

-- checks 5 and 6, whose capacities are equal here: row E with another N
abbrev pub tension_edge : List Cell
tension_edge = with_cell 8 (Some 290794) row_e

-- checks 7 and 8: row A with another M and Q
abbrev pub bending_edge : List Cell
bending_edge = fill_from 9 (28813432 ∷ 40388 ∷ []) row_a

-- checks 9 and 10, of a square strut with equal lengths
abbrev pub compression_edge : List Cell
compression_edge = fill_from 1 (3 ∷ 3 ∷ 2 ∷ 13 ∷ 1000 ∷ 100 ∷ 100 ∷ 78939 ∷ []) (fill_from 11 (2000 ∷ 2000 ∷ 1 ∷ []) (blanks cell_count))

-- check 11 of kind 4
abbrev pub compression_bending_edge : List Cell
compression_bending_edge = fill_from 1 (4 ∷ 1 ∷ 3 ∷ 10 ∷ 1000 ∷ 75 ∷ 300 ∷ 100000 ∷ 20797689 ∷ 0 ∷ 3000 ∷ 1500 ∷ 1 ∷ []) (blanks cell_count)

-- check 11 of kind 5
abbrev pub tension_bending_edge : List Cell
tension_bending_edge = fill_from 1 (5 ∷ 1 ∷ 3 ∷ 10 ∷ 1000 ∷ 75 ∷ 300 ∷ 100000 ∷ 22523110 ∷ 0 ∷ 3000 ∷ 3000 ∷ 5 ∷ []) (blanks cell_count)

-- the greatest dowel count: the thinnest dowel, the least coefficients and factors, the greatest force
abbrev pub most_dowels : List Cell
most_dowels =
    fill_from 1 (1 ∷ 3 ∷ 2 ∷ 60 ∷ 500 ∷ 20 ∷ 60 ∷ 100000000 ∷ [])
    (fill_from 11 (100 ∷ 100 ∷ 5 ∷ 10 ∷ 6 ∷ 1 ∷ 1 ∷ 100 ∷ 100 ∷ 100 ∷ 0 ∷ 100 ∷ []) (blanks cell_count))

-- the greatest utilisation: the smallest beam under the greatest moment
abbrev pub most_used : List Cell
most_used = fill_from 1 (2 ∷ 3 ∷ 2 ∷ 60 ∷ 500 ∷ 20 ∷ 60 ∷ []) (fill_from 9 (10000000000 ∷ 0 ∷ []) (blanks cell_count))
