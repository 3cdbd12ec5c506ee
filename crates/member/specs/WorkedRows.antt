-- The worked rows A to H of document 01, by cell number, E also at its shortest; rows of kind 1 without a joint and with half a one, and of kind 5, which A to H lack; and a row of kind 4 on the edge of demand 3.
-- Assumes nothing.
use Rattle.std.specs.Prelude.{List, [], ◌∷◌, None, Some}
use Rattle.cells.specs.Row.{cell_count, blanks, with_cell, fill_from, Cell}

-- row A: kind 2, M and Q in cells 9 and 10
abbrev pub row_a : List Cell
row_a = fill_from 1 (2 ∷ 1 ∷ 3 ∷ 10 ∷ 1000 ∷ 75 ∷ 300 ∷ []) (fill_from 9 (20000000 ∷ 20000 ∷ []) (blanks cell_count))

-- row B: kind 3, Lb 2000
abbrev pub row_b : List Cell
row_b = fill_from 1 (3 ∷ 3 ∷ 2 ∷ 13 ∷ 1000 ∷ 100 ∷ 200 ∷ 50000 ∷ []) (fill_from 11 (3000 ∷ 2000 ∷ 1 ∷ []) (blanks cell_count))

-- row C: B with Lb 2020, the last below slenderness 70
abbrev pub row_c : List Cell
row_c = with_cell 12 (Some 2020) row_b

-- row D: B with Lb 2021, the first above slenderness 70
abbrev pub row_d : List Cell
row_d = with_cell 12 (Some 2021) row_b

-- row E without its joint: kind 1
abbrev pub row_without_joint : List Cell
row_without_joint = fill_from 1 (1 ∷ 2 ∷ 4 ∷ 12 ∷ 1000 ∷ 100 ∷ 200 ∷ 100000 ∷ []) (fill_from 11 (3000 ∷ 3000 ∷ 5 ∷ []) (blanks cell_count))

-- row E: the joint in cells 14 to 22, d 12 and a length of 840
abbrev pub row_e : List Cell
row_e = fill_from 14 (50 ∷ 12 ∷ 3 ∷ 840 ∷ 500 ∷ 800 ∷ 1800 ∷ 20 ∷ 2500 ∷ []) row_without_joint

-- row E with 672, the shortest length that holds the joint
abbrev pub row_e_shortest : List Cell
row_e_shortest = with_cell 17 (Some 672) row_e

-- row F: E with 671
abbrev pub row_f : List Cell
row_f = with_cell 17 (Some 671) row_e

-- row G: E with d 16
abbrev pub row_g : List Cell
row_g = with_cell 15 (Some 16) row_e

-- row H: every cell blank
abbrev pub row_h : List Cell
row_h = blanks cell_count

-- row E without cell 14: half a joint
abbrev pub row_half_joint : List Cell
row_half_joint = with_cell 14 None row_e

-- a row of kind 5: the section, moment and shear of row A with the force and the lengths of row E
abbrev pub row_of_kind5 : List Cell
row_of_kind5 = fill_from 1 (5 ∷ 1 ∷ 3 ∷ 10 ∷ 1000 ∷ 75 ∷ 300 ∷ 100000 ∷ 20000000 ∷ 20000 ∷ 3000 ∷ 3000 ∷ 5 ∷ []) (blanks cell_count)

-- a row of kind 4 that fails on check 11 by rounding alone: unrounded it still holds with the forces times 1.002
abbrev pub edge_row : List Cell
edge_row = fill_from 1 (4 ∷ 3 ∷ 2 ∷ 60 ∷ 501 ∷ 20 ∷ 61 ∷ 507 ∷ 135 ∷ 0 ∷ 3462 ∷ 100 ∷ 3 ∷ []) (blanks cell_count)
