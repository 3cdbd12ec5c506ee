-- Two sags worked by hand in docs/SP64.md, one on each side of the line, and the beams at the ends of the ranges: the least Mf, and the greatest product.
-- Assumes nothing.
use Rattle.std.specs.Prelude.{ℕ, List, [], ◌∷◌, true, false}
use Rattle.cells.specs.Row.{cell_count, blanks, fill_from, Cell}
use Rattle.sagrules.specs.declared.answer.SagVerdict.{SagVerdict}
use Rattle.sagrules.specs.declared.sag.Sag.{Sag}
use Rattle.sagrules.specs.declared.sag.SagBeam.{SagBeam}

-- a span, a moment and n
abbrev pub sag_at : ℕ → ℕ → ℕ → Sag
sag_at span moment ratio = record { span = span; moment = moment; ratio = ratio }

-- a beam by its grade, regime, w, b and h
abbrev pub sag_beam : ℕ → ℕ → ℕ → ℕ → ℕ → SagBeam
sag_beam grade regime moisture width height = record { grade = grade; regime = regime; moisture = moisture; width = width; height = height }

-- a row of kind 2 by its cells 2 to 7, then M and Q
abbrev pub bent_row : List ℕ → ℕ → ℕ → List Cell
bent_row cells M Q = fill_from 1 (2 ∷ cells) (fill_from 9 (M ∷ Q ∷ []) (blanks cell_count))

-- a living room: K40, regime В, 12 percent, 45 by 240 mm
abbrev pub living_room_row : List Cell
living_room_row = bent_row (2 ∷ 3 ∷ 12 ∷ 1000 ∷ 45 ∷ 240 ∷ []) 4438042 3885

-- 4570 mm, its moment unfactored, and a limit of span / 250
abbrev pub living_room_sag : Sag
living_room_sag = sag_at 4570 3563500 250

-- the same span and limit with another moment
abbrev pub living_room_at : ℕ → Sag
living_room_at Mn = sag_at 4570 Mn 250

-- Mf is 4,312,362 and 6/457 N·mm, the shear factor 1,052,953 and 18,903/208,849; it passes
abbrev pub living_room_verdict : SagVerdict
living_room_verdict =
    record {
      passes = true;
      utilisation = 870104;
      modulus = 11000;
      elastic_duration = 90;
      moisture = 100;
      design_modulus = 9900;
      limit_moment = 4312362;
      shear_factor = 1052954;
    }

-- the same as a host hands them over, a line for each cell: 1 and the float of its number, the lowest byte first, or zeros for a blank
abbrev pub living_room_row_bytes : List ℕ
living_room_row_bytes =
    1 ∷ 0 ∷ 0 ∷ 0 ∷ 0 ∷ 0 ∷ 0 ∷ 0 ∷ 64 ∷
    1 ∷ 0 ∷ 0 ∷ 0 ∷ 0 ∷ 0 ∷ 0 ∷ 0 ∷ 64 ∷
    1 ∷ 0 ∷ 0 ∷ 0 ∷ 0 ∷ 0 ∷ 0 ∷ 8 ∷ 64 ∷
    1 ∷ 0 ∷ 0 ∷ 0 ∷ 0 ∷ 0 ∷ 0 ∷ 40 ∷ 64 ∷
    1 ∷ 0 ∷ 0 ∷ 0 ∷ 0 ∷ 0 ∷ 64 ∷ 143 ∷ 64 ∷
    1 ∷ 0 ∷ 0 ∷ 0 ∷ 0 ∷ 0 ∷ 128 ∷ 70 ∷ 64 ∷
    1 ∷ 0 ∷ 0 ∷ 0 ∷ 0 ∷ 0 ∷ 0 ∷ 110 ∷ 64 ∷
    0 ∷ 0 ∷ 0 ∷ 0 ∷ 0 ∷ 0 ∷ 0 ∷ 0 ∷ 0 ∷
    1 ∷ 0 ∷ 0 ∷ 0 ∷ 128 ∷ 6 ∷ 238 ∷ 80 ∷ 65 ∷
    1 ∷ 0 ∷ 0 ∷ 0 ∷ 0 ∷ 0 ∷ 90 ∷ 174 ∷ 64 ∷
    0 ∷ 0 ∷ 0 ∷ 0 ∷ 0 ∷ 0 ∷ 0 ∷ 0 ∷ 0 ∷
    0 ∷ 0 ∷ 0 ∷ 0 ∷ 0 ∷ 0 ∷ 0 ∷ 0 ∷ 0 ∷
    0 ∷ 0 ∷ 0 ∷ 0 ∷ 0 ∷ 0 ∷ 0 ∷ 0 ∷ 0 ∷
    0 ∷ 0 ∷ 0 ∷ 0 ∷ 0 ∷ 0 ∷ 0 ∷ 0 ∷ 0 ∷
    0 ∷ 0 ∷ 0 ∷ 0 ∷ 0 ∷ 0 ∷ 0 ∷ 0 ∷ 0 ∷
    0 ∷ 0 ∷ 0 ∷ 0 ∷ 0 ∷ 0 ∷ 0 ∷ 0 ∷ 0 ∷
    0 ∷ 0 ∷ 0 ∷ 0 ∷ 0 ∷ 0 ∷ 0 ∷ 0 ∷ 0 ∷
    0 ∷ 0 ∷ 0 ∷ 0 ∷ 0 ∷ 0 ∷ 0 ∷ 0 ∷ 0 ∷
    0 ∷ 0 ∷ 0 ∷ 0 ∷ 0 ∷ 0 ∷ 0 ∷ 0 ∷ 0 ∷
    0 ∷ 0 ∷ 0 ∷ 0 ∷ 0 ∷ 0 ∷ 0 ∷ 0 ∷ 0 ∷
    0 ∷ 0 ∷ 0 ∷ 0 ∷ 0 ∷ 0 ∷ 0 ∷ 0 ∷ 0 ∷
    0 ∷ 0 ∷ 0 ∷ 0 ∷ 0 ∷ 0 ∷ 0 ∷ 0 ∷ 0 ∷
    []

-- and its sag
abbrev pub living_room_sag_bytes : List ℕ
living_room_sag_bytes =
    1 ∷ 0 ∷ 0 ∷ 0 ∷ 0 ∷ 0 ∷ 218 ∷ 177 ∷ 64 ∷
    1 ∷ 0 ∷ 0 ∷ 0 ∷ 0 ∷ 246 ∷ 47 ∷ 75 ∷ 65 ∷
    1 ∷ 0 ∷ 0 ∷ 0 ∷ 0 ∷ 0 ∷ 64 ∷ 111 ∷ 64 ∷
    []

-- the sag with the least moment that fails, 4,095,490 N·mm
abbrev pub living_room_over_bytes : List ℕ
living_room_over_bytes =
    1 ∷ 0 ∷ 0 ∷ 0 ∷ 0 ∷ 0 ∷ 218 ∷ 177 ∷ 64 ∷
    1 ∷ 0 ∷ 0 ∷ 0 ∷ 0 ∷ 1 ∷ 63 ∷ 79 ∷ 65 ∷
    1 ∷ 0 ∷ 0 ∷ 0 ∷ 0 ∷ 0 ∷ 64 ∷ 111 ∷ 64 ∷
    []

-- a store: K40, regime Б, 18 percent, 60 by 220 mm
abbrev pub store_row : List Cell
store_row = bent_row (2 ∷ 2 ∷ 18 ∷ 1000 ∷ 60 ∷ 220 ∷ []) 4000000 4100

-- 3900 mm, and a limit of span / 300
abbrev pub store_sag : Sag
store_sag = sag_at 3900 3500000 300

-- E is 7012.5 MPa, Mf 3,063,347 and 9/13 N·mm, the shear factor 1,061,096 and 328/507; it fails
abbrev pub store_verdict : SagVerdict
store_verdict =
    record {
      passes = false;
      utilisation = 1212434;
      modulus = 11000;
      elastic_duration = 75;
      moisture = 85;
      design_modulus = 7012;
      limit_moment = 3063129;
      shear_factor = 1061097;
    }

-- the weakest beam there is: K35, regime Б, over 20 percent, 20 by 60 mm
abbrev pub weakest_row : List Cell
weakest_row = bent_row (3 ∷ 2 ∷ 21 ∷ 1000 ∷ 20 ∷ 60 ∷ []) 1 0

-- its beam
abbrev pub weakest_beam : SagBeam
weakest_beam = sag_beam 3 2 75 20 60

-- over the longest span, with the hardest limit, and a moment
abbrev pub longest_sag : ℕ → Sag
longest_sag Mn = sag_at 20000 Mn 500

-- with a moment of 1 N·mm
abbrev pub weakest_verdict : SagVerdict
weakest_verdict =
    record {
      passes = true;
      utilisation = 515;
      modulus = 10000;
      elastic_duration = 75;
      moisture = 75;
      design_modulus = 5625;
      limit_moment = 1944;
      shear_factor = 1000173;
    }

-- the highest beam: K45, regime А, dry, 300 by 2500 mm
abbrev pub highest_row : List Cell
highest_row = bent_row (1 ∷ 1 ∷ 10 ∷ 1000 ∷ 300 ∷ 2500 ∷ []) 1 0

-- its beam
abbrev pub highest_beam : SagBeam
highest_beam = sag_beam 1 1 100 300 2500

-- over the shortest span, with the easiest limit and the greatest moment
abbrev pub shortest_sag : Sag
shortest_sag = sag_at 500 10000000000 100
