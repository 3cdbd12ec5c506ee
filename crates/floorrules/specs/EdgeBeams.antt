-- Floor beams on the edge: two whose capacity, in bending or in shear, lies between 1.005 times the unrounded force and 1.005 times the rounded one; and one that fails on
-- check 8 by rounding alone, and unrounded still holds with Q times 1.002.
-- Assumes nothing.
use Rattle.floorrules.specs.WorkedBeams.{loads, beam_of}
use Rattle.floorrules.specs.declared.beam.BeamCells.{BeamCells}
use Rattle.floorrules.specs.declared.beam.Loading.{Loading}

-- bending: M is 353,514.55375 N·mm, MR 355,282.24368
abbrev pub bending_edge : Loading
bending_edge = loads 3987 443 799

abbrev pub bending_edge_beam : BeamCells
bending_edge_beam = beam_of 1 10 664 21 86

-- shear: Q is 3316.5 N, its capacity 3333.0962808
abbrev pub shear_edge : Loading
shear_edge = loads 1842 1843 1800

abbrev pub shear_edge_beam : BeamCells
shear_edge_beam = beam_of 3 14 802 23 117

-- Q is 648.25 N, rounded up 649; its capacity 649.74078, rounded down 648
abbrev pub rounding_edge : Loading
rounding_edge = loads 2593 0 500

abbrev pub rounding_edge_beam : BeamCells
rounding_edge_beam = beam_of 2 25 507 20 62
