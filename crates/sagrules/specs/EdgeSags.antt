-- Sags on the edge: one that fails by rounding alone, and unrounded still holds; and one whose Mf lies between 1.005 and 1.006 times what its moment asks for.
-- Assumes nothing.
use Rattle.std.specs.Prelude.{List, [], ◌∷◌}
use Rattle.cells.specs.Row.{Cell}
use Rattle.sagrules.specs.WorkedSags.{sag_at, sag_beam, bent_row, longest_sag}
use Rattle.sagrules.specs.declared.sag.Sag.{Sag}
use Rattle.sagrules.specs.declared.sag.SagBeam.{SagBeam}

-- K40, regime Б, over 20 percent, 20 by 60 mm: E is 6187.5 MPa
abbrev pub rounding_row : List Cell
rounding_row = bent_row (2 ∷ 2 ∷ 21 ∷ 1000 ∷ 20 ∷ 60 ∷ []) 1 0

-- its beam
abbrev pub rounding_beam : SagBeam
rounding_beam = sag_beam 2 2 75 20 60

-- Mf is 2173 and 7/41 N·mm, rounded down 2172; with the shear factor of 1,000,172.8, at 2172 the utilisation is 999,633.99 unrounded
abbrev pub rounding_sag : Sag
rounding_sag = sag_at 20000 2172 492

-- of the weakest beam, whose Mf is 1944: with the shear factor its utilisation is 994,514
abbrev pub close_sag : Sag
close_sag = longest_sag 1933
