-- Two floor beams worked by hand in docs/SP64.md, one on each side of the 80 percent, and the figures on the way to their verdicts.
-- Assumes nothing.
use Rattle.std.specs.Prelude.{ℕ, List, [], ◌∷◌, Some}
use Rattle.cells.specs.Row.{Cell}
use Rattle.rounding.specs.Fraction.{fraction, whole, ◌⊕◌}
use Rattle.sp64.specs.Capacity.{shear_capacity}
use Rattle.sp64.specs.declared.tables.Stress.TheVariants.{Bending, Shear}
use Rattle.member.specs.Member.{MRof}
use Rattle.member.specs.declared.check.StrengthCheck.TheVariants.{Bending as bending, Shear as shear}
use Rattle.member.specs.declared.member.Member.{Member}
use Rattle.worked.specs.Cases.{Case, figure, exact, pass, fail}
use Rattle.worked.specs.Values.{strength_in, exact_strength_in, utilisation_in}
use Rattle.floorrules.specs.BeamRow.{beam_row}
use Rattle.floorrules.specs.declared.answer.BeamVerdict.{BeamVerdict}
use Rattle.floorrules.specs.declared.beam.BeamCells.{BeamCells}
use Rattle.floorrules.specs.declared.beam.Loading.{Loading}

-- two loads and a span
abbrev pub loads : ℕ → ℕ → ℕ → Loading
loads lasting remaining span = record { lasting = lasting; remaining = remaining; span = span }

-- the five cells of a beam
abbrev pub beam_of : ℕ → ℕ → ℕ → ℕ → ℕ → BeamCells
beam_of grade moisture office width height =
    record { grade = Some grade; moisture = Some moisture; office = Some office; width = Some width; height = Some height }

-- a living room: 900 of 1700 N/m last, 53 percent
abbrev pub living_room : Loading
living_room = loads 900 800 4570

-- its beam: K40, 12 percent, 45 by 240 mm
abbrev pub living_room_beam : BeamCells
living_room_beam = beam_of 2 12 1000 45 240

-- regime В, M and Q rounded up; bending governs, and it passes
abbrev pub living_room_verdict : BeamVerdict
living_room_verdict = record { verdict = pass 7 457810 0; regime = 3; moment = 4438042; shear = 3885 }

-- the same as a host hands it over: eight cells, each a 1 and the float of its number, the lowest byte first
abbrev pub living_room_bytes : List ℕ
living_room_bytes =
    1 ∷ 0 ∷ 0 ∷ 0 ∷ 0 ∷ 0 ∷ 32 ∷ 140 ∷ 64 ∷
    1 ∷ 0 ∷ 0 ∷ 0 ∷ 0 ∷ 0 ∷ 0 ∷ 137 ∷ 64 ∷
    1 ∷ 0 ∷ 0 ∷ 0 ∷ 0 ∷ 0 ∷ 218 ∷ 177 ∷ 64 ∷
    1 ∷ 0 ∷ 0 ∷ 0 ∷ 0 ∷ 0 ∷ 0 ∷ 0 ∷ 64 ∷
    1 ∷ 0 ∷ 0 ∷ 0 ∷ 0 ∷ 0 ∷ 0 ∷ 40 ∷ 64 ∷
    1 ∷ 0 ∷ 0 ∷ 0 ∷ 0 ∷ 0 ∷ 64 ∷ 143 ∷ 64 ∷
    1 ∷ 0 ∷ 0 ∷ 0 ∷ 0 ∷ 0 ∷ 128 ∷ 70 ∷ 64 ∷
    1 ∷ 0 ∷ 0 ∷ 0 ∷ 0 ∷ 0 ∷ 0 ∷ 110 ∷ 64 ∷
    []

-- an archive: 14,000 of 15,001 N/m last, 93 percent
abbrev pub archive : Loading
archive = loads 14000 1001 1205

-- its beam: K40, 14 percent, office factor 0.9, 39 by 200 mm
abbrev pub archive_beam : BeamCells
archive_beam = beam_of 2 14 900 39 200

-- regime Б; shear governs on so short a span, and it fails
abbrev pub archive_verdict : BeamVerdict
archive_verdict = record { verdict = fail 8 1038489 0; regime = 2; moment = 2722729; shear = 9039 }

-- the shear force that a member carries
abbrev shear_resistance : Member → ℕ
shear_resistance m = shear_capacity m.width m.height (strength_in Shear m)

-- the rows that are made of the two beams
abbrev pub living_room_row : List Cell
living_room_row = beam_row living_room living_room_beam

abbrev pub archive_row : List Cell
archive_row = beam_row archive archive_beam

-- strengths, capacities and the utilisation of both checks
unfoldable pub beam_figures : List Case
beam_figures =
    figure living_room_row (strength_in Bending) 22440 ∷
    figure living_room_row (strength_in Shear) 2574 ∷
    figure living_room_row MRof 9694080 ∷
    figure living_room_row shear_resistance 18532 ∷
    figure living_room_row (utilisation_in bending) 457810 ∷
    figure living_room_row (utilisation_in shear) 209638 ∷
    figure archive_row (strength_in Bending) 14596 ∷
    exact archive_row (exact_strength_in Bending) (whole 14596 ⊕ fraction 1 5) ∷
    figure archive_row (strength_in Shear) 1674 ∷
    exact archive_row (exact_strength_in Shear) (whole 1674 ⊕ fraction 27 100) ∷
    figure archive_row MRof 3794960 ∷
    figure archive_row shear_resistance 8704 ∷
    figure archive_row (utilisation_in bending) 717460 ∷
    figure archive_row (utilisation_in shear) 1038489 ∷
    []
