-- The two worked beams are what the definitions give.
-- Assumes nothing.
use mathlib.Core.Path.{◌≡◌, refl}
use Rattle.cells.specs.Greatest.{greatest}
use Rattle.cells.specs.Lowest.{lowest}
use Rattle.cells.specs.Refusal.{gives}
use Rattle.rounding.specs.Fraction.{fraction, whole, SameValue, ◌⊕◌}
use Rattle.member.specs.Acceptance.{accept_kind}
use Rattle.member.specs.Verdict.{judge_by}
use Rattle.worked.specs.Cases.{All}
use Rattle.worked.proofs.Worked.{◌and◌, same}
use Rattle.floorrules.specs.FloorBeam.{floor_beam}
use Rattle.floorrules.specs.Loads.{exact_moment_of, exact_shear_of}
use Rattle.floorrules.specs.WorkedBeams.{living_room, living_room_beam, living_room_verdict, archive, archive_beam, archive_verdict, beam_figures}

-- the verdicts, with regime, M and Q
pub living_room_lem : floor_beam living_room living_room_beam ≡ gives living_room_verdict
unfolding lowest accept_kind greatest judge_by
living_room_lem = refl

pub archive_floor : floor_beam archive archive_beam ≡ gives archive_verdict
unfolding lowest accept_kind greatest judge_by
archive_floor = refl

-- what M and Q round
pub worked_forces : SameValue (exact_moment_of living_room) (whole 4438041 ⊕ fraction 1 4)
    × SameValue (exact_shear_of living_room) (whole 3884 ⊕ fraction 1 2)
    × SameValue (exact_moment_of archive) (whole 2722728 ⊕ fraction 121 320)
    × SameValue (exact_shear_of archive) (whole 9038 ⊕ fraction 41 400)
worked_forces = (same tt tt refl, same tt tt refl, same tt tt refl, same tt tt refl)

-- the figures on the way
pub worked_figures : All beam_figures
unfolding lowest accept_kind beam_figures
worked_figures =
    refl and
    refl and
    refl and
    refl and
    refl and
    refl and
    refl and
    same tt tt refl and
    refl and
    same tt tt refl and
    refl and
    refl and
    refl and
    refl and
    tt
