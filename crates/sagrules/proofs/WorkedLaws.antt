-- The worked sags are what the definitions give.
-- Assumes nothing.
use mathlib.Core.Bool.{true, false}
use mathlib.Core.Path.{◌≡◌, refl}
use Rattle.cells.specs.Lowest.{lowest}
use Rattle.cells.specs.Refusal.{gives}
use Rattle.rounding.specs.Fraction.{fraction, whole, SameValue, ◌⊕◌}
use Rattle.member.specs.Acceptance.{accept_kind}
use Rattle.worked.proofs.Worked.{same}
use Rattle.sagrules.specs.Elasticity.{exact_design_modulus}
use Rattle.sagrules.specs.EdgeSags.{rounding_row, rounding_beam}
use Rattle.sagrules.specs.Sag.{sag_in_range, sag_utilisation, sag_passes, exact_limit_moment, exact_shear_factor}
use Rattle.sagrules.specs.SagCheck.{accept_beam, check_sag}
use Rattle.sagrules.specs.WorkedSags.{sag_beam, living_room_row, living_room_sag, living_room_verdict, store_row, store_sag, store_verdict, weakest_row, weakest_beam, weakest_verdict, longest_sag, highest_row, highest_beam, shortest_sag, living_room_at}
use Rattle.sagrules.specs.declared.sag.SagBeam.{SagBeam}

abbrev pub living_room_beam : SagBeam
living_room_beam = sag_beam 2 3 100 45 240

abbrev pub store_beam : SagBeam
store_beam = sag_beam 2 2 85 60 220

-- the beams of the rows: none is refused
pub beams_accepted : (accept_beam living_room_row ≡ gives living_room_beam)
    × (accept_beam store_row ≡ gives store_beam)
    × (accept_beam weakest_row ≡ gives weakest_beam)
    × (accept_beam rounding_row ≡ gives rounding_beam)
    × (accept_beam highest_row ≡ gives highest_beam)
unfolding accept_kind lowest
beams_accepted = (refl, refl, refl, refl, refl)

-- the verdicts, with each figure
pub living_room_sags : check_sag living_room_row living_room_sag ≡ gives living_room_verdict
unfolding accept_kind lowest
living_room_sags = refl

pub store_sags : check_sag store_row store_sag ≡ gives store_verdict
unfolding accept_kind lowest
store_sags = refl

-- E, Mf and the shear factor, unrounded
pub living_room_exact : SameValue (exact_design_modulus living_room_beam) (whole 9900)
    × SameValue (exact_limit_moment living_room_beam living_room_sag) (whole 4312362 ⊕ fraction 6 457)
    × SameValue (exact_shear_factor living_room_beam living_room_sag) (whole 1052953 ⊕ fraction 18903 208849)
living_room_exact = (same tt tt refl, same tt tt refl, same tt tt refl)

pub store_exact : SameValue (exact_design_modulus store_beam) (whole 7012 ⊕ fraction 1 2)
    × SameValue (exact_limit_moment store_beam store_sag) (whole 3063347 ⊕ fraction 9 13)
    × SameValue (exact_shear_factor store_beam store_sag) (whole 1061096 ⊕ fraction 328 507)
store_exact = (same tt tt refl, same tt tt refl, same tt tt refl)

-- a row whose Mf is 1944, the least there is (`limit_moment_in`)
pub weakest_sags : check_sag weakest_row (longest_sag 1) ≡ gives weakest_verdict
unfolding accept_kind lowest
weakest_sags = refl

-- the sag of the greatest Mf and product is within its ranges; so is that of the least Mf, for any moment from 1 on that a sag may have
pub ends_within : (sag_in_range shortest_sag ≡ true) × (sag_in_range (longest_sag 1) ≡ true)
ends_within = (refl, refl)

-- exactly 1,000,000 passes, and one N·mm more fails
pub the_turn : (sag_utilisation living_room_beam (living_room_at 4095489) ≡ 1000000)
    × (sag_passes living_room_beam (living_room_at 4095489) ≡ true)
    × (sag_utilisation living_room_beam (living_room_at 4095490) ≡ 1000001)
    × (sag_passes living_room_beam (living_room_at 4095490) ≡ false)
the_turn = (refl, refl, refl, refl)

-- the cap: what stays below it is given as it is, what exceeds it as 9,999,999
pub the_cap : (sag_utilisation weakest_beam (longest_sag 19436) ≡ 9999673) × (sag_utilisation weakest_beam (longest_sag 19437) ≡ 9999999)
the_cap = (refl, refl)
