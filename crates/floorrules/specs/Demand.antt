-- The reading of a floor beam's passes and fails: demand 3 of its row, at M and Q unrounded.
-- Assumes nothing.
use Rattle.std.specs.Prelude.{ℕ, true, ◌≡◌, Result as Answer, Ok}
use Rattle.cells.specs.Refusal.{gives}
use Rattle.rounding.specs.Fraction.{whole}
use Rattle.member.specs.Acceptance.{accept}
use Rattle.member.specs.Demand3.{Demand3At}
use Rattle.member.specs.Unrounded.{Forces}
use Rattle.member.specs.declared.check.Check.{Check}
use Rattle.member.specs.declared.member.Member.{Member}
use Rattle.floorrules.specs.BeamRow.{beam_row}
use Rattle.floorrules.specs.Loads.{loading_in_range, exact_moment_of, exact_shear_of}
use Rattle.floorrules.specs.declared.answer.BeamRefusal.{BeamRefusal}
use Rattle.floorrules.specs.declared.answer.BeamVerdict.{BeamVerdict}
use Rattle.floorrules.specs.declared.beam.BeamCells.{BeamCells}
use Rattle.floorrules.specs.declared.beam.Loading.{Loading}

-- request 1: the factor of M and Q, in thousandths, with which a check that failed must fail unrounded; its own, whatever the base's may become
abbrev pub floor_factor : Check → ℕ
floor_factor c = 1005

-- M and Q of the loads, unrounded; a floor beam has no N
abbrev pub exact_forces_of : Loading → Forces
exact_forces_of l = record { N = whole 0; M = exact_moment_of l; Q = exact_shear_of l }

-- request 1: for every beam that is not refused the answer is a verdict that keeps demand 3 at M and Q unrounded
abbrev pub KeepsFloorDemand : Loading → BeamCells → Answer BeamVerdict BeamRefusal → (Check → ℕ) → Type 0
KeepsFloorDemand l cells answer k =
    (m : Member) → loading_in_range l ≡ true → accept (beam_row l cells) ≡ gives m
    → (v : BeamVerdict) × (answer ≡ Ok v) × Demand3At m (exact_forces_of l) v.verdict k
