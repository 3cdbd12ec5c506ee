-- Every answer that is the floor-beam check's keeps demand 3 at M and Q unrounded, at every factor from `kept_from` on.
-- Assumes nothing.
use Prim.Native.Nat.{ℕ}
use native.Mathlib.Omega.{arith}
use mathlib.Core.Bool.{true}
use mathlib.Core.Path.{◌≡◌, ◌∙◌}
use Rattle.std.specs.Prelude.{Result as Answer}
use Rattle.cells.specs.Refusal.{gives}
use Rattle.cells.proofs.ResultLaws.{given_by}
use Rattle.member.specs.Acceptance.{accept}
use Rattle.member.specs.Demand3.{kept_from, EachFrom, Demand3At}
use Rattle.member.specs.Verdict.{verdict}
use Rattle.member.specs.declared.check.Check.{Check}
use Rattle.member.specs.declared.member.Member.{Member}
use Rattle.member.proofs.KeepsDemand3.{bending_keeps_demand_3}
use Rattle.floorrules.specs.BeamRow.{beam_row}
use Rattle.floorrules.specs.Demand.{floor_factor, exact_forces_of, KeepsFloorDemand}
use Rattle.floorrules.specs.FloorBeam.{besides, floor_beam, beam_answer_result}
use Rattle.floorrules.specs.Loads.{loading_in_range}
use Rattle.floorrules.specs.declared.answer.BeamRefusal.{BeamRefusal}
use Rattle.floorrules.specs.declared.answer.BeamVerdict.{BeamVerdict}
use Rattle.floorrules.specs.declared.beam.BeamCells.{BeamCells}
use Rattle.floorrules.specs.declared.beam.Loading.{Loading}
use Rattle.floorrules.proofs.BeamRowLaws.{beam_whole, beam_member}
use Rattle.floorrules.proofs.LoadLaws.{moment_rounds, shear_rounds}

-- request 1's factor is one at which it is kept
pub floor_factor_kept : EachFrom kept_from floor_factor
floor_factor_kept c = omega arith

module _ (l : Loading) (cells : BeamCells) (m : Member) (given : accept (beam_row l cells) ≡ gives m) where
  -- the verdict on the row keeps demand 3 at the loads' own M and Q
  pub verdict_keeps : (k : Check → ℕ) → EachFrom kept_from k → Demand3At m (exact_forces_of l) (verdict m) k
  verdict_keeps k big =
      let is = beam_member l cells m given in
      bending_keeps_demand_3 (beam_row l cells) m (beam_whole l cells) given is.kind (exact_forces_of l)
      (rw is.moment (moment_rounds l))
      (rw is.shear (shear_rounds l))
      k
      big

  -- what the check gives for a beam that is not refused
  pub floor_gives : loading_in_range l ≡ true → floor_beam l cells ≡ gives (besides l (verdict m))
  floor_gives within = rw (within, given)

pub answer_keeps : (l : Loading) (cells : BeamCells) (answer : Answer BeamVerdict BeamRefusal) → beam_answer_result answer ≡ floor_beam l cells
    → (k : Check → ℕ) → EachFrom kept_from k → KeepsFloorDemand l cells answer k
answer_keeps l cells answer says k big m within given = (
  besides l (verdict m),
  given_by _ _ answer _ (says ∙ floor_gives l cells m given within),
  verdict_keeps l cells m given k big,
)
