-- What the floor-beam check comes to, for each way that it can end.
-- Assumes nothing.
use Prim.Native.Nat.{ℕ}
use mathlib.Core.Bool.{true, false}
use mathlib.Core.Path.{◌≡◌, ◌∙◌}
use Rattle.std.specs.Prelude.{Result as Answer}
use Rattle.cells.specs.Refusal.{gives, refuses, refused_by, by_number}
use Rattle.cells.specs.Row.{cells_of}
use Rattle.cells.specs.declared.refusal.Refusal.{Refusal}
use Rattle.cells.specs.declared.row.Row.{Row}
use Rattle.member.specs.declared.check.Check.{Check}
use Rattle.member.specs.Demand3.{kept_from, EachFrom}
use Rattle.member.specs.Verdict.{check_row}
use Rattle.member.specs.declared.verdict.Verdict.{Verdict}
use Rattle.floorrules.specs.BeamRow.{bending_row, beam_row}
use Rattle.floorrules.specs.Demand.{KeepsFloorDemand}
use Rattle.floorrules.specs.FloorBeam.{floor_beam, beam_answer_result}
use Rattle.floorrules.specs.Loads.{loading_in_range, regime_of, moment_of, shear_of}
use Rattle.floorrules.specs.declared.answer.BeamRefusal.{BeamRefusal}
use Rattle.floorrules.specs.declared.answer.BeamVerdict.{BeamVerdict}
use Rattle.floorrules.specs.declared.beam.BeamCells.{BeamCells}
use Rattle.floorrules.specs.declared.beam.Loading.{Loading}
use Rattle.floorrules.proofs.FloorDemand.{answer_keeps}

-- what the code made of the loads
pub record Made (l : Loading) (regime moment shear : ℕ) : Type 0 where
  pub within : loading_in_range l ≡ true
  pub regime_is : regime ≡ regime_of l
  pub moment_is : moment ≡ moment_of l
  pub shear_is : shear ≡ shear_of l

module _ (l : Loading) (cells : BeamCells) where
  -- the row that was checked is the beam's
  pub row_checked : {regime moment shear : ℕ} (row : Row) (answer : Answer Verdict Refusal) → Made l regime moment shear → cells_of row ≡ bending_row regime moment shear cells
      → by_number answer ≡ check_row (cells_of row) → by_number answer ≡ check_row (beam_row l cells)
  row_checked row answer made is says = says ∙ rw (is, made.regime_is, made.moment_is, made.shear_is)

  pub says_outside : loading_in_range l ≡ false → refuses 8 0 ≡ floor_beam l cells
  says_outside outside = rw outside

  pub says_refused : (refusal : Refusal) → loading_in_range l ≡ true → refused_by refusal ≡ check_row (beam_row l cells) → refused_by refusal ≡ floor_beam l cells
  says_refused refusal within e = rw (within, ← e)

  pub says_judged : {regime moment shear : ℕ} (v : Verdict) → Made l regime moment shear → gives v ≡ check_row (beam_row l cells)
      → gives (record { verdict = v; regime = regime; moment = moment; shear = shear }) ≡ floor_beam l cells
  says_judged v made e = rw (made.within, ← e, made.regime_is, made.moment_is, made.shear_is)

  -- an answer that equals the definition keeps demand 3, at any factors from `kept_from` on
  pub whole_answer : (answer : Answer BeamVerdict BeamRefusal) (k : Check → ℕ) → EachFrom kept_from k → beam_answer_result answer ≡ floor_beam l cells
      → (beam_answer_result answer ≡ floor_beam l cells) × KeepsFloorDemand l cells answer k
  whole_answer answer k big says = (says, answer_keeps l cells answer says k big)
