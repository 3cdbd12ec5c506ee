-- The floor-beam check: its refusals, and the verdict with what was made of the loads.
-- Assumes nothing.
use Rattle.std.specs.Prelude.{ℕ, ◌+◌, ◌*◌, cond, Result as Answer}
use Rattle.cells.specs.Refusal.{Result, gives, refuses, and_then, refusal_number, refusal_cell, result_by}
use Rattle.member.specs.Verdict.{check_row}
use Rattle.member.specs.declared.verdict.Verdict.{Verdict}
use Rattle.floorrules.specs.BeamRow.{beam_row}
use Rattle.floorrules.specs.Loads.{loading_in_range, regime_of, moment_of, shear_of}
use Rattle.floorrules.specs.declared.answer.BeamRefusal.{BeamRefusal}
use Rattle.floorrules.specs.declared.answer.BeamRefusal.TheVariants.{LoadOrSpan, Row as OfRow}
use Rattle.floorrules.specs.declared.answer.BeamVerdict.{BeamVerdict}
use Rattle.floorrules.specs.declared.beam.BeamCells.{BeamCells}
use Rattle.floorrules.specs.declared.beam.Loading.{Loading}

-- request 1, refusal 8, cell 0: a load or the span outside its range
abbrev pub accept_loading : Loading → Result Loading
accept_loading l = cond (loading_in_range l) (gives l) (refuses 8 0)

-- a verdict with the regime's code, M and Q beside it
abbrev pub besides : Loading → Verdict → BeamVerdict
besides l v = record { verdict = v; regime = regime_of l; moment = moment_of l; shear = shear_of l }

-- request 1: refusal 8 first, then what "Check a row" gives for the row that is made of the beam
abbrev pub floor_beam : Loading → BeamCells → Result BeamVerdict
floor_beam l cells =
    and_then (accept_loading l) (λ (l : Loading). and_then (check_row (beam_row l cells)) (λ (v : Verdict). gives (besides l v)))

-- the number of a refusal
abbrev pub beam_refusal_number : BeamRefusal → ℕ
beam_refusal_number LoadOrSpan = 8
beam_refusal_number (OfRow refusal) = refusal_number refusal

-- the cell that a refusal names, 0 where it is tied to none
abbrev pub beam_refusal_cell : BeamRefusal → ℕ
beam_refusal_cell LoadOrSpan = 0
beam_refusal_cell (OfRow refusal) = refusal_cell refusal

-- what the host is told of a refusal: 1000 × number + cell
abbrev pub beam_refusal_code : BeamRefusal → ℕ
beam_refusal_code refusal = 1000 * beam_refusal_number refusal + beam_refusal_cell refusal

-- what an answer says as a result: its value, a verdict mostly, or a refusal by number and cell
abbrev pub beam_answer_result : {A : Type 0} → Answer A BeamRefusal → Result A
beam_answer_result answer = result_by beam_refusal_number beam_refusal_cell answer
