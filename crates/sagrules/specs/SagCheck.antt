-- The sag check: its refusals, and the verdict with the figures that it follows from.
-- Assumes nothing.
use Rattle.std.specs.Prelude.{ℕ, ◌+◌, ◌*◌, List, cond, Result as Answer}
use Rattle.cells.specs.Refusal.{Result, gives, refuses, and_then, refusal_number, refusal_cell, result_by}
use Rattle.cells.specs.Row.{Cell}
use Rattle.member.specs.Acceptance.{accept}
use Rattle.member.specs.declared.kind.Kind.{Kind}
use Rattle.member.specs.declared.kind.Kind.TheVariants.{Tension, Bending, Compression, CompressionBending, TensionBending}
use Rattle.member.specs.declared.member.Member.{Member}
use Rattle.sagrules.specs.Elasticity.{table_modulus, elastic_duration, design_modulus}
use Rattle.sagrules.specs.Sag.{sag_in_range, limit_moment, shear_factor, sag_utilisation, sag_passes}
use Rattle.sagrules.specs.declared.answer.SagRefusal.{SagRefusal}
use Rattle.sagrules.specs.declared.answer.SagRefusal.TheVariants.{NotBending, SagCell, Row as OfRow}
use Rattle.sagrules.specs.declared.answer.SagVerdict.{SagVerdict}
use Rattle.sagrules.specs.declared.sag.Sag.{Sag}
use Rattle.sagrules.specs.declared.sag.SagBeam.{SagBeam}

-- what a sag follows from of a member: cells 2 and 3, w of cell 4, cells 6 and 7
abbrev pub sag_beam_of : Member → SagBeam
sag_beam_of m = record { grade = m.material.grade; regime = m.regime; moisture = m.material.moisture; width = m.width; height = m.height }

-- request 3, refusal 9, cell 1: the row is not of kind 2
abbrev pub bending_only : Kind → SagBeam → Result SagBeam
bending_only Tension b = refuses 9 1
bending_only Bending b = gives b
bending_only Compression b = refuses 9 1
bending_only CompressionBending b = refuses 9 1
bending_only TensionBending b = refuses 9 1

-- request 3: the beam of a row: the row's refusals first, then 9
abbrev pub accept_beam : List Cell → Result SagBeam
accept_beam cells = and_then (accept cells) (λ (m : Member). bending_only m.kind (sag_beam_of m))

-- request 3, refusal 10, cell 0: L, Mn or n outside its range
abbrev pub accept_sag : Sag → Result Sag
accept_sag s = cond (sag_in_range s) (gives s) (refuses 10 0)

-- request 3: the verdict on a sag, with the figures that it follows from
abbrev pub sag_verdict : SagBeam → Sag → SagVerdict
sag_verdict b s =
    record {
      passes = sag_passes b s;
      utilisation = sag_utilisation b s;
      modulus = table_modulus b.grade;
      elastic_duration = elastic_duration b.regime;
      moisture = b.moisture;
      design_modulus = design_modulus b;
      limit_moment = limit_moment b s;
      shear_factor = shear_factor b s;
    }

-- request 3: the verdict on a beam and a sag, each accepted or refused; the beam's refusal first
abbrev pub judge_sag : Result SagBeam → Result Sag → Result SagVerdict
judge_sag beam sag = and_then beam (λ (b : SagBeam). and_then sag (λ (s : Sag). gives (sag_verdict b s)))

-- request 3: the row's refusals, then 9, then 10; otherwise the verdict
abbrev pub check_sag : List Cell → Sag → Result SagVerdict
check_sag cells s = judge_sag (accept_beam cells) (accept_sag s)

-- request 3: the number of a refusal
abbrev pub sag_refusal_number : SagRefusal → ℕ
sag_refusal_number (OfRow refusal) = refusal_number refusal
sag_refusal_number NotBending = 9
sag_refusal_number SagCell = 10

-- request 3: the cell that a refusal names, 0 where it is tied to none
abbrev pub sag_refusal_cell : SagRefusal → ℕ
sag_refusal_cell (OfRow refusal) = refusal_cell refusal
sag_refusal_cell NotBending = 1
sag_refusal_cell SagCell = 0

-- what the host is told of a refusal: 1000 × number + cell
abbrev pub sag_refusal_code : SagRefusal → ℕ
sag_refusal_code refusal = 1000 * sag_refusal_number refusal + sag_refusal_cell refusal

-- what an answer says as a result: its value, a verdict mostly, or a refusal by number and cell
abbrev pub sag_answer_result : {A : Type 0} → Answer A SagRefusal → Result A
sag_answer_result answer = result_by sag_refusal_number sag_refusal_cell answer
