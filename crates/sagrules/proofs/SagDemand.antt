-- Every answer that is the sag check's keeps the reading of passes and fails, at every factor from `sag_kept_from` on.
-- Assumes nothing.
use Prim.Native.Nat.{ℕ, ◌≤◌}
use native.Mathlib.Omega.{arith}
use mathlib.Core.Bool.{true}
use mathlib.Core.List.{List}
use mathlib.Core.Path.{◌≡◌, refl, ◌∙◌, subst}
use lib.Dec.{lit≤}
use lib.ListN.{length}
use Rattle.std.specs.Prelude.{Result as Answer}
use Rattle.cells.specs.Refusal.{gives}
use Rattle.cells.specs.Row.{cell_count, Cell}
use Rattle.cells.proofs.ResultLaws.{then_given, given_by}
use Rattle.member.specs.Acceptance.{accept}
use Rattle.member.specs.Ranges.{Sized}
use Rattle.member.specs.declared.kind.Kind.{Kind}
use Rattle.member.specs.declared.kind.Kind.TheVariants.{Tension, Bending, Compression, CompressionBending, TensionBending}
use Rattle.member.specs.declared.member.Member.{Member}
use Rattle.member.proofs.AcceptanceLaws.{accept_ranges}
use Rattle.sagrules.specs.Demand.{sag_factor, sag_kept_from, KeepsSagDemand}
use Rattle.sagrules.specs.Sag.{sag_in_range, SagBeamRanges}
use Rattle.sagrules.specs.SagCheck.{sag_beam_of, bending_only, accept_beam, sag_verdict, check_sag, sag_answer_result}
use Rattle.sagrules.specs.declared.answer.SagRefusal.{SagRefusal}
use Rattle.sagrules.specs.declared.answer.SagVerdict.{SagVerdict}
use Rattle.sagrules.specs.declared.sag.Sag.{Sag}
use Rattle.sagrules.specs.declared.sag.SagBeam.{SagBeam}
use Rattle.sagrules.proofs.ElasticityLaws.{known_modulus}
use Rattle.sagrules.proofs.SagLaws.{sag_ranges}
use Rattle.sagrules.proofs.SagSound.{verdict_keeps}

-- request 3's factor is one at which it is kept
pub sag_factor_kept : sag_kept_from ≤ sag_factor
sag_factor_kept = lit≤ tt

-- ---- the beam of a row

-- where a beam is accepted its kind is 2
only_bending : (kind : Kind) (b b' : SagBeam) → bending_only kind b ≡ gives b' → (kind ≡ Bending) × (b ≡ b')
only_bending Bending b b' e = (refl, cc)
only_bending Tension b b' e = absurd (let z : ◌≡◌ {A = ℕ} 0 1 = cc in omega arith)
only_bending Compression b b' e = absurd (let z : ◌≡◌ {A = ℕ} 0 1 = cc in omega arith)
only_bending CompressionBending b b' e = absurd (let z : ◌≡◌ {A = ℕ} 0 1 = cc in omega arith)
only_bending TensionBending b b' e = absurd (let z : ◌≡◌ {A = ℕ} 0 1 = cc in omega arith)

-- a member's beam keeps the ranges of a sag's
pub member_ranges : (m : Member) → Sized m → SagBeamRanges (sag_beam_of m)
member_ranges m sized =
    record {
      grade = known_modulus m.material.grade sized.material.grade;
      moisture = sized.material.moisture;
      width = sized.section.width;
      height = sized.section.height;
    }

-- what an accepted beam stands on: an accepted row of kind 2, whose beam it is
pub record BeamOf (cells : List Cell) (b : SagBeam) : Type 0 where
  pub member : Member
  pub accepted : accept cells ≡ gives member
  pub bent : member.kind ≡ Bending
  pub is : sag_beam_of member ≡ b

pub beam_of : (cells : List Cell) (b : SagBeam) → accept_beam cells ≡ gives b → BeamOf cells b
beam_of cells b e =
    let was = then_given (accept cells) _ b e in
    let only = only_bending was.0.kind (sag_beam_of was.0) b was.2 in
    record { member = was.0; accepted = was.1; bent = only.0; is = only.1 }

-- it keeps its ranges
pub accepted_beam_ranges : (cells : List Cell) (b : SagBeam) → length cells ≡ cell_count → accept_beam cells ≡ gives b → SagBeamRanges b
accepted_beam_ranges cells b whole e =
    let was = beam_of cells b e in
    subst SagBeamRanges was.is (member_ranges was.member (accept_ranges cells was.member whole was.accepted).sized)

-- ---- the answer

-- what the check gives for a beam and a sag that are not refused
pub sag_gives : (cells : List Cell) (s : Sag) (b : SagBeam) → accept_beam cells ≡ gives b → sag_in_range s ≡ true → check_sag cells s ≡ gives (sag_verdict b s)
sag_gives cells s b given within = rw (given, within)

pub answer_keeps : (cells : List Cell) (s : Sag) (answer : Answer SagVerdict SagRefusal) → length cells ≡ cell_count → sag_answer_result answer ≡ check_sag cells s
    → (k : ℕ) → sag_kept_from ≤ k → KeepsSagDemand cells s answer k
answer_keeps cells s answer whole says k big b given within = (
  sag_verdict b s,
  given_by _ _ answer _ (says ∙ sag_gives cells s b given within),
  verdict_keeps (accepted_beam_ranges cells b whole given) (sag_ranges s within) k big,
)
