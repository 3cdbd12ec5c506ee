-- The reading of a floor beam's passes and fails has teeth: it refutes a refusal of a beam that the rules accept, and wrong verdicts, whatever else they say; its factor is
-- no more than 1.005, and 1.002 would be too little for check 8; it is M and Q unrounded that it speaks of; and nothing in it is empty.
-- Assumes nothing.
use Prim.Native.Nat.{ℕ}
use native.Mathlib.Omega.{arith}
use mathlib.Core.Bool.{true, false}
use mathlib.Core.Logic.{inl, inr}
use mathlib.Core.Path.{◌≡◌, refl, sym, subst}
use lib.Dec.{lit<, lit≤}
use Rattle.std.specs.Prelude.{Ok, Err}
use Rattle.rounding.specs.Fraction.{whole, scaled, ◌≼◌}
use Rattle.cells.specs.Greatest.{greatest}
use Rattle.cells.specs.Lowest.{lowest}
use Rattle.cells.specs.Refusal.{gives}
use Rattle.member.specs.Acceptance.{accept_kind, accept}
use Rattle.member.specs.Checks.{Has}
use Rattle.member.specs.Demand3.{LayoutOrSlenderness, Demand3At}
use Rattle.member.specs.Member.{values_of, member_of, exact_mrof}
use Rattle.member.specs.Unrounded.{forces_of, times, Holds}
use Rattle.member.specs.Verdict.{judge_by}
use Rattle.member.specs.declared.check.Check.{Check}
use Rattle.member.specs.declared.check.Check.TheVariants.{YesNo as yes_no, Strength as strength}
use Rattle.member.specs.declared.check.StrengthCheck.{StrengthCheck}
use Rattle.member.specs.declared.check.StrengthCheck.TheVariants.{Bending as bending, Shear as shear}
use Rattle.member.specs.declared.kind.Kind.TheVariants.{Bending}
use Rattle.member.specs.declared.member.Member.{Member}
use Rattle.member.proofs.DemandLaws.{strength_high}
use Rattle.rounding.proofs.Numerals.{past_it}
use Rattle.member.proofs.NothingEmpty.{Real, ProperAt, times_real, nothing_empty_at}
use Rattle.worked.specs.Cases.{fail}
use Rattle.floorrules.specs.BeamRow.{beam_row}
use Rattle.floorrules.specs.Demand.{floor_factor, exact_forces_of, KeepsFloorDemand}
use Rattle.floorrules.specs.EdgeBeams.{bending_edge, bending_edge_beam, shear_edge, shear_edge_beam, rounding_edge, rounding_edge_beam}
use Rattle.floorrules.specs.FloorBeam.{floor_beam}
use Rattle.floorrules.specs.Loads.{loading_in_range, moment_of}
use Rattle.floorrules.specs.WorkedBeams.{living_room, living_room_beam, archive, archive_beam}
use Rattle.floorrules.specs.declared.answer.BeamRefusal.{BeamRefusal}
use Rattle.floorrules.specs.declared.answer.BeamVerdict.{BeamVerdict}
use Rattle.floorrules.specs.declared.beam.BeamCells.{BeamCells}
use Rattle.floorrules.specs.declared.beam.Loading.{Loading}
use Rattle.floorrules.proofs.BeamMeaning.{BendingAt, ShearAt}
use Rattle.floorrules.proofs.BeamRowLaws.{beam_whole, beam_member}

-- the member of a beam whose row is accepted
abbrev member_of_beam : Loading → BeamCells → Member
member_of_beam l cells = member_of Bending false (values_of (beam_row l cells))

-- the beams below are not refused
pub beams_accepted : (accept (beam_row living_room living_room_beam) ≡ gives (member_of_beam living_room living_room_beam))
    × (accept (beam_row archive archive_beam) ≡ gives (member_of_beam archive archive_beam))
    × (accept (beam_row bending_edge bending_edge_beam) ≡ gives (member_of_beam bending_edge bending_edge_beam))
    × (accept (beam_row shear_edge shear_edge_beam) ≡ gives (member_of_beam shear_edge shear_edge_beam))
    × (accept (beam_row rounding_edge rounding_edge_beam) ≡ gives (member_of_beam rounding_edge rounding_edge_beam))
unfolding accept_kind lowest
beams_accepted = (refl, refl, refl, refl, refl)

-- what it says of a verdict on a beam that is not refused
module _ (l : Loading) (cells : BeamCells) (within : loading_in_range l ≡ true) (given : accept (beam_row l cells) ≡ gives (member_of_beam l cells)) (k : Check → ℕ) where
  pub refused_breaks : (refusal : BeamRefusal) → KeepsFloorDemand l cells (Err refusal) k → ⊥
  refused_breaks refusal keeps =
      let answer : Err refusal ≡ Ok (keeps (member_of_beam l cells) within given).0 = (keeps (member_of_beam l cells) within given).1 in
      absurd (let z : ◌≡◌ {A = ℕ} 0 1 = cc in omega arith)

  at_verdict : (w : BeamVerdict) → KeepsFloorDemand l cells (Ok w) k → Demand3At (member_of_beam l cells) (exact_forces_of l) w.verdict k
  at_verdict w keeps =
      let kept = keeps (member_of_beam l cells) within given in
      let answer : Ok w ≡ Ok kept.0 = kept.1 in
      let same : w ≡ kept.0 = cc in
      subst (λ (v : BeamVerdict). Demand3At (member_of_beam l cells) (exact_forces_of l) v.verdict k) (sym same) kept.2

  -- a pass: check 8 holds
  passed : (w : BeamVerdict) → w.verdict.passes ≡ true → KeepsFloorDemand l cells (Ok w) k → Holds (member_of_beam l cells) (exact_forces_of l) (strength shear)
  passed w e keeps = (at_verdict w keeps).pass e (strength shear) (record { of_kind = inr (inl refl); kept = refl })

  -- a fail on check 7, and on check 8: it fails at the factor
  failed_7 : (w : BeamVerdict) → w.verdict.passes ≡ false → w.verdict.check ≡ 7 → KeepsFloorDemand l cells (Ok w) k
      → Holds (member_of_beam l cells) (times (k (strength bending)) (exact_forces_of l)) (strength bending) → ⊥
  failed_7 w e named keeps =
      (at_verdict w keeps).fail (strength bending) (record { of_kind = inl refl; kept = refl }) (λ low. absurd (omega arith)) (record { fails = e; names = named })

  failed_8 : (w : BeamVerdict) → w.verdict.passes ≡ false → w.verdict.check ≡ 8 → KeepsFloorDemand l cells (Ok w) k
      → Holds (member_of_beam l cells) (times (k (strength shear)) (exact_forces_of l)) (strength shear) → ⊥
  failed_8 w e named keeps =
      (at_verdict w keeps).fail (strength shear) (record { of_kind = inr (inl refl); kept = refl }) (λ low. absurd (omega arith)) (record { fails = e; names = named })

-- ---- wrong checkers

-- One that refuses the living room, whatever the refusal.
pub living_room_refused : (k : Check → ℕ) (refusal : BeamRefusal) → KeepsFloorDemand living_room living_room_beam (Err refusal) k → ⊥
living_room_refused k = refused_breaks living_room living_room_beam refl beams_accepted.0 k

-- One that fails it, on check 7 or 8.
pub living_room_failed_7 : (w : BeamVerdict) → w.verdict.passes ≡ false → w.verdict.check ≡ 7 → KeepsFloorDemand living_room living_room_beam (Ok w) floor_factor → ⊥
living_room_failed_7 w e named keeps = failed_7 living_room living_room_beam refl beams_accepted.0 floor_factor w e named keeps (lit≤ tt)

pub living_room_failed_8 : (w : BeamVerdict) → w.verdict.passes ≡ false → w.verdict.check ≡ 8 → KeepsFloorDemand living_room living_room_beam (Ok w) floor_factor → ⊥
living_room_failed_8 w e named keeps = failed_8 living_room living_room_beam refl beams_accepted.0 floor_factor w e named keeps (lit≤ tt)

-- One that passes the archive, whatever the factor.
pub archive_passed : (k : Check → ℕ) (w : BeamVerdict) → w.verdict.passes ≡ true → KeepsFloorDemand archive archive_beam (Ok w) k → ⊥
archive_passed k w e keeps = past_it _ _ refl (passed archive archive_beam refl beams_accepted.1 k w e keeps)

-- ---- the factor, and what is unrounded

-- A fail on check 7 of the one, on check 8 of the other, is refuted.
pub bending_edge_failed : (w : BeamVerdict) → w.verdict.passes ≡ false → w.verdict.check ≡ 7 → KeepsFloorDemand bending_edge bending_edge_beam (Ok w) floor_factor → ⊥
bending_edge_failed w e named keeps = failed_7 bending_edge bending_edge_beam refl beams_accepted.2 floor_factor w e named keeps (lit≤ tt)

pub shear_edge_failed : (w : BeamVerdict) → w.verdict.passes ≡ false → w.verdict.check ≡ 8 → KeepsFloorDemand shear_edge shear_edge_beam (Ok w) floor_factor → ⊥
shear_edge_failed w e named keeps = failed_8 shear_edge shear_edge_beam refl beams_accepted.3 floor_factor w e named keeps (lit≤ tt)

-- It would not be with M and Q rounded up, nor at 1.006: there the check does not hold.
pub rounded_7 : scaled 1005 (whole (moment_of bending_edge)) ≼ exact_mrof (member_of_beam bending_edge bending_edge_beam) → ⊥
rounded_7 h = past_it _ _ refl h

pub past_7 : BendingAt 1006 bending_edge (member_of_beam bending_edge bending_edge_beam) → ⊥
past_7 h = past_it _ _ refl h

pub rounded_8 : Holds (member_of_beam shear_edge shear_edge_beam) (times 1005 (forces_of (member_of_beam shear_edge shear_edge_beam))) (strength shear) → ⊥
rounded_8 h = past_it _ _ refl h

pub past_8 : ShearAt 1006 shear_edge (member_of_beam shear_edge shear_edge_beam) → ⊥
past_8 h = past_it _ _ refl h

-- A beam that the rules fail on check 8 by rounding alone: at 1.002 the reading would be broken.
pub rounding_edge_lem : floor_beam rounding_edge rounding_edge_beam ≡ gives (record { verdict = fail 8 1001544 0; regime = 2; moment = 81032; shear = 649 })
unfolding accept_kind lowest judge_by greatest
rounding_edge_lem = refl

pub broken_at_1002 : (k : Check → ℕ) → k (strength shear) ≡ 1002 → (w : BeamVerdict) → gives w ≡ floor_beam rounding_edge rounding_edge_beam → KeepsFloorDemand rounding_edge rounding_edge_beam (Ok w) k → ⊥
broken_at_1002 k e w given keeps =
    let verdict : w ≡ record { verdict = fail 8 1001544 0; regime = 2; moment = 81032; shear = 649 } = cc (given, rounding_edge_lem) in
    failed_8 rounding_edge rounding_edge_beam refl beams_accepted.4 k w (rw verdict) (rw verdict) keeps (rw e (lit≤ tt))

-- ---- nothing is empty

module _ (l : Loading) (cells : BeamCells) (m : Member) (given : accept (beam_row l cells) ≡ gives m) where
  -- kind 2 has no check of layout or slenderness
  no_yes_no : (c : Check) → LayoutOrSlenderness c → Has m c → Holds m (forces_of m) c
  no_yes_no (yes_no c) low has = absurd (rw (beam_member l cells m given).kind at has.of_kind)
  no_yes_no (strength c) low has = absurd (omega (arith, strength_high c))

  real : Real (exact_forces_of l)
  real = record { N = lit< tt; M = lit< tt; Q = lit< tt }

  -- at M and Q unrounded, and at k thousandths of them, every value in checks 7 and 8 has a denominator above zero, and every capacity is above zero
  pub nothing_empty : (c : StrengthCheck) → Has m (strength c) → ProperAt m (exact_forces_of l) c
  nothing_empty = nothing_empty_at (beam_row l cells) m (beam_whole l cells) given no_yes_no (exact_forces_of l) real

  pub nothing_empty_scaled : (k : ℕ) (c : StrengthCheck) → Has m (strength c) → ProperAt m (times k (exact_forces_of l)) c
  nothing_empty_scaled k =
      nothing_empty_at (beam_row l cells) m (beam_whole l cells) given no_yes_no (times k (exact_forces_of l)) (times_real k (exact_forces_of l) real)
