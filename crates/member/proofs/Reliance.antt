-- What each strength check of an accepted row relies on: the ranges of what it takes, and layout or slenderness where it needs them.
-- Assumes nothing.
use Prim.Native.Nat.{◌≤◌}
use native.Mathlib.Omega.{arith}
use mathlib.Core.Path.{◌≡◌, refl}
use mathlib.Core.Logic.{inl, inr}
use mathlib.Core.Bool.{Bool, true, false}
use borrow.Author.Tests.{ne_eqb, not-false}
use lib.Dec.{lit≤}
use Rattle.rounding.proofs.Ranges.{in_wide}
use Rattle.cells.specs.Greatest.{Among}
use Rattle.sp64.specs.Joint.{JointRanges, Layout}
use Rattle.sp64.specs.Ranges.{InForce, InMoment}
use Rattle.sp64.specs.Slenderness.{StrutRanges}
use Rattle.sp64.proofs.PhiLaws.{Steady}
use Rattle.member.specs.Cells.{required, optional}
use Rattle.member.specs.Checks.{StrengthCheck, YesNoCheck, yes_no, strength, yes_no_checks, strength_checks, omitted, layout, slenderness, net_tension, side_pieces, bending, shear, buckling, compression_bending, tension_bending}
use Rattle.member.specs.Demand3.{LayoutOrSlenderness}
use Rattle.member.specs.Member.{Across, across_height, across_width, strut_of, limit_of}
use Rattle.member.specs.Ranges.{Sized, RangesOf}
use Rattle.member.specs.Unrounded.{forces_of, Holds}
use Rattle.member.specs.declared.kind.Kind.{Kind}
use Rattle.member.specs.declared.kind.Kind.TheVariants.{Tension, Bending, Compression, CompressionBending, TensionBending}
use Rattle.member.specs.declared.member.Member.{Member}
use Rattle.member.proofs.VerdictLaws.{clash}
use Rattle.member.proofs.DemandLaws.{slenderness_low}

-- what check 4 and the count take: cells 2 to 8 and 14 to 22
pub record JointKnown (m : Member) : Type 0 where
  pub sized : Sized m
  pub joint : JointRanges m.joint
  pub force : InForce m.force

-- a joint whose layout holds
pub record JointLaidOut (m : Member) : Type 0 where
  pub joint : JointRanges m.joint
  pub layout : Layout m.height m.joint

-- what strength check c relies on, beside the grade and the section
abbrev pub ReliesOn : Member → StrengthCheck → Type 0
ReliesOn m net_tension = m.jointed ≡ true → JointLaidOut m
ReliesOn m side_pieces = JointLaidOut m
ReliesOn m bending = Unit
ReliesOn m shear = Unit
ReliesOn m (buckling across) = Steady (limit_of m) (strut_of m across)
ReliesOn m compression_bending = Steady (limit_of m) (strut_of m across_height) × InForce m.force × InMoment m.moment
ReliesOn m tension_bending = Unit

module _ (m : Member) where
  -- layout and slenderness hold in a row of the kind
  abbrev pub LayoutAndSlendernessHold : Kind → Type 0
  LayoutAndSlendernessHold kind = (c : YesNoCheck) → LayoutOrSlenderness (yes_no c) → Among c (yes_no_checks kind) → omitted m (yes_no c) ≡ false → Holds m (forces_of m) (yes_no c)

  module _ {kind : Kind} (ranges : RangesOf kind m) where
    -- a row with a joint, which is of kind 1, has them in their ranges
    pub joint_known : m.jointed ≡ true → JointKnown m
    joint_known e = record { sized = ranges.sized; joint = ranges.joint e; force = ranges.force (rw (ranges.tension e) refl) }

    -- a kind without cells of a joint has none
    pub unjointed : optional kind 14 ≡ false → m.jointed ≡ false
    unjointed none = by m.jointed refl
      where
        by : (t : Bool) → m.jointed ≡ t → t ≡ false
        by true e = absurd (clash (rw (ranges.tension e) refl) none)
        by false e = refl

    -- the layout of a joint holds
    laid_out : Among layout (yes_no_checks kind) → LayoutAndSlendernessHold kind → m.jointed ≡ true → JointLaidOut m
    laid_out a hold e = record { joint = ranges.joint e; layout = hold layout (lit≤ tt) a (rw e refl) }

    -- the ranges of both struts
    pub struts_in : required kind 11 ≡ true → (across : Across) → StrutRanges (strut_of m across)
    struts_in has across_height = record { L = (ranges.braced has).lh; s = in_wide 20 2500 (lit≤ tt) (lit≤ tt) ranges.sized.section.height }
    struts_in has across_width = record { L = (ranges.braced has).lb; s = in_wide 20 2500 (lit≤ tt) (lit≤ tt) ranges.sized.section.width }

    -- slenderness holds across the height or the width, where the row has that check
    steady : (across : Across) → required kind 11 ≡ true → Among (slenderness across) (yes_no_checks kind) → omitted m (yes_no (slenderness across)) ≡ false → LayoutAndSlendernessHold kind → Steady (limit_of m) (strut_of m across)
    steady across has a kept hold =
        record { ranges = struts_in has across; most = (ranges.braced has).limit; slender = hold (slenderness across) (slenderness_low across) a kept }

  -- row 4 of Table 16, which omits check 3, is none of kinds 3 and 4
  not_row_4 : m.table16 ≤ 3 → omitted m (yes_no (slenderness across_width)) ≡ false
  not_row_4 low = ne_eqb m.table16 4 (λ e. omega arith)

  -- each strength check of an accepted row has what it relies on
  pub relied_on : (kind : Kind) → RangesOf kind m → LayoutAndSlendernessHold kind → (c : StrengthCheck) → Among c (strength_checks kind) → omitted m (strength c) ≡ false → ReliesOn m c
  relied_on Tension ranges hold c (inl e) kept = rw e (laid_out ranges (inl refl) hold)
  relied_on Tension ranges hold c (inr (inl e)) kept = rw e (laid_out ranges (inl refl) hold (not-false _ (rw e at kept)))
  relied_on Tension ranges hold c (inr (inr a)) kept = absurd a
  relied_on Bending ranges hold c (inl e) kept = rw e tt
  relied_on Bending ranges hold c (inr (inl e)) kept = rw e tt
  relied_on Bending ranges hold c (inr (inr a)) kept = absurd a
  relied_on Compression ranges hold c (inl e) kept = rw e (steady ranges across_height refl (inl refl) refl hold)
  relied_on Compression ranges hold c (inr (inl e)) kept = rw e (steady ranges across_width refl (inr (inl refl)) (not_row_4 (ranges.table16 refl)) hold)
  relied_on Compression ranges hold c (inr (inr a)) kept = absurd a
  relied_on CompressionBending ranges hold c (inl e) kept = rw e tt
  relied_on CompressionBending ranges hold c (inr (inl e)) kept = rw e (steady ranges across_height refl (inl refl) refl hold)
  relied_on CompressionBending ranges hold c (inr (inr (inl e))) kept = rw e (steady ranges across_width refl (inr (inl refl)) (not_row_4 (ranges.table16 refl)) hold)
  relied_on CompressionBending ranges hold c (inr (inr (inr (inl e)))) kept =
      rw e (steady ranges across_height refl (inl refl) refl hold, ranges.force refl, ranges.moment refl)
  relied_on CompressionBending ranges hold c (inr (inr (inr (inr a)))) kept = absurd a
  relied_on TensionBending ranges hold c (inl e) kept = rw e tt
  relied_on TensionBending ranges hold c (inr (inl e)) kept = rw e tt
  relied_on TensionBending ranges hold c (inr (inr a)) kept = absurd a
