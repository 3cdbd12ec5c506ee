-- How great the numbers of a verdict on an accepted row can be: a check from 1 to 11, a utilisation of at most 9,999,999, a count of at most 4,192,873.
-- Assumes nothing.
use Prim.Native.Nat.{ℕ, ◌≤◌}
use native.Mathlib.Nat.{min-le_left, le_refl}
use native.Mathlib.Omega.{arith}
use mathlib.Core.Path.{◌≡◌, refl}
use mathlib.Core.Logic.{inl, inr}
use mathlib.Core.Bool.{Bool, true, false, cond}
use mathlib.Core.List.{List}
use lib.Dec.{leb, lit≤}
use lib.ListN.{length}
use Rattle.rounding.specs.Greatest.{by_digits}
use Rattle.rounding.specs.Range.{In}
use Rattle.cells.specs.Greatest.{greatest}
use Rattle.cells.specs.Lowest.{lowest}
use Rattle.cells.specs.Refusal.{gives}
use Rattle.cells.specs.Row.{cell_count, Cell}
use Rattle.sp64.specs.Buckling.{euler_capacity}
use Rattle.sp64.specs.Combined.{axial_share, second_order_moment, combined, compression_bending_utilisation}
use Rattle.sp64.specs.declared.tables.Stress.TheVariants.{Compression}
use Rattle.sp64.proofs.JointLaws.{count_in}
use Rattle.member.specs.Acceptance.{accept_kind, accept}
use Rattle.member.specs.Checks.{Check, YesNoCheck, StrengthCheck, yes_no, strength, check_number, layout, slenderness, joint_length, net_tension, side_pieces, bending, shear, buckling, compression_bending, tension_bending}
use Rattle.member.specs.EdgeRows.{most_dowels, most_used}
use Rattle.member.specs.Member.{across_height, across_width, strut_of, count_of, NRof, MRof}
use Rattle.member.specs.Ranges.{RangesOf}
use Rattle.member.specs.Verdict.{utilisation_of, count_on_fail, judge_by, verdict, check_row}
use Rattle.member.specs.declared.member.Member.{Member}
use Rattle.member.specs.declared.verdict.Verdict.{Verdict}
use Rattle.member.proofs.AcceptanceLaws.{accept_ranges}
use Rattle.member.proofs.Reliance.{joint_known}
use Rattle.member.proofs.VerdictLaws.{governs, VerdictOutcome, verdict_outcome}

-- the numbers of a verdict
pub record VerdictRange (v : Verdict) : Type 0 where
  pub check : In 1 11 v.check
  pub utilisation : v.utilisation ≤ 9999999
  pub count : v.count ≤ 4192873

number_in : (c : Check) → In 1 11 (check_number c)
number_in (yes_no layout) = omega arith
number_in (yes_no (slenderness across_height)) = omega arith
number_in (yes_no (slenderness across_width)) = omega arith
number_in (yes_no joint_length) = omega arith
number_in (strength net_tension) = omega arith
number_in (strength side_pieces) = omega arith
number_in (strength bending) = omega arith
number_in (strength shear) = omega arith
number_in (strength (buckling across_height)) = omega arith
number_in (strength (buckling across_width)) = omega arith
number_in (strength compression_bending) = omega arith
number_in (strength tension_bending) = omega arith

-- the utilisation of check 11 in kind 4 is capped, whichever way it comes about
combined_most : (N M NR C MR : ℕ) → compression_bending_utilisation N M NR C MR ≤ 9999999
combined_most N M NR C MR = by (leb 1000000 (axial_share N C))
  where
    by : (t : Bool) → cond t 9999999 (combined N NR (second_order_moment M (axial_share N C)) MR) ≤ 9999999
    by true = le_refl 9999999
    by false = min-le_left 9999999 _

module _ (m : Member) where
  -- every utilisation is capped
  pub utilisation_most : (c : StrengthCheck) → utilisation_of m c ≤ 9999999
  utilisation_most net_tension = min-le_left 9999999 _
  utilisation_most side_pieces = min-le_left 9999999 _
  utilisation_most bending = min-le_left 9999999 _
  utilisation_most shear = min-le_left 9999999 _
  utilisation_most (buckling across) = min-le_left 9999999 _
  utilisation_most compression_bending =
      let NR = NRof Compression m in combined_most m.force m.moment NR (euler_capacity NR (strut_of m across_height)) (MRof m)
  utilisation_most tension_bending = min-le_left 9999999 _

  -- the count, by whether the row has a joint
  count_most : RangesOf m.kind m → count_of m ≤ 4192873
  count_most ranges = by m.jointed refl
    where
      by : (t : Bool) → m.jointed ≡ t → count_of m ≤ 4192873
      by true e = let j = joint_known m ranges e in rw e (count_in j.force j.sized.section.width j.joint j.sized.material).high
      by false e = rw e (lit≤ tt)

  fail_count_most : RangesOf m.kind m → (c : YesNoCheck) → count_on_fail m c ≤ 4192873
  fail_count_most ranges layout = lit≤ tt
  fail_count_most ranges (slenderness across) = lit≤ tt
  fail_count_most ranges joint_length = count_most ranges

  pub verdict_range : RangesOf m.kind m → VerdictRange (verdict m)
  verdict_range ranges = by (verdict_outcome m)
    where
      by : VerdictOutcome m → VerdictRange (verdict m)
      by (inl (all, e)) =
          let g = governs m m.kind in
          rw (e, g.2) (record { check = number_in (strength g.0); utilisation = utilisation_most g.0; count = count_most ranges })
      by (inr (c, fails, e)) = rw e (record { check = number_in (yes_no c); utilisation = lit≤ tt; count = fail_count_most ranges c })

-- the verdict on every row that is not refused
pub accepted_verdict_range : (cells : List Cell) (m : Member) → length cells ≡ cell_count → accept cells ≡ gives m → VerdictRange (verdict m)
accepted_verdict_range cells m whole given = verdict_range m (accept_ranges cells m whole given)

-- and the greatest count and utilisation are reached, by whole rows
pub most_dowels_lem : (check_row most_dowels ≡ gives (record { passes = false; check = 4; utilisation = 0; count = 4192873 })) × (length most_dowels ≡ cell_count)
unfolding accept_kind lowest judge_by greatest by_digits
most_dowels_lem = (refl, refl)

pub most_used_lem : (check_row most_used ≡ gives (record { passes = false; check = 7; utilisation = 9999999; count = 0 })) × (length most_used ≡ cell_count)
unfolding accept_kind lowest judge_by greatest
most_used_lem = (refl, refl)
