-- Request 5: s is the largest whole number with s² ≤ t × w × o × 100,000, there is no other, and its range.
-- Assumes nothing.
use Prim.Native.Nat.{ℕ, ◌+◌, ◌*◌, ◌≤◌, ◌<◌}
use native.Mathlib.Omega.{arith}
use mathlib.Core.Path.{◌≡◌}
use lib.Dec.{lit<, lit≤}
use Rattle.rounding.specs.Range.{In}
use Rattle.rounding.specs.Root.{WholeRoot}
use Rattle.rounding.proofs.GreatestLaws.{greatest_unique}
use Rattle.rounding.proofs.Ranges.{in_lit, in_mul, in_div}
use Rattle.rounding.proofs.RootLaws.{root_greatest, root_in, root_next}
use Rattle.sp64.specs.declared.strength.Material.{Material}
use Rattle.sp64.specs.Joint.{condition_root, dowel_bending_capacity}
use Rattle.sp64.specs.Ranges.{InConditionRoot, InDowelBending, InDowelBendingCapacity}
use Rattle.sp64.specs.Strength.{MaterialRanges, undivided}
use Rattle.sp64.proofs.StrengthLaws.{undivided_in}

module _ {mat : Material} (known : MaterialRanges mat) where
  -- t × w × o × 100,000
  under_root_in : In 198750000000 1100000000000 (undivided 100000 mat)
  under_root_in = undivided_in known (in_lit 100000)

  pub condition_root_greatest : WholeRoot (undivided 100000 mat) (condition_root mat)
  condition_root_greatest = root_greatest (undivided 100000 mat) (omega (arith, under_root_in))

  -- so s² ≤ t × w × o × 100,000 < (s + 1)²
  pub condition_root_between : let s = condition_root mat in (s * s ≤ undivided 100000 mat) × (undivided 100000 mat < (s + 1) * (s + 1))
  condition_root_between = (condition_root_greatest.holds, root_next condition_root_greatest)

  pub condition_root_only : (s : ℕ) → WholeRoot (undivided 100000 mat) s → s ≡ condition_root mat
  condition_root_only s other = greatest_unique other condition_root_greatest

  pub condition_root_in : InConditionRoot (condition_root mat)
  condition_root_in = root_in condition_root_greatest under_root_in (lit≤ tt) (lit< tt)

  -- the bending term with it
  pub dowel_bending_capacity_in : {term : ℕ} → InDowelBending term → InDowelBendingCapacity (dowel_bending_capacity term mat)
  dowel_bending_capacity_in i = in_div (lit< tt) (in_mul i condition_root_in) (in_lit 100000)
