-- No unrounded rule holds for an empty reason: over the cells' ranges every denominator is above zero, and where layout and slenderness hold no
-- difference is cut off at zero.
-- Assumes nothing.
use Prim.Native.Nat.{ℕ, ◌*◌, ◌≤◌, ◌<◌}
use native.Mathlib.Nat.{mul-pos}
use native.Mathlib.Omega.{arith}
use mathlib.Core.Path.{◌≡◌}
use mathlib.Core.Bool.{true}
use borrow.Author.Tests.{leb-true}
use lib.Dec.{lit<, lit≤}
use Rattle.rounding.specs.Fraction.{Fraction, whole, scaled, ◌⊘◌, ◌⊕◌, ◌⊖◌, ◌≼◌, ◌≺◌}
use Rattle.rounding.proofs.Ranges.{in_lit, in_mul, in_wide}
use Rattle.rounding.proofs.Near.{Near, near_pos}
use Rattle.rounding.proofs.NearRoot.{near_root_pos}
use Rattle.sp64.specs.declared.tables.Stress.{Stress}
use Rattle.sp64.specs.declared.tables.Stress.TheVariants.{Bending, Compression, Tension, Shear}
use Rattle.sp64.specs.declared.strength.Material.{Material}
use Rattle.sp64.specs.declared.joint.Joint.{Joint}
use Rattle.sp64.specs.declared.strut.Strut.{Strut}
use Rattle.sp64.specs.Ranges.{InHeight, InWidth}
use Rattle.sp64.specs.Strength.{MaterialRanges, exact_strength}
use Rattle.sp64.specs.Slenderness.{L², s²}
use Rattle.sp64.specs.Joint.{JointRanges, Layout, core_crushing, side_crushing, dowel_bending, exact_crushing_capacity, exact_dowel_bending²}
use Rattle.sp64.specs.Capacity.{Section, exact_net_tension_capacity, exact_side_piece_capacity, exact_shear_capacity, exact_nr, exact_mr}
use Rattle.sp64.specs.Buckling.{stocky, exact_slender_phi, exact_buckling_phi, exact_buckling_capacity, exact_euler_capacity}
use Rattle.sp64.specs.Combined.{exact_axial_share, exact_second_order_moment}
use Rattle.sp64.proofs.StrengthLaws.{strength_near}
use Rattle.sp64.proofs.JointLaws.{core_crushing_in, side_crushing_in, dowel_bending_in, crushing_near, dowel_bending_near}
use Rattle.sp64.proofs.PhiLaws.{Steady, slender_near, phi_near}
use Rattle.sp64.proofs.CapacityLaws.{net_height_in, tension_near, whole_tension_near, compression_near, bending_near, shear_near, buckling_near}
use Rattle.sp64.proofs.Checks.{phi_loss}

-- a value above zero, with a denominator above zero: it may stand in a numerator and in a denominator
pub record Proper (x : Fraction) : Type 0 where
  pub real : 0 < x.den
  pub some : 0 < x.num

proper : {m f g r : ℕ} {x : Fraction} → 0 < m → Near m f g r x → Proper x
proper pos near = record { real = near.real; some = near_pos pos near }

-- the forces, also times k thousandths
pub scaled_real : (k : ℕ) (force : Fraction) → 0 < force.den → 0 < (scaled k force).den
scaled_real k force real = omega (arith, real)

-- the height that the dowels leave is not cut off where the layout holds
pub net_height_kept : {h : ℕ} {j : Joint} → InHeight h → JointRanges j → Layout h j → j.across * j.diameter < h
net_height_kept height jr layout = omega (arith, (net_height_in height jr layout).low)

-- the first form of φ is not cut off up to the turn at 70
pub stocky_phi_kept : (strut : Strut) → stocky strut ≡ true → whole (960 * L² strut) ⊘ whole (s² strut) ≼ whole 1000000
stocky_phi_kept strut e = let h : 12 * L² strut ≤ 4900 * s² strut = leb-true _ _ e in omega arith

-- φ and φ', where the slenderness is within a limit of Table 16
module _ {limit : ℕ} {strut : Strut} (steady : Steady limit strut) where
  pub phi_proper : Proper (exact_buckling_phi strut)
  phi_proper = proper (lit< tt) (phi_near steady)

  pub slender_phi_proper : Proper (exact_slender_phi strut)
  slender_phi_proper = proper (lit< tt) (slender_near steady)

-- a dowel's terms
module _ {b : ℕ} {j : Joint} {mat : Material} (width : InWidth b) (jr : JointRanges j) (known : MaterialRanges mat) where
  pub core_crushing_proper : Proper (exact_crushing_capacity (core_crushing b j) mat)
  core_crushing_proper = proper (lit< tt) (crushing_near known (core_crushing_in width jr))

  pub side_crushing_proper : Proper (exact_crushing_capacity (side_crushing j) mat)
  side_crushing_proper = proper (lit< tt) (crushing_near known (side_crushing_in jr))

  -- bending, by its square
  pub dowel_bending_proper : Proper (exact_dowel_bending² (dowel_bending j) mat)
  dowel_bending_proper =
      let near = dowel_bending_near known (dowel_bending_in jr) in record { real = near.real; some = near_root_pos (lit< tt) near }

module _ {mat : Material} (known : MaterialRanges mat) where
  pub strength_proper : (stress : Stress) → Proper (exact_strength stress mat)
  strength_proper Bending = proper (lit< tt) (strength_near known Bending)
  strength_proper Compression = proper (lit< tt) (strength_near known Compression)
  strength_proper Tension = proper (lit< tt) (strength_near known Tension)
  strength_proper Shear = proper (lit< tt) (strength_near known Shear)

  module _ {b h : ℕ} (section : Section b h) where
    pub tension_proper : Proper (exact_nr Tension b h mat)
    tension_proper = proper (lit< tt) (whole_tension_near known section)

    module _ {j : Joint} (jr : JointRanges j) (layout : Layout h j) where
      pub net_tension_proper : Proper (exact_net_tension_capacity b h j (exact_strength Tension mat))
      net_tension_proper =
          proper (lit< tt)
          (tension_near known (in_wide 20 600 (lit≤ tt) (lit≤ tt) section.width) (net_height_in section.height jr layout))

      pub side_piece_proper : Proper (exact_side_piece_capacity h j (exact_strength Tension mat))
      side_piece_proper =
          proper (lit< tt)
          (tension_near known (in_mul (in_lit 2) jr.side) (net_height_in section.height jr layout))

    pub compression_proper : Proper (exact_nr Compression b h mat)
    compression_proper = proper (lit< tt) (compression_near known section)

    pub bending_proper : Proper (exact_mr b h mat)
    bending_proper = proper (lit< tt) (bending_near known section)

    pub shear_proper : Proper (exact_shear_capacity b h (exact_strength Shear mat))
    shear_proper = proper (lit< tt) (shear_near known section)

    -- NR × φ of checks 9 and 10, and NR × φ' of check 11
    module _ {limit : ℕ} {strut : Strut} (steady : Steady limit strut) where
      pub buckling_proper : Proper (exact_buckling_capacity (exact_nr Compression b h mat) (exact_buckling_phi strut))
      buckling_proper = proper (lit< tt) (buckling_near known section phi_loss (phi_near steady))

      pub euler_proper : Proper (exact_euler_capacity (exact_nr Compression b h mat) strut)
      euler_proper = proper (lit< tt) (buckling_near known section phi_loss (slender_near steady))

-- p and Md: with a capacity C as above p has a denominator, and where p is below one, 1,000,000 − p is not cut off, so Md has one
module _ (N M C : Fraction) (real-N : 0 < N.den) (real-M : 0 < M.den) (capacity : Proper C) where
  pub share_real : 0 < (exact_axial_share N C).den
  share_real = omega (arith, mul-pos real-N capacity.some)

  module _ (below : exact_axial_share N C ≺ whole 1000000) where
    pub remainder_proper : Proper (whole 1000000 ⊖ exact_axial_share N C)
    remainder_proper = record { real = omega (arith, share_real); some = omega arith }

    pub moment_real : 0 < (exact_second_order_moment M (exact_axial_share N C)).den
    moment_real = mul-pos (omega (arith, real-M)) remainder_proper.some

-- the sum of check 11
pub combined_real : (N NR Md MR : Fraction) → 0 < N.den → Proper NR → 0 < Md.den → Proper MR → 0 < (N ⊘ NR ⊕ Md ⊘ MR).den
combined_real N NR Md MR real-N nr real-Md mr = mul-pos (mul-pos real-N nr.some) (mul-pos real-Md mr.some)
