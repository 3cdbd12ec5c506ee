-- What rounding takes off each capacity of a cross-section, and off NR × φ for any φ.
-- Assumes nothing.
use Prim.Native.Nat.{ℕ, ◌+◌, ◌*◌, ◌/◌, ◌≤◌, ◌<◌}
use native.Mathlib.Nat.{mul-le-mul}
use native.Mathlib.Omega.{arith}
use lib.Dec.{lit<, lit≤}
use Rattle.rounding.specs.Range.{In}
use Rattle.rounding.specs.Fraction.{Fraction}
use Rattle.rounding.proofs.Ranges.{in_lit, in_mul}
use Rattle.rounding.proofs.Near.{Near, near_in, near_mul, near_down, near_wide}
use Rattle.sp64.specs.declared.tables.Stress.TheVariants.{Bending, Compression, Tension, Shear}
use Rattle.sp64.specs.declared.strength.Material.{Material}
use Rattle.sp64.specs.declared.joint.Joint.{Joint}
use Rattle.sp64.specs.Ranges.{InHeight}
use Rattle.sp64.specs.Strength.{MaterialRanges, design_strength, exact_strength}
use Rattle.sp64.specs.Joint.{JointRanges, Layout}
use Rattle.sp64.specs.Capacity.{Section, net_height, shear_capacity, exact_shear_capacity, NR, exact_nr, MR, exact_mr}
use Rattle.sp64.specs.Buckling.{buckling_capacity, exact_buckling_capacity}
use Rattle.sp64.proofs.StrengthLaws.{strength_near}

-- the height that the dowels leave, where the layout holds
pub net_height_in : {h : ℕ} {j : Joint} → InHeight h → JointRanges j → Layout h j → In 30 2500 (net_height h j)
net_height_in height jr layout = omega (arith, mul-le-mul jr.across.low jr.diameter.low)

-- φ is at least m, and rounding takes at most the part g / f off it; then NR × φ, of at least 6439 × m millionths, loses at most G hundred-thousandths
pub record PhiLoss (m f g G : ℕ) : Type 0 where
  pub low : 0 < 6439 * m / 1000000
  pub some : 0 < 100000 * f * (6439 * m / 1000000)
  pub wide : 100035 * g * (6439 * m / 1000000 + 1) * 100000 ≤ G * (100000 * f * (6439 * m / 1000000))

module _ {mat : Material} (known : MaterialRanges mat) where
  -- checks 5 and 6, and NR of kind 5: any width and height that a whole section, a net section or two side pieces have
  pub tension_near : {b h : ℕ} → In 20 600 b → In 30 2500 h → Near 2862 100000 100056 (NR Tension b h mat) (exact_nr Tension b h mat)
  tension_near width height =
      near_wide 100000 100056 (lit< tt) (lit≤ tt)
      (near_down 1000 (lit< tt) (near_mul (near_in (in_mul width height)) (strength_near known Tension)))

  module _ {b h : ℕ} (section : Section b h) where
    -- the same of a whole section
    pub whole_tension_near : Near 2862 100000 100056 (NR Tension b h mat) (exact_nr Tension b h mat)
    whole_tension_near = tension_near (record { low = section.width.low; high = omega arith }) (record { low = omega arith; high = section.height.high })

    -- NR of kinds 3 and 4
    pub compression_near : Near 6439 100000 100035 (NR Compression b h mat) (exact_nr Compression b h mat)
    compression_near =
        near_wide 100000 100035 (lit< tt) (lit≤ tt)
        (near_down 1000 (lit< tt) (near_mul (near_in (in_mul section.width section.height)) (strength_near known Compression)))

    -- MR
    pub bending_near : Near 71544 100000 100019 (MR b h mat) (exact_mr b h mat)
    bending_near =
        near_wide 100000 100019 (lit< tt) (lit≤ tt)
        (near_down 6000 (lit< tt)
        (near_mul (near_in (in_mul section.width (in_mul section.height section.height))) (strength_near known Bending)))

    pub shear_near : Near 620 100000 100291 (shear_capacity b h (design_strength Shear mat)) (exact_shear_capacity b h (exact_strength Shear mat))
    shear_near =
        near_wide 100000 100291 (lit< tt) (lit≤ tt)
        (near_down 3000 (lit< tt)
        (near_mul (near_in (in_mul (in_lit 2) (in_mul section.width section.height))) (strength_near known Shear)))

    -- NR × φ for any φ: what rounding takes off φ is a parameter, and so is what it then takes off NR × φ
    pub buckling_near : {m f g G φ : ℕ} {x : Fraction} → PhiLoss m f g G → Near m f g φ x → Near (6439 * m / 1000000) 100000 G (buckling_capacity (NR Compression b h mat) φ) (exact_buckling_capacity (exact_nr Compression b h mat) x)
    buckling_near {G = G} loss phi = near_wide 100000 G loss.some loss.wide (near_down 1000000 (lit< tt) (near_mul compression_near phi))
