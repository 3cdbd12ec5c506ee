-- The design strength: its range, and what rounding takes off it.
-- Assumes nothing.
use Prim.Native.Nat.{ℕ, ◌+◌, ◌*◌, ◌/◌, ◌≤◌, ◌<◌}
use native.Mathlib.Nat.{mul-le-mul_right}
use lib.Dec.{lit<}
use Rattle.rounding.specs.Range.{In}
use Rattle.rounding.specs.Fraction.{whole, ◌⊘◌}
use Rattle.rounding.proofs.Ranges.{in_lit, in_mul, in_div}
use Rattle.rounding.proofs.Near.{Near, near_in, near_down}
use Rattle.sp64.specs.declared.tables.Stress.{Stress}
use Rattle.sp64.specs.declared.tables.Stress.TheVariants.{Bending, Compression, Tension, Shear}
use Rattle.sp64.specs.declared.strength.Material.{Material}
use Rattle.sp64.specs.Ranges.{InOffice, InStrength, least_strength}
use Rattle.sp64.specs.Tables.{table_strength, duration_factor}
use Rattle.sp64.specs.Strength.{MaterialRanges, material_of, undivided, design_strength, exact_strength}
use Rattle.sp64.proofs.TableLaws.{table_in, duration_in, moisture_in}

-- the material of known codes and an office factor in its range
pub material_known : (grade regime percent : ℕ) {office : ℕ} → 0 < table_strength Bending grade → 0 < duration_factor regime → InOffice office → MaterialRanges (material_of grade regime percent office)
material_known grade regime percent known_grade known-regime o =
    record { grade = known_grade; duration = duration_in regime known-regime; moisture = moisture_in percent; office = o }

-- a greater value × t × w × o is no smaller
pub undivided_more : (mat : Material) {x y : ℕ} → x ≤ y → undivided x mat ≤ undivided y mat
undivided_more mat le = mul-le-mul_right _ (mul-le-mul_right _ (mul-le-mul_right _ le))

module _ {mat : Material} (known : MaterialRanges mat) where
  pub undivided_in : {lo hi value : ℕ} → In lo hi value → In (lo * 53 * 75 * 500) (hi * 110 * 100 * 1000) (undivided value mat)
  undivided_in i = in_mul (in_mul (in_mul i known.duration) known.moisture) known.office

  -- a value × t × w × o, divided by d and rounded down: less than one unit is lost
  pub undivided_near : {lo hi value : ℕ} (d : ℕ) → 0 < d → In lo hi value → Near (lo * 53 * 75 * 500 / d) (1 * (lo * 53 * 75 * 500 / d)) (1 * (lo * 53 * 75 * 500 / d + 1)) (undivided value mat / d) (whole (undivided value mat) ⊘ whole d)
  undivided_near d pos i = near_down d pos (near_in (undivided_in i))

  -- and the range that is left
  pub undivided_down_in : {lo hi value : ℕ} (d : ℕ) → 0 < d → In lo hi value → In (lo * 53 * 75 * 500 / d) (hi * 110 * 100 * 1000 / d) (undivided value mat / d)
  undivided_down_in d pos i = in_div pos (undivided_in i) (in_lit d)

  pub strength_in_lem : (stress : Stress) → InStrength stress (design_strength stress mat)
  strength_in_lem Bending = undivided_down_in 10000000 (lit< tt) (table_in mat.grade known.grade Bending)
  strength_in_lem Compression = undivided_down_in 10000000 (lit< tt) (table_in mat.grade known.grade Compression)
  strength_in_lem Tension = undivided_down_in 10000000 (lit< tt) (table_in mat.grade known.grade Tension)
  strength_in_lem Shear = undivided_down_in 10000000 (lit< tt) (table_in mat.grade known.grade Shear)

  pub strength_near : (stress : Stress) → Near (least_strength stress) (least_strength stress) (least_strength stress + 1) (design_strength stress mat) (exact_strength stress mat)
  strength_near Bending = undivided_near 10000000 (lit< tt) (table_in mat.grade known.grade Bending)
  strength_near Compression = undivided_near 10000000 (lit< tt) (table_in mat.grade known.grade Compression)
  strength_near Tension = undivided_near 10000000 (lit< tt) (table_in mat.grade known.grade Tension)
  strength_near Shear = undivided_near 10000000 (lit< tt) (table_in mat.grade known.grade Shear)
