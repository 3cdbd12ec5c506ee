-- The design strength R of a stress, in kPa: rounded down, what the rounding drops, and exact.
-- Assumes nothing.
use Rattle.std.specs.Prelude.{ℕ, ◌*◌, ◌%◌, ◌<◌}
use Rattle.rounding.specs.Rounding.{down}
use Rattle.rounding.specs.Fraction.{Fraction, whole, ◌⊘◌}
use Rattle.sp64.specs.declared.tables.Stress.{Stress}
use Rattle.sp64.specs.declared.tables.Stress.TheVariants.{Bending}
use Rattle.sp64.specs.declared.strength.Material.{Material}
use Rattle.sp64.specs.Ranges.{InDuration, InMoisture, InOffice}
use Rattle.sp64.specs.Tables.{table_strength, duration_factor, moisture_factor}

-- a known grade, the factors t and w of known codes, in hundredths, and the office factor o of cell 5, in thousandths
pub record MaterialRanges (m : Material) : Type 0 where
  pub grade : 0 < table_strength Bending m.grade
  pub duration : InDuration m.duration
  pub moisture : InMoisture m.moisture
  pub office : InOffice m.office

-- the material that cells 2 to 5 give: grade, regime, moisture and office factor
abbrev pub material_of : ℕ → ℕ → ℕ → ℕ → Material
material_of grade regime percent office =
    record { grade = grade; duration = duration_factor regime; moisture = moisture_factor percent; office = office }

-- a value × t × w × o, undivided
abbrev pub undivided : ℕ → Material → ℕ
undivided value m = value * m.duration * m.moisture * m.office

-- R = (table value × t × w × o) / 10,000,000, down
abbrev pub design_strength : Stress → Material → ℕ
design_strength stress m = down (undivided (table_strength stress m.grade) m) 10000000

-- request 2: the remainder of that division, in ten-millionths of a kPa
abbrev pub strength_remainder : Stress → Material → ℕ
strength_remainder stress m = undivided (table_strength stress m.grade) m % 10000000

-- R, unrounded
abbrev pub exact_strength : Stress → Material → Fraction
exact_strength stress m = whole (undivided (table_strength stress m.grade) m) ⊘ whole 10000000
