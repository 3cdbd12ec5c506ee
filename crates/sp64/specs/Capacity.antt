-- Capacities of a cross-section, rounded down and exact: NR and checks 5 to 8. Widths and heights in mm, R in kPa.
-- Assumes nothing.
use Rattle.std.specs.Prelude.{ℕ, ◌-◌, ◌*◌}
use Rattle.rounding.specs.Rounding.{down}
use Rattle.rounding.specs.Fraction.{Fraction, whole, ◌⊗◌, ◌⊘◌}
use Rattle.sp64.specs.declared.tables.Stress.{Stress}
use Rattle.sp64.specs.declared.tables.Stress.TheVariants.{Bending}
use Rattle.sp64.specs.declared.strength.Material.{Material}
use Rattle.sp64.specs.declared.joint.Joint.{Joint}
use Rattle.sp64.specs.Ranges.{InHeight, InWidth}
use Rattle.sp64.specs.Strength.{design_strength, exact_strength}

-- the ranges of cells 6 and 7
pub record Section (b h : ℕ) : Type 0 where
  pub width : InWidth b
  pub height : InHeight h

-- a width × a height × R / 1000, down, in N
abbrev pub axial_capacity : ℕ → ℕ → ℕ → ℕ
axial_capacity b h R = down (b * h * R) 1000

-- the same, unrounded
abbrev pub exact_axial_capacity : ℕ → ℕ → Fraction → Fraction
exact_axial_capacity b h R = whole (b * h) ⊗ R ⊘ whole 1000

-- h − r × d: the height that the dowels leave
abbrev pub net_height : ℕ → Joint → ℕ
net_height h j = h - j.across * j.diameter

-- check 5 with a joint: b × (h − r × d) × R / 1000, down; without one it is axial_capacity b h R
abbrev pub net_tension_capacity : ℕ → ℕ → Joint → ℕ → ℕ
net_tension_capacity b h j R = axial_capacity b (net_height h j) R

-- check 5, unrounded
abbrev pub exact_net_tension_capacity : ℕ → ℕ → Joint → Fraction → Fraction
exact_net_tension_capacity b h j R = exact_axial_capacity b (net_height h j) R

-- check 6: 2a × (h − r × d) × R / 1000, down
abbrev pub side_piece_capacity : ℕ → Joint → ℕ → ℕ
side_piece_capacity h j R = axial_capacity (2 * j.side) (net_height h j) R

-- check 6, unrounded
abbrev pub exact_side_piece_capacity : ℕ → Joint → Fraction → Fraction
exact_side_piece_capacity h j R = exact_axial_capacity (2 * j.side) (net_height h j) R

-- check 7: b × h² × R / 6000, down, in N·mm
abbrev pub bending_capacity : ℕ → ℕ → ℕ → ℕ
bending_capacity b h R = down (b * (h * h) * R) 6000

-- check 7, unrounded
abbrev pub exact_bending_capacity : ℕ → ℕ → Fraction → Fraction
exact_bending_capacity b h R = whole (b * (h * h)) ⊗ R ⊘ whole 6000

-- check 8: 2 × F × R / 3000, down, in N, with F = b × h
abbrev pub shear_capacity : ℕ → ℕ → ℕ → ℕ
shear_capacity b h R = down (2 * (b * h) * R) 3000

-- check 8, unrounded
abbrev pub exact_shear_capacity : ℕ → ℕ → Fraction → Fraction
exact_shear_capacity b h R = whole (2 * (b * h)) ⊗ R ⊘ whole 3000

-- NR = F × R / 1000, down: with the compression strength in kinds 3 and 4, with the tension strength in kind 5
abbrev pub NR : Stress → ℕ → ℕ → Material → ℕ
NR stress b h m = axial_capacity b h (design_strength stress m)

-- NR, unrounded
abbrev pub exact_nr : Stress → ℕ → ℕ → Material → Fraction
exact_nr stress b h m = exact_axial_capacity b h (exact_strength stress m)

-- MR of a member
abbrev pub MR : ℕ → ℕ → Material → ℕ
MR b h m = bending_capacity b h (design_strength Bending m)

-- MR of a member, unrounded
abbrev pub exact_mr : ℕ → ℕ → Material → Fraction
exact_mr b h m = exact_bending_capacity b h (exact_strength Bending m)
