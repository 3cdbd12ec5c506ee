-- Buckling, checks 9 and 10, and the capacity in p of check 11: φ in millionths, and NR × φ, rounded and unrounded.
-- Assumes nothing.
use Rattle.std.specs.Prelude.{ℕ, ◌-◌, ◌*◌, Bool, cond, leb}
use Rattle.rounding.specs.Rounding.{down, up}
use Rattle.rounding.specs.Fraction.{Fraction, whole, ◌⊗◌, ◌⊘◌, ◌⊖◌}
use Rattle.sp64.specs.declared.strut.Strut.{Strut}
use Rattle.sp64.specs.Slenderness.{L², s²}

-- the turn at slenderness 70: 12 × L² ≤ 4900 × s²
abbrev pub stocky : Strut → Bool
stocky strut = leb (12 * L² strut) (4900 * s² strut)

-- the first form of φ: 1,000,000 − (960 × L² / s², up)
abbrev pub stocky_phi : Strut → ℕ
stocky_phi strut = 1000000 - up (960 * L² strut) (s² strut)

-- the first form, unrounded
abbrev pub exact_stocky_phi : Strut → Fraction
exact_stocky_phi strut = whole 1000000 ⊖ whole (960 * L² strut) ⊘ whole (s² strut)

-- the second form of φ: 250,000,000 × s² / L², down
abbrev pub slender_phi : Strut → ℕ
slender_phi strut = down (250000000 * s² strut) (L² strut)

-- the second form, unrounded
abbrev pub exact_slender_phi : Strut → Fraction
exact_slender_phi strut = whole (250000000 * s² strut) ⊘ whole (L² strut)

-- φ of checks 9 and 10
abbrev pub buckling_phi : Strut → ℕ
buckling_phi strut = cond (stocky strut) (stocky_phi strut) (slender_phi strut)

-- φ of checks 9 and 10, unrounded
abbrev pub exact_buckling_phi : Strut → Fraction
exact_buckling_phi strut = cond (stocky strut) (exact_stocky_phi strut) (exact_slender_phi strut)

-- the capacity of checks 9 and 10: NR × φ / 1,000,000, down, in N, for any φ
abbrev pub buckling_capacity : ℕ → ℕ → ℕ
buckling_capacity NR φ = down (NR * φ) 1000000

-- the same, unrounded
abbrev pub exact_buckling_capacity : Fraction → Fraction → Fraction
exact_buckling_capacity NR φ = NR ⊗ φ ⊘ whole 1000000

-- the capacity in p of check 11: NR × φ' / 1,000,000, down, with φ' the second form at any slenderness, across the height
abbrev pub euler_capacity : ℕ → Strut → ℕ
euler_capacity NR strut = buckling_capacity NR (slender_phi strut)

-- the same, unrounded
abbrev pub exact_euler_capacity : Fraction → Strut → Fraction
exact_euler_capacity NR strut = exact_buckling_capacity NR (exact_slender_phi strut)
