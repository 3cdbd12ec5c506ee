-- Axial force with bending, check 11, rounded and unrounded. C is the capacity NR × φ' / 1,000,000 (euler_capacity in Buckling).
-- Assumes nothing.
use Rattle.std.specs.Prelude.{ℕ, ◌+◌, ◌-◌, ◌*◌, cond, leb}
use Rattle.rounding.specs.Rounding.{up}
use Rattle.rounding.specs.Fraction.{Fraction, whole, ◌⊗◌, ◌⊘◌, ◌⊕◌, ◌⊖◌, ◌≼◌, ◌≺◌}
use Rattle.rounding.specs.Utilisation.{capped, utilisation}

-- p = 1,000,000 × N / C, up, in millionths
abbrev pub axial_share : ℕ → ℕ → ℕ
axial_share N C = up (1000000 * N) C

-- p, unrounded
abbrev pub exact_axial_share : Fraction → Fraction → Fraction
exact_axial_share N C = whole 1000000 ⊗ N ⊘ C

-- Md = 1,000,000 × M / (1,000,000 − p), up, where p is below 1,000,000
abbrev pub second_order_moment : ℕ → ℕ → ℕ
second_order_moment M p = up (1000000 * M) (1000000 - p)

-- Md, unrounded
abbrev pub exact_second_order_moment : Fraction → Fraction → Fraction
exact_second_order_moment M p = whole 1000000 ⊗ M ⊘ (whole 1000000 ⊖ p)

-- check 11: the utilisations of N against NR and of Md against MR, added
abbrev pub combined : ℕ → ℕ → ℕ → ℕ → ℕ
combined N NR Md MR = capped (utilisation N NR + utilisation Md MR)

-- check 11, unrounded: N / NR + Md / MR ≤ 1
abbrev pub ExactCombined : Fraction → Fraction → Fraction → Fraction → Type 0
ExactCombined N NR Md MR = N ⊘ NR ⊕ Md ⊘ MR ≼ whole 1

-- check 11, kind 4: 9,999,999 where p ≥ 1,000,000
abbrev pub compression_bending_utilisation : ℕ → ℕ → ℕ → ℕ → ℕ → ℕ
compression_bending_utilisation N M NR C MR =
    cond (leb 1000000 (axial_share N C)) 9999999 (combined N NR (second_order_moment M (axial_share N C)) MR)

-- check 11, kind 4, unrounded: the exact p stays below one, and the ratios' sum holds with the exact Md
pub record ExactCompressionBending (N M NR C MR : Fraction) : Type 0 where
  pub share : exact_axial_share N C ≺ whole 1000000
  pub sum : ExactCombined N NR (exact_second_order_moment M (exact_axial_share N C)) MR

-- check 11, kind 5: Md = M, and NR has the tension strength
abbrev pub tension_bending_utilisation : ℕ → ℕ → ℕ → ℕ → ℕ
tension_bending_utilisation N M NR MR = combined N NR M MR

-- check 11, kind 5, unrounded
abbrev pub ExactTensionBending : Fraction → Fraction → Fraction → Fraction → Type 0
ExactTensionBending N M NR MR = ExactCombined N NR M MR
