-- The sag of a beam on two supports under an even load, against the limit span / n: the moment that sags it so far, by how much shear enlarges the sag, the utilisation; each rounded and,
-- beside it, unrounded.
-- Assumes nothing.
use Rattle.std.specs.Prelude.{ℕ, ◌+◌, ◌*◌, ◌<◌, Bool, ◌&&◌, leb}
use Rattle.rounding.specs.Fraction.{Fraction, whole, ◌⊗◌, ◌⊘◌, ◌⊕◌, ◌≼◌}
use Rattle.rounding.specs.Range.{In}
use Rattle.rounding.specs.Rounding.{down, up}
use Rattle.rounding.specs.Utilisation.{capped}
use Rattle.sp64.specs.Ranges.{InMoisture, InWidth, InHeight}
use Rattle.member.specs.Cells.{within}
use Rattle.sagrules.specs.Elasticity.{table_modulus, design_modulus, exact_design_modulus}
use Rattle.sagrules.specs.declared.sag.Sag.{Sag}
use Rattle.sagrules.specs.declared.sag.SagBeam.{SagBeam}

-- ---- ranges

-- request 3: L from 500 to 20,000 mm, Mn from 1 to 10,000,000,000 N·mm, n from 100 to 500
abbrev pub sag_in_range : Sag → Bool
sag_in_range s = within 500 20000 s.span && within 1 10000000000 s.moment && within 100 500 s.ratio

-- three numbers in their ranges, as the functions ask for them
pub record SagRanges (s : Sag) : Type 0 where
  pub span : In 500 20000 s.span
  pub moment : In 1 10000000000 s.moment
  pub ratio : In 100 500 s.ratio

-- a known grade, and w, b and h in the ranges of an accepted row; every regime has its e
pub record SagBeamRanges (b : SagBeam) : Type 0 where
  pub grade : 0 < table_modulus b.grade
  pub moisture : InMoisture b.moisture
  pub width : InWidth b.width
  pub height : InHeight b.height

-- ---- the rules

-- h³
abbrev pub h³ : SagBeam → ℕ
h³ b = b.height * b.height * b.height

-- h²
abbrev pub h² : SagBeam → ℕ
h² b = b.height * b.height

-- the square of the span
abbrev pub span² : Sag → ℕ
span² s = s.span * s.span

-- request 3: Mf = 4 × E × b × h³ / (5 × L × n), down, in N·mm: but for shear the sag reaches span / n at this moment
abbrev pub limit_moment : SagBeam → Sag → ℕ
limit_moment b s = down (4 * design_modulus b * b.width * h³ b) (5 * s.span * s.ratio)

-- request 3: Mf, unrounded
abbrev pub exact_limit_moment : SagBeam → Sag → Fraction
exact_limit_moment b s = whole 4 ⊗ exact_design_modulus b ⊗ whole b.width ⊗ whole (h³ b) ⊘ whole (5 * s.span * s.ratio)

-- request 3: the shear factor, in millionths: 1,000,000 + (19,200,000 × h² / L², up)
abbrev pub shear_factor : SagBeam → Sag → ℕ
shear_factor b s = 1000000 + up (19200000 * h² b) (span² s)

-- request 3: the shear factor, unrounded
abbrev pub exact_shear_factor : SagBeam → Sag → Fraction
exact_shear_factor b s = whole 1000000 ⊕ whole (19200000 * h² b) ⊘ whole (span² s)

-- request 3: the utilisation, in millionths: Mn × factor / Mf, up, and capped
abbrev pub sag_utilisation : SagBeam → Sag → ℕ
sag_utilisation b s = capped (up (s.moment * shear_factor b s) (limit_moment b s))

-- request 3: a sag passes up to 1,000,000
abbrev pub sag_passes : SagBeam → Sag → Bool
sag_passes b s = leb (sag_utilisation b s) 1000000

-- request 3, unrounded: Mn × factor ≤ 1,000,000 × Mf; law `sag_holds_iff` (proofs/SagFormula.antt): the sag is at most its limit
abbrev pub SagHolds : SagBeam → Sag → Fraction → Type 0
SagHolds b s Mn = Mn ⊗ exact_shear_factor b s ≼ whole 1000000 ⊗ exact_limit_moment b s

-- ---- the sag itself, unrounded

-- the second moment of area I = b × h³ / 12, in mm⁴
abbrev pub exact_inertia : SagBeam → Fraction
exact_inertia b = whole (b.width * h³ b) ⊘ whole 12

-- request 3: the sag 5 × Mn × L² / (48 × E × I), enlarged by the shear factor, in mm; with E unrounded
abbrev pub exact_sag : SagBeam → Sag → Fraction → Fraction
exact_sag b s Mn =
    whole 5 ⊗ Mn ⊗ whole (span² s) ⊘ (whole 48 ⊗ exact_design_modulus b ⊗ exact_inertia b) ⊗ exact_shear_factor b s ⊘ whole 1000000

-- request 3: the limit, span / n, in mm
abbrev pub sag_limit : Sag → Fraction
sag_limit s = whole s.span ⊘ whole s.ratio
