-- What the unrounded rule says: the sag 5 × Mn × L² / (48 × E × I), enlarged by the shear factor, is at most the span divided by n.
-- Assumes nothing.
use Prim.Native.Nat.{◌*◌}
use native.Mathlib.Nat.{mul-le-mul_right, le_of_mul-le-mul_right}
use native.Mathlib.Omega.{arith}
use mathlib.Core.Logic.{◌↔◌}
use Rattle.rounding.specs.Fraction.{Fraction, ◌≼◌}
use Rattle.sagrules.specs.Sag.{SagRanges, SagHolds, exact_sag, sag_limit}
use Rattle.sagrules.specs.declared.sag.Sag.{Sag}
use Rattle.sagrules.specs.declared.sag.SagBeam.{SagBeam}

module _ (b : SagBeam) {s : Sag} (ranges : SagRanges s) (Mn : Fraction) where
  pub sag_holds_iff : SagHolds b s Mn ↔ (exact_sag b s Mn ≼ sag_limit s)
  sag_holds_iff = (
    λ h. omega (arith, mul-le-mul_right (12 * s.span) h),
    λ h. le_of_mul-le-mul_right {k = 12 * s.span} (omega (arith, h)) (omega (arith, ranges.span)),
  )
