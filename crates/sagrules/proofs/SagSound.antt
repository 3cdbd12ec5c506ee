-- What passes sags no further than the limit with nothing rounded, and what fails sags further unrounded at k thousandths of its moment, for every k from 1001.
-- Assumes nothing.
use Prim.Native.Nat.{ℕ, ◌*◌, ◌≤◌, ◌<◌}
use native.Mathlib.Nat.{mul-le-mul_left, mul-le-mul_right, mul-pos}
use native.Mathlib.Omega.{arith}
use borrow.Author.Tests.{leb-true, leb-false}
use Rattle.rounding.specs.Fraction.{Fraction, whole, scaled, ◌⊗◌, ◌≼◌}
use Rattle.rounding.specs.Rounding.{up}
use Rattle.rounding.proofs.Near.{Near}
use Rattle.rounding.proofs.RoundingLaws.{rounding_up}
use Rattle.rounding.proofs.Soundness.{Sound}
use Rattle.sagrules.specs.Demand.{sag_kept_from, SagDemand}
use Rattle.sagrules.specs.Sag.{SagRanges, SagBeamRanges, limit_moment, sag_utilisation, SagHolds}
use Rattle.sagrules.specs.SagCheck.{sag_verdict}
use Rattle.sagrules.specs.declared.sag.Sag.{Sag}
use Rattle.sagrules.specs.declared.sag.SagBeam.{SagBeam}
use Rattle.sagrules.proofs.SagLaws.{GainsAMillionth, limit_moment_in, limit_moment_near, shear_factor_real, shear_factor_above, shear_factor_near}

-- A moment N times a factor f against 1,000,000 times a moment c, where f rounds φ up and c rounds x down.
module _ (N f c : ℕ) (φ x : Fraction) (pos : 0 < c) (near : Near 1944 10000 10007 c x) where
  -- the utilisation is at most one exactly where the product is at most 1,000,000 × c
  below : up (N * f) c ≤ 1000000 → N * f ≤ 1000000 * c
  below h = omega (arith, rounding_up (N * f) c pos, mul-le-mul_left c h)

  above : 1000000 < up (N * f) c → 1000000 * c < N * f
  above h = let u : 1000001 ≤ up (N * f) c = h in omega (arith, rounding_up (N * f) c pos, mul-le-mul_left c u)

  pass_unrounded : φ ≼ whole f → up (N * f) c ≤ 1000000 → whole N ⊗ φ ≼ whole 1000000 ⊗ x
  pass_unrounded gains h =
      omega (
        arith,
        mul-le-mul_right (φ.den * x.den) (below h),
        mul-le-mul_right (N * x.den) gains,
        mul-le-mul_right (1000000 * φ.den) near.below,
      )

  fail_unrounded : (k : ℕ) → sag_kept_from ≤ k → 0 < φ.den → GainsAMillionth f φ → 1000000 < up (N * f) c → scaled k (whole N) ⊗ φ ≼ whole 1000000 ⊗ x → ⊥
  fail_unrounded k big real gains h le =
      omega (
        arith,
        le,
        mul-pos real near.real,
        mul-le-mul_right φ.den near.close,
        mul-le-mul_right (x.den * φ.den) (above h),
        mul-le-mul_right (N * x.den) gains,
        mul-le-mul_right (N * φ.num * x.den) big,
      )

module _ {b : SagBeam} {s : Sag} (known : SagBeamRanges b) (ranges : SagRanges s) where
  -- the check of a sag is sound from 1.001
  pub sag_sound : Sound sag_kept_from (sag_utilisation b s) (SagHolds b s (whole s.moment)) (λ k. SagHolds b s (scaled k (whole s.moment)))
  sag_sound =
      let pos : 0 < limit_moment b s = omega (arith, limit_moment_in known ranges) in
      let near = limit_moment_near known ranges in
      record {
        pass = λ h. pass_unrounded s.moment _ _ _ _ pos near (shear_factor_above known ranges) (omega arith);
        fail = λ k big h. fail_unrounded s.moment _ _ _ _ pos near k big (omega (arith, shear_factor_real known ranges)) (shear_factor_near known ranges) (omega arith);
      }

  -- so its verdict keeps the reading at every factor from there on
  pub verdict_keeps : (k : ℕ) → sag_kept_from ≤ k → SagDemand b s (sag_verdict b s) k
  verdict_keeps k big =
      record {
        pass = λ e. sag_sound.pass (leb-true _ _ e);
        fail = λ e. sag_sound.fail k big (leb-false _ _ e);
      }
