-- The ranges of a sag: what is tested, Mf and the shear factor over them, and the greatest product, which 64 bits hold.
-- Assumes nothing.
use Prim.Native.Nat.{ℕ, ◌*◌, ◌^◌, ◌≤◌, ◌<◌}
use native.Mathlib.Omega.{arith}
use mathlib.Core.Bool.{true, false}
use mathlib.Core.Path.{◌≡◌, refl}
use lib.Dec.{lit<, lit≤}
use Rattle.rounding.specs.Fraction.{Fraction, whole, ◌≼◌}
use Rattle.rounding.specs.Range.{In}
use Rattle.rounding.specs.Rounding.{up}
use Rattle.rounding.proofs.Near.{Near, near_in, near_mul, near_div, near_wide}
use Rattle.rounding.proofs.Ranges.{in_lit, in_mul, in_div}
use Rattle.rounding.proofs.RoundingLaws.{rounding_up, up_le, lt_up}
use Rattle.member.proofs.AcceptanceLaws.{both_true}
use Rattle.worksheet.proofs.OwnCellMeaning.{within_range}
use Rattle.sagrules.specs.Elasticity.{design_modulus}
use Rattle.sagrules.specs.Sag.{sag_in_range, SagRanges, SagBeamRanges, h², h³, span², limit_moment, exact_limit_moment, shear_factor, exact_shear_factor}
use Rattle.sagrules.specs.WorkedSags.{sag_at, weakest_beam, longest_sag, highest_beam, shortest_sag}
use Rattle.sagrules.specs.declared.sag.Sag.{Sag}
use Rattle.sagrules.specs.declared.sag.SagBeam.{SagBeam}
use Rattle.sagrules.proofs.ElasticityLaws.{design_modulus_in, design_modulus_near}

-- what the test of the three says
pub sag_ranges : (s : Sag) → sag_in_range s ≡ true → SagRanges s
sag_ranges s given =
    let both = both_true _ _ given in
    let first = both_true _ _ both.0 in
    record {
      span = within_range 500 20000 s.span first.0;
      moment = within_range 1 10000000000 s.moment first.1;
      ratio = within_range 100 500 s.ratio both.1;
    }

-- the ends of the ranges
pub range_ends : (sag_in_range (sag_at 500 1 100) ≡ true) × (sag_in_range (sag_at 20000 10000000000 500) ≡ true)
range_ends = (refl, refl)

-- one past each end
pub range_past : (sag_in_range (sag_at 499 1 100) ≡ false) × (sag_in_range (sag_at 20001 1 100) ≡ false)
    × (sag_in_range (sag_at 500 0 100) ≡ false) × (sag_in_range (sag_at 500 10000000001 100) ≡ false)
    × (sag_in_range (sag_at 500 1 99) ≡ false) × (sag_in_range (sag_at 500 1 501) ≡ false)
range_past = (refl, refl, refl, refl, refl, refl)

-- f is at most φ and a millionth part of it
abbrev pub GainsAMillionth : ℕ → Fraction → Type 0
GainsAMillionth f φ = 1000000 * (f * φ.den) ≤ 1000001 * φ.num

module _ {b : SagBeam} {s : Sag} (known : SagBeamRanges b) (ranges : SagRanges s) where
  -- 5 × L × n
  pub divisor_in : In 250000 50000000 (5 * s.span * s.ratio)
  divisor_in = in_mul (in_mul (in_lit 5) ranges.span) ranges.ratio

  h³-in : In (60 * 60 * 60) (2500 * 2500 * 2500) (h³ b)
  h³-in = in_mul (in_mul known.height known.height) known.height

  -- 4 × E × b × h³, for any E in its range
  pub stiffness_in : {E : ℕ} → In 5625 12000 E → In (4 * 5625 * 20 * (60 * 60 * 60)) (4 * 12000 * 300 * (2500 * 2500 * 2500)) (4 * E * b.width * h³ b)
  stiffness_in E = in_mul (in_mul (in_mul (in_lit 4) E) known.width) h³-in

  -- Mf is from 1944 to 900,000,000,000 N·mm
  pub limit_moment_in : In 1944 900000000000 (limit_moment b s)
  limit_moment_in = in_div (lit< tt) (stiffness_in (design_modulus_in known)) divisor_in

  -- E and Mf together lose at most 0.07 percent
  pub limit_moment_near : Near 1944 10000 10007 (limit_moment b s) (exact_limit_moment b s)
  limit_moment_near =
      near_wide 10000 10007 (lit< tt) (lit≤ tt)
      (near_div (lit< tt) divisor_in
      (near_mul (near_mul (near_mul (near_in (in_lit 4)) (design_modulus_near known)) (near_in known.width)) (near_in h³-in)))

  h²-in : In (60 * 60) (2500 * 2500) (h² b)
  h²-in = in_mul known.height known.height

  -- L²
  pub span²-in : In (500 * 500) (20000 * 20000) (span² s)
  span²-in = in_mul ranges.span ranges.span

  -- 19,200,000 × h²
  pub shear_part_in : In (19200000 * (60 * 60)) (19200000 * (2500 * 2500)) (19200000 * h² b)
  shear_part_in = in_mul (in_lit 19200000) h²-in

  -- the shear factor is from 1,000,173 to 481,000,000 millionths
  pub shear_factor_in : In 1000173 481000000 (shear_factor b s)
  shear_factor_in =
      let positive : 0 < span² s = omega (arith, span²-in) in
      let low : 172 < up (19200000 * h² b) (span² s) = lt_up positive (omega (arith, span²-in, shear_part_in)) in
      let high : up (19200000 * h² b) (span² s) ≤ 480000000 = up_le positive (omega (arith, span²-in, shear_part_in)) in
      omega (arith, low, high)

  pub shear_factor_real : 0 < (exact_shear_factor b s).den
  shear_factor_real = omega (arith, span²-in)

  pub shear_factor_above : exact_shear_factor b s ≼ whole (shear_factor b s)
  shear_factor_above = omega (arith, rounding_up (19200000 * h² b) (span² s) (omega (arith, span²-in)))

  -- rounding up gains less than one millionth, which is at most the millionth part of it
  pub shear_factor_near : GainsAMillionth (shear_factor b s) (exact_shear_factor b s)
  shear_factor_near = omega (arith, rounding_up (19200000 * h² b) (span² s) (omega (arith, span²-in)))

  -- Mn × factor is at most 4,810,000,000,000,000,000
  pub product_in : In 1000173 4810000000000000000 (s.moment * shear_factor b s)
  product_in = in_mul ranges.moment shear_factor_in

  -- so 64 bits hold it, and 4 × E × b × h³
  pub products_fit : (s.moment * shear_factor b s < 2 ^ 64) × (4 * design_modulus b * b.width * h³ b < 2 ^ 64)
  products_fit = (omega (arith, product_in), omega (arith, stiffness_in (design_modulus_in known)))

-- the least Mf is reached
pub least_limit_moment : (Mn : ℕ) → limit_moment weakest_beam (longest_sag Mn) ≡ 1944
least_limit_moment Mn = refl

-- and so are the greatest, and the greatest product: by a row that is accepted and a sag within its ranges (`WorkedLaws`)
pub greatest_limit_moment : limit_moment highest_beam shortest_sag ≡ 900000000000
greatest_limit_moment = refl

pub greatest_product : shortest_sag.moment * shear_factor highest_beam shortest_sag ≡ 4810000000000000000
greatest_product = refl
