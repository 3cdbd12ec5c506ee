-- φ: its range, and what rounding takes off it.
-- Assumes nothing.
use Prim.Native.Nat.{ℕ, ◌+◌, ◌-◌, ◌*◌, ◌≤◌, ◌<◌}
use native.Mathlib.Nat.{le-div_iff_mul-le, div-lt_iff_lt-mul, le-pred_of_lt, le_trans, mul-le-mul, mul-le-mul_right}
use native.Mathlib.Omega.{arith}
use mathlib.Core.Path.{◌≡◌, refl, ap}
use mathlib.Core.Bool.{Bool, true, false, cond}
use borrow.Author.Tests.{leb-true, leb-false}
use lib.Dec.{lit<}
use Rattle.rounding.specs.Rounding.{up}
use Rattle.rounding.proofs.RoundingLaws.{rounding_down, rounding_up, up_le}
use Rattle.rounding.proofs.Ranges.{in_lit, in_mul, in_div}
use Rattle.rounding.proofs.Near.{Near, near_unit}
use Rattle.sp64.specs.declared.strut.Strut.{Strut}
use Rattle.sp64.specs.Ranges.{InLimit, InPhi}
use Rattle.sp64.specs.Slenderness.{L², s², Slenderness, StrutRanges}
use Rattle.sp64.specs.Buckling.{stocky, stocky_phi, slender_phi, buckling_phi, exact_stocky_phi, exact_slender_phi, exact_buckling_phi}

-- what the first form takes off one is at most 392,000 millionths
pub stocky_off : (strut : Strut) → 0 < s² strut → 12 * L² strut ≤ 4900 * s² strut → up (960 * L² strut) (s² strut) ≤ 392000
stocky_off strut pos h = up_le pos (omega arith)

module _ {strut : Strut} (ranges : StrutRanges strut) where
  pos_s : 0 < s² strut
  pos_s = omega (arith, in_mul ranges.s ranges.s)

  pos_l : 0 < L² strut
  pos_l = omega (arith, in_mul ranges.L ranges.L)

  phi_in_by : (t : Bool) → stocky strut ≡ t → InPhi (cond t (stocky_phi strut) (slender_phi strut))
  phi_in_by true e = omega (arith, stocky_off strut pos_s (leb-true _ _ e))
  phi_in_by false e =
      let over : 4900 * s² strut < 12 * L² strut = leb-false _ _ e in
      record {
        low = (in_div (lit< tt) (in_mul (in_lit 250000000) (in_mul ranges.s ranges.s)) (in_mul ranges.L ranges.L)).low;
        high = le-pred_of_lt ((div-lt_iff_lt-mul {y = 1000001} pos_l).1 (omega arith));
      }

  -- φ of checks 9 and 10, at any slenderness
  pub phi_in : InPhi (buckling_phi strut)
  phi_in = phi_in_by _ refl

-- a strut within its limit of slenderness
pub record Steady (limit : ℕ) (strut : Strut) : Type 0 where
  pub ranges : StrutRanges strut
  pub most : InLimit limit
  pub slender : Slenderness limit strut

-- Within any limit of Table 16 the slenderness is at most 200, so that φ is at least 75,000 millionths, of which rounding takes less than one.
module _ {limit : ℕ} {strut : Strut} (steady : Steady limit strut) where
  at_most_200 : Slenderness 200 strut
  at_most_200 = le_trans steady.slender (mul-le-mul_right (s² strut) (mul-le-mul steady.most.high steady.most.high))

  pub slender_near : Near 75000 75000 75001 (slender_phi strut) (exact_slender_phi strut)
  slender_near =
      let pos = pos_l steady.ranges in
      let slender = at_most_200 in
      let down = rounding_down (250000000 * s² strut) (L² strut) pos in
      near_unit (omega (arith, pos)) ((le-div_iff_mul-le pos).1 (omega arith)) (omega arith) (omega arith)

  stocky_near : 12 * L² strut ≤ 4900 * s² strut → Near 75000 75000 75001 (stocky_phi strut) (exact_stocky_phi strut)
  stocky_near h =
      let pos = pos_s steady.ranges in
      let u = up (960 * L² strut) (s² strut) in
      let off : u ≤ 392000 = stocky_off strut pos h in
      let x : (1000000 - u + u) * s² strut ≡ 1000000 * s² strut = ap (λ (n : ℕ). n * s² strut) (omega arith) in
      let ups = rounding_up (960 * L² strut) (s² strut) pos in
      near_unit (omega (arith, pos)) (omega arith) (omega arith) (omega arith)

  phi_near_by : (t : Bool) → stocky strut ≡ t → Near 75000 75000 75001 (cond t (stocky_phi strut) (slender_phi strut)) (cond t (exact_stocky_phi strut) (exact_slender_phi strut))
  phi_near_by true e = stocky_near (leb-true _ _ e)
  phi_near_by false e = slender_near

  pub phi_near : Near 75000 75000 75001 (buckling_phi strut) (exact_buckling_phi strut)
  phi_near = phi_near_by _ refl
