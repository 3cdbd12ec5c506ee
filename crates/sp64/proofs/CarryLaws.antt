-- The dowels that carry a force, by the square of what one carries: there is a least number, and the count by the rounded capacity lies beside it.
-- Assumes nothing.
use Prim.Native.Nat.{ℕ, zero, suc, ◌*◌, ◌≤◌, ◌<◌}
use native.Mathlib.Nat.{mul-pos, mul-le-mul_left, mul-le-mul_right, le_of_mul-le-mul_right, le_trans}
use native.Mathlib.Omega.{arith}
use mathlib.Core.Logic.{◌↔◌}
use mathlib.Core.Bool.{Bool}
use borrow.Author.Tests.{leb-true, le-leb}
use lib.Dec.{leb}
use Rattle.rounding.specs.Fraction.{Fraction, whole, scaled, ◌⊗◌, ◌≼◌, square, smaller}
use Rattle.rounding.specs.Least.{Least}
use Rattle.rounding.proofs.FractionLaws.{square_iff, smaller_has, smaller_least}
use Rattle.rounding.proofs.LeastLaws.{least_same, above_failing, least_to, least_found}
use Rattle.rounding.proofs.NearRoot.{NearRoot}
use Rattle.rounding.proofs.RootLaws.{square_more, root_less}
use Rattle.rounding.proofs.RoundingLaws.{rounding_up, up_le}
use Rattle.sp64.specs.declared.strength.Material.{Material}
use Rattle.sp64.specs.Strength.{undivided}
use Rattle.sp64.specs.Joint.{exact_dowel_bending², load, dowel_count, Carry, CarrySquared}

-- the squares say what the values say
pub carry_iff : (N x : Fraction) (k : ℕ) → Carry N x k ↔ CarrySquared N (square x) k
carry_iff N x k =
    let same = square_iff (load N) (whole (2 * k) ⊗ x) in (
      λ h. omega (arith, same.0 h),
      λ h. same.1 (omega (arith, h)),
    )

-- and of bending, whose root is in general no fraction, they say this
pub bending_as_squares : (N : Fraction) (term : ℕ) (mat : Material) (k : ℕ)
    → CarrySquared N (exact_dowel_bending² term mat) k ↔ (square (whole (1000 * 100000) ⊗ N) ≼ square (whole (2 * k * term)) ⊗ whole (undivided 100000 mat))
bending_as_squares N term mat k = (λ h. omega (arith, h), λ h. omega (arith, h))

-- dowels that carry N with one capacity carry it with every greater one
more_capacity_carries : (N x² y² : Fraction) (k : ℕ) → 0 < x².den → x² ≼ y² → CarrySquared N x² k → CarrySquared N y² k
more_capacity_carries N x² y² k pos le h =
    le_of_mul-le-mul_right {k = x².den} (omega (arith, mul-le-mul_right y².den h, mul-le-mul_left (2 * k * (2 * k) * (N.den * N.den)) le)) pos

-- so k dowels carry N with the smaller of two exactly where they do with each
pub carry_smaller : (N x² y² : Fraction) (k : ℕ) → 0 < x².den → 0 < y².den → CarrySquared N (smaller x² y²) k ↔ (CarrySquared N x² k × CarrySquared N y² k)
carry_smaller N x² y² k px py =
    let least = smaller_least x² y² in
    let real = smaller_has (λ z. 0 < z.den) x² y² px py in (
      λ h. (more_capacity_carries N (smaller x² y²) x² k real least.0 h, more_capacity_carries N (smaller x² y²) y² k real least.1 h),
      λ h. smaller_has (λ z. CarrySquared N z k) x² y² h.0 h.1,
    )

-- a number of dowels that is enough
enough : (Z D : ℕ) → 0 < D → Z ≤ 2 * Z * (2 * Z) * D
enough zero D pos = omega arith
enough (suc n) D pos = let Z = suc n in omega (arith, mul-le-mul_left (Z * Z) pos)

-- There is a least number of dowels that carry N.
module _ (N x² : Fraction) where
  more_dowels_carry : (k l : ℕ) → k ≤ l → CarrySquared N x² k → CarrySquared N x² l
  more_dowels_carry k l le h = omega (arith, h, mul-le-mul_right (x².num * (N.den * N.den)) (square_more (mul-le-mul_left 2 le)))

  -- so where n are too few, more are needed
  pub fewer_fail : (n k : ℕ) → (CarrySquared N x² n → ⊥) → CarrySquared N x² k → n < k
  fewer_fail = above_failing more_dowels_carry

  -- the same as a test
  abbrev carries : ℕ → Bool
  carries k = leb ((square (load N)).num * (square (whole (2 * k)) ⊗ x²).den) ((square (whole (2 * k)) ⊗ x²).num * (square (load N)).den)

  abbrev pub carry_count : ℕ
  carry_count = least_to carries (1000 * N.num * (1000 * N.num) * x².den)

  pub carry_exists : 0 < N.den → 0 < x².num → Least (CarrySquared N x²) carry_count
  carry_exists real some =
      let all = 1000 * N.num * (1000 * N.num) * x².den in
      least_same (λ k. (leb-true _ _, le-leb _ _))
      (least_found carries (λ k l le h. le-leb _ _ (more_dowels_carry k l le (leb-true _ _ h))) all
      (le-leb _ _ (omega (arith, enough all (x².num * (N.den * N.den)) (mul-pos some (mul-pos real real))))))

-- T, and x² the square of the exact capacity that it rounds
module _ (N : ℕ) {m g T : ℕ} {x² : Fraction} (pos : 0 < T) (near : NearRoot m 1000 g T x²) where
  -- the count by T carries N
  pub count_carries : CarrySquared (whole N) x² (dowel_count N T)
  count_carries =
      let n = dowel_count N T in
      omega (arith, mul-le-mul_right x².den (square_more (rounding_up (1000 * N) (2 * T) (omega arith)).0), mul-le-mul_left (2 * n * (2 * n)) near.below)

  -- and no fewer carry k thousandths of N
  pub count_least : g ≤ 1003 → (k : ℕ) → 1003 ≤ k → (n : ℕ) → CarrySquared (scaled k (whole N)) x² n → dowel_count N T ≤ n
  count_least few k big n h =
      let some : 0 < k = omega arith in
      up_le (omega arith)
      (root_less
      (le_of_mul-le-mul_right {k = x².den * (k * k)}
      (omega (arith, h, mul-le-mul_left (2 * n * (2 * n)) near.close, mul-le-mul_left (2 * n * (2 * n) * (T * T) * x².den) (square_more (le_trans few big))))
      (mul-pos near.real (mul-pos some some))))
