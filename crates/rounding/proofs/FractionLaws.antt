-- Differences of fractions, sums of two against one, squares, the smaller of two, and what rounds up to a whole number.
-- Assumes nothing.
use Prim.Native.Nat.{ℕ, ◌+◌, ◌*◌, ◌≤◌, ◌<◌}
use native.Mathlib.Nat.{mul-pos, mul-le-mul_right, mul-le-mul_left, le_of_mul-le-mul_left}
use native.Mathlib.Omega.{arith}
use mathlib.Core.Path.{◌≡◌, refl, ap}
use mathlib.Core.Logic.{◌↔◌}
use mathlib.Core.Bool.{Bool, true, false, cond}
use borrow.Author.Tests.{leb-true, leb-false}
use lib.Dec.{leb}
use Rattle.rounding.specs.Rounding.{up}
use Rattle.rounding.specs.Fraction.{Fraction, fraction, whole, ◌⊕◌, ◌⊖◌, ◌≼◌, RoundsUpTo, square, smaller}
use Rattle.rounding.proofs.RootLaws.{square_more, root_less}
use Rattle.rounding.proofs.RoundingLaws.{rounding_up}

difference_by : (D xn xd yn yd : ℕ) → D + yn * xd ≡ xn * yd → (fraction D (xd * yd) ⊕ fraction yn yd ≼ fraction xn xd) × (fraction xn xd ≼ fraction D (xd * yd) ⊕ fraction yn yd)
difference_by D xn xd yn yd e = omega (arith, ap (λ (n : ℕ). n * (yd * xd)) e)

-- where y is at most x, x − y and y add up to x
pub difference : (x y : Fraction) → y ≼ x → (x ⊖ y ⊕ y ≼ x) × (x ≼ x ⊖ y ⊕ y)
difference x y le = difference_by _ x.num x.den y.num y.den (omega arith)

-- two fractions that are at least v and v' parts of w add up to more than one, where v and v' do
pub sum_over : (x y : Fraction) (v v' w : ℕ) → 0 < x.den → 0 < y.den → fraction v w ≼ x → fraction v' w ≼ y → w < v + v' → x ⊕ y ≼ whole 1 → ⊥
sum_over x y v v' w px py hx hy over le =
    omega (
      arith,
      mul-pos px py,
      mul-le-mul_right y.den hx,
      mul-le-mul_right x.den hy,
      mul-le-mul_left w le,
      mul-le-mul_right (x.den * y.den) over,
    )

-- two fractions that are at most v and v' parts of w add up to at most one, where v and v' do
pub sum_under : (x y : Fraction) (v v' w : ℕ) → 0 < w → x ≼ fraction v w → y ≼ fraction v' w → v + v' ≤ w → x ⊕ y ≼ whole 1
sum_under x y v v' w pw hx hy under =
    le_of_mul-le-mul_left {k = w}
    (omega
    (arith, mul-le-mul_right y.den hx, mul-le-mul_right x.den hy, mul-le-mul_right (x.den * y.den) under))
    pw

-- a whole number rounds up to itself
pub whole_rounds : (n : ℕ) → RoundsUpTo n (whole n)
whole_rounds n = omega arith

-- n / d rounds up to `up n d`
pub up_rounds : (n d : ℕ) → 0 < d → RoundsUpTo (up n d) (fraction n d)
up_rounds n d pos = omega (arith, pos, rounding_up n d pos)

-- x ≤ y exactly where x² ≤ y²
pub square_iff : (x y : Fraction) → x ≼ y ↔ square x ≼ square y
square_iff x y = (λ le. omega (arith, square_more le), λ h. root_less (omega (arith, h)))

-- of 1/2 and 2/3 the first is the smaller, whichever way round
smaller_of_two : (smaller (fraction 1 2) (fraction 2 3) ≡ fraction 1 2) × (smaller (fraction 2 3) (fraction 1 2) ≡ fraction 1 2)
smaller_of_two = (refl, refl)

-- what two fractions have, the smaller of them has
pub smaller_has : (P : Fraction → Type 0) (x y : Fraction) → P x → P y → P (smaller x y)
smaller_has P x y px py = by (leb (x.num * y.den) (y.num * x.den))
  where
    by : (t : Bool) → P (cond t x y)
    by true = px
    by false = py

-- and it is at most each of them
pub smaller_least : (x y : Fraction) → (smaller x y ≼ x) × (smaller x y ≼ y)
smaller_least x y = by (leb (x.num * y.den) (y.num * x.den)) refl
  where
    by : (t : Bool) → leb (x.num * y.den) (y.num * x.den) ≡ t → (cond t x y ≼ x) × (cond t x y ≼ y)
    by true e = omega (arith, leb-true (x.num * y.den) (y.num * x.den) e)
    by false e = omega (arith, leb-false (x.num * y.den) (y.num * x.den) e)
