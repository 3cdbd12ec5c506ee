-- A rounded value beside the exact one, and how what rounding loses composes over products and quotients.
-- Assumes nothing.
use Prim.Native.Nat.{ℕ, ◌+◌, ◌*◌, ◌/◌, ◌≤◌, ◌<◌}
use native.Mathlib.Nat.{mul-le-mul, mul-pos, mul-le-mul_right, le_of_mul-le-mul_right, le_trans, le_refl}
use native.Mathlib.Omega.{arith}
use Rattle.rounding.specs.Range.{In}
use Rattle.rounding.specs.Fraction.{Fraction, fraction, whole, ◌⊗◌, ◌⊘◌}
use Rattle.rounding.proofs.RoundingLaws.{rounding_down}
use Rattle.rounding.proofs.Ranges.{in_lit, in_div}

-- m ≤ r ≤ x ≤ r × g / f: rounding takes nothing on, and at most the part g / f off
pub record Near (m f g r : ℕ) (x : Fraction) : Type 0 where
  pub real : 0 < x.den
  pub low : m ≤ r
  pub below : r * x.den ≤ x.num
  pub close : x.num * f ≤ r * x.den * g

-- a whole number is exact
pub near_in : {m hi n : ℕ} → In m hi n → Near m 1 1 n (whole n)
near_in i = omega arith

-- what loses at most one unit, of at least m
pub near_unit : {m r n d : ℕ} → 0 < d → m ≤ r → r * d ≤ n → n ≤ (r + 1) * d → Near m m (m + 1) r (fraction n d)
near_unit {m} {r} {n} {d} pos low below above = omega (arith, mul-le-mul_right m above, mul-le-mul_right d low)

-- products: the losses multiply
pub near_mul : {m f g r m' f' g' r' : ℕ} {x y : Fraction} → Near m f g r x → Near m' f' g' r' y → Near (m * m') (f * f') (g * g') (r * r') (x ⊗ y)
near_mul p q =
    omega
    (arith, mul-pos p.real q.real, mul-le-mul p.low q.low, mul-le-mul p.below q.below, mul-le-mul p.close q.close)

-- quotients: rounding down, by any divisor d, which is at most hi, takes less than one unit off a value of at least m / hi
pub near_div : {m f g r lo hi d : ℕ} {x : Fraction} → 0 < lo → In lo hi d → Near m f g r x → Near (m / hi) (f * (m / hi)) (g * (m / hi + 1)) (r / d) (x ⊘ whole d)
near_div {m} {f} {g} {r} {lo} {hi} {d} {x} pos-lo i p =
    let pos : 0 < d = le_trans pos-lo i.low in
    let down = rounding_down r d pos in
    let low : m / hi ≤ r / d = (in_div pos-lo (record { low = p.low; high = le_refl r }) i).low in
    let unit : r * (m / hi) ≤ r / d * d * (m / hi + 1) = omega (arith, mul-le-mul_right (m / hi) down.1, mul-le-mul_right d low) in
    record {
      real = mul-pos p.real pos;
      low = low;
      below = omega (arith, mul-le-mul_right x.den down.0, p.below);
      close = omega (arith, mul-le-mul_right (m / hi) p.close, mul-le-mul_right (x.den * g) unit);
    }

-- the same by one known divisor
pub near_down : {m f g r : ℕ} {x : Fraction} (d : ℕ) → 0 < d → Near m f g r x → Near (m / d) (f * (m / d)) (g * (m / d + 1)) (r / d) (x ⊘ whole d)
near_down d pos = near_div pos (in_lit d)

-- a wider bound on the loss
pub near_wide : {m f g r : ℕ} {x : Fraction} (f' g' : ℕ) → 0 < f → g * f' ≤ g' * f → Near m f g r x → Near m f' g' r x
near_wide {m} {f} {g} {r} {x} f' g' pos h p =
    record {
      real = p.real;
      low = p.low;
      below = p.below;
      close = le_of_mul-le-mul_right {k = f} (omega (arith, mul-le-mul_right f' p.close, mul-le-mul_right (r * x.den) h)) pos;
    }

-- the exact value of what is above zero when rounded is above zero
pub near_pos : {m f g r : ℕ} {x : Fraction} → 0 < m → Near m f g r x → 0 < x.num
near_pos pos p = le_trans (mul-pos (le_trans pos p.low) p.real) p.below
