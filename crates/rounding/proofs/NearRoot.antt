-- A rounded value beside an exact one that is a root, in general no fraction: it is given by its square.
-- Assumes nothing.
use Prim.Native.Nat.{ℕ, ◌+◌, ◌*◌, ◌/◌, ◌≤◌, ◌<◌, min}
use native.Mathlib.Nat.{mul-le-mul, mul-pos, mul-le-mul_right, mul-le-mul_left, le_of_mul-le-mul_right, le_trans, min-le_left, min-le_right}
use native.Mathlib.Omega.{arith, min_cases}
use Rattle.rounding.specs.Fraction.{Fraction, whole, ◌⊗◌, ◌⊘◌, ◌≼◌, square, smaller}
use Rattle.rounding.proofs.FractionLaws.{smaller_has, smaller_least}
use Rattle.rounding.proofs.Near.{Near}
use Rattle.rounding.proofs.RootLaws.{square_more}
use Rattle.rounding.proofs.RoundingLaws.{rounding_down}

-- m ≤ r ≤ x ≤ r × g / f, of an x whose square is x²
pub record NearRoot (m f g r : ℕ) (x² : Fraction) : Type 0 where
  pub real : 0 < x².den
  pub low : m ≤ r
  pub below : r * r * x².den ≤ x².num
  pub close : x².num * (f * f) ≤ r * r * x².den * (g * g)

-- a value that is a fraction
pub near_square : {m f g r : ℕ} {x : Fraction} → Near m f g r x → NearRoot m f g r (square x)
near_square {m} {f} {g} {r} {x} p =
    record { real = mul-pos p.real p.real; low = p.low; below = omega (arith, square_more p.below); close = omega (arith, square_more p.close) }

-- the whole root of n: it loses less than one unit, of at least m
pub near_whole_root : {m n s : ℕ} → m ≤ s → s * s ≤ n → n < (s + 1) * (s + 1) → NearRoot m m (m + 1) s (whole n)
near_whole_root {m} {n} {s} low below above =
    let unit : (s + 1) * m ≤ s * (m + 1) = omega (arith, low) in
    record { real = omega arith; low = low; below = omega (arith, below); close = omega (arith, mul-le-mul_right (m * m) above, square_more unit) }

-- times a whole number
pub near_root_times : {m f g r : ℕ} {x² : Fraction} (k₀ k : ℕ) → k₀ ≤ k → NearRoot m f g r x² → NearRoot (k₀ * m) f g (k * r) (square (whole k) ⊗ x²)
near_root_times k₀ k some p =
    record {
      real = omega (arith, p.real);
      low = mul-le-mul some p.low;
      below = omega (arith, mul-le-mul_left (k * k) p.below);
      close = omega (arith, mul-le-mul_left (k * k) p.close);
    }

-- divided by d, and rounded down to at least m
pub near_root_down : {m₀ f g r : ℕ} {x² : Fraction} (d m : ℕ) → 0 < d → m ≤ r / d → NearRoot m₀ f g r x² → NearRoot m (f * m) (g * (m + 1)) (r / d) (x² ⊘ square (whole d))
near_root_down {f = f} {g = g} {r = r} {x² = x²} d m pos low p =
    let down = rounding_down r d pos in
    let unit : r * m ≤ r / d * d * (m + 1) = omega (arith, mul-le-mul_right m down.1, mul-le-mul_right d low) in
    record {
      real = mul-pos p.real (mul-pos pos pos);
      low = low;
      below = omega (arith, mul-le-mul_right x².den (square_more down.0), p.below);
      close = omega (arith, mul-le-mul_right (m * m) p.close, mul-le-mul_right (x².den * (g * g)) (square_more unit));
    }

-- a lower bound that is lower, and a wider one on the loss
pub near_root_wide : {m f g r : ℕ} {x² : Fraction} (m' f' g' : ℕ) → m' ≤ m → 0 < f → g * f' ≤ g' * f → NearRoot m f g r x² → NearRoot m' f' g' r x²
near_root_wide {f = f} {g = g} {r = r} {x² = x²} m' f' g' lower pos h p =
    record {
      real = p.real;
      low = le_trans lower p.low;
      below = p.below;
      close = le_of_mul-le-mul_right {k = f * f} (omega (arith, mul-le-mul_right (f' * f') p.close, mul-le-mul_right (r * r * x².den) (square_more h))) (mul-pos pos pos);
    }

-- what is at most x loses no more than x does
close_of_less : (x z : Fraction) (R F G : ℕ) → 0 < x.den → z ≼ x → x.num * F ≤ R * x.den * G → z.num * F ≤ R * z.den * G
close_of_less x z R F G pos le h = le_of_mul-le-mul_right {k = x.den} (omega (arith, mul-le-mul_right F le, mul-le-mul_right z.den h)) pos

-- the smaller of two
pub near_smaller : {m f g r r' : ℕ} {x² y² : Fraction} → NearRoot m f g r x² → NearRoot m f g r' y² → NearRoot m f g (min r r') (smaller x² y²)
near_smaller {m} {f} {g} {r} {r'} {x²} {y²} p q =
    let z = smaller x² y² in
    let less = smaller_least x² y² in
    record {
      real = smaller_has (λ z. 0 < z.den) x² y² p.real q.real;
      low = omega (arith, p.low, q.low);
      below =
          smaller_has (λ z. min r r' * min r r' * z.den ≤ z.num) x² y²
          (le_trans (mul-le-mul_right x².den (square_more (min-le_left r r'))) p.below)
          (le_trans (mul-le-mul_right y².den (square_more (min-le_right r r'))) q.below);
      close =
          min_cases r r' (z.num * (f * f) ≤ min r r' * min r r' * z.den * (g * g))
          (λ le e. rw e (close_of_less x² z (r * r) (f * f) (g * g) p.real less.0 p.close))
          (λ le e. rw e (close_of_less y² z (r' * r') (f * f) (g * g) q.real less.1 q.close));
    }

-- the exact value is above zero where the rounded one is
pub near_root_pos : {m f g r : ℕ} {x² : Fraction} → 0 < m → NearRoot m f g r x² → 0 < x².num
near_root_pos pos p = let some = le_trans pos p.low in le_trans (mul-pos (mul-pos some some) p.real) p.below
