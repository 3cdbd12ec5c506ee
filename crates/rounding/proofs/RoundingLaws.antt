-- The effect of rounding, by any divisor above zero.
-- Assumes nothing.
use Prim.Native.Nat.{ℕ, zero, suc, ◌+◌, ◌-◌, ◌*◌, ◌/◌, ◌≤◌, ◌<◌}
use native.Mathlib.Nat.{div-zero, mul-le-mul_left, le_trans, le-div_iff_mul-le, div-lt_iff_lt-mul, div-mul-le_self, lt-div-mul-add}
use native.Mathlib.Omega.{arith}
use mathlib.Core.Path.{◌≡◌}
use Rattle.rounding.specs.Rounding.{down, up}

-- Rounding down gains nothing and loses less than one unit.
pub rounding_down : (n d : ℕ) → 0 < d → (d * (n / d) ≤ n) × (n < d * (n / d + 1))
rounding_down n d pos = omega (arith, div-mul-le_self n d, lt-div-mul-add {a = n} pos)

-- Rounding up loses nothing and gains less than one unit.
pub rounding_up : (n d : ℕ) → 0 < d → (n ≤ d * up n d) × (d * up n d < n + d)
rounding_up n d pos = omega (arith, div-mul-le_self (n + (d - 1)) d, lt-div-mul-add {a = n + (d - 1)} pos)

-- Rounding up gives the least whole number that is not below the quotient.
pub up_le : {n d k : ℕ} → 0 < d → n ≤ k * d → up n d ≤ k
up_le {n} {d} {k} pos h =
    let g : n + (d - 1) < (k + 1) * d = omega arith in
    let r = (div-lt_iff_lt-mul pos).1 g in
    omega arith

pub lt_up : {n d k : ℕ} → 0 < d → k * d < n → k < up n d
lt_up {n} {d} {k} pos h =
    let g : (k + 1) * d ≤ n + (d - 1) = omega arith in
    let r = (le-div_iff_mul-le pos).1 g in
    omega arith

-- Rounding down keeps the order of numerators.
pub down_more : (d : ℕ) {n n' : ℕ} → n ≤ n' → down n d ≤ down n' d
down_more zero {n} {n'} le = let none : down n 0 ≡ 0 = div-zero n in omega arith
down_more (suc d) {n} {n'} le = (le-div_iff_mul-le {k = suc d} (omega arith)).1 (le_trans (div-mul-le_self n (suc d)) le)

-- Rounding up keeps the order of numerators and turns that of divisors.
pub up_more : (d : ℕ) {n n' : ℕ} → n ≤ n' → up n d ≤ up n' d
up_more d le = down_more d (omega arith)

pub up_less : (n : ℕ) {d d' : ℕ} → 0 < d → d ≤ d' → up n d' ≤ up n d
up_less n {d} {d'} pos le = up_le (omega arith) (omega (arith, (rounding_up n d pos).0, mul-le-mul_left (up n d) le))
