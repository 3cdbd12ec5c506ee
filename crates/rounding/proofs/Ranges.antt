-- Ranges of products and quotients, from those of their parts.
-- Assumes nothing.
use Prim.Native.Nat.{ℕ, ◌*◌, ◌/◌, ◌≤◌, ◌<◌}
use native.Mathlib.Nat.{mul-le-mul, mul-le-mul_left, le_trans, le-div_iff_mul-le, div-mul-le_self, le_refl}
use Rattle.rounding.specs.Range.{In}

pub in_lit : (n : ℕ) → In n n n
in_lit n = record { low = le_refl n; high = le_refl n }

pub in_mul : {a b c d m n : ℕ} → In a b m → In c d n → In (a * c) (b * d) (m * n)
in_mul p q = record { low = mul-le-mul p.low q.low; high = mul-le-mul p.high q.high }

-- the quotient by a number of at least c, which is not 0
pub in_div : {a b c d m n : ℕ} → 0 < c → In a b m → In c d n → In (a / d) (b / c) (m / n)
in_div {a} {b} {c} {d} {m} {n} pos p q =
    record {
      low = (le-div_iff_mul-le (le_trans pos q.low)).1 (le_trans (mul-le-mul_left (a / d) q.high) (le_trans (div-mul-le_self a d) p.low));
      high = (le-div_iff_mul-le pos).1 (le_trans (mul-le-mul_left (m / n) q.low) (le_trans (div-mul-le_self m n) p.high));
    }

-- a range that holds another
pub in_wide : {a b n : ℕ} (a' b' : ℕ) → a' ≤ a → b ≤ b' → In a b n → In a' b' n
in_wide a' b' l u p = record { low = le_trans l p.low; high = le_trans p.high u }
