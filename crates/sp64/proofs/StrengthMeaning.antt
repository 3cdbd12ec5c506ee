-- What a design strength and its remainder say of R: together they are R, exactly, and no other two numbers are.
-- Assumes nothing.
use Prim.Native.Nat.{ℕ, ◌+◌, ◌*◌, ◌/◌, ◌%◌, ◌<◌}
use mathlib.Core.Path.{◌≡◌}
use native.Mathlib.Omega.{arith}
use Rattle.rounding.specs.Fraction.{whole, fraction, SameValue, ◌⊕◌}
use Rattle.sp64.specs.declared.tables.Stress.{Stress}
use Rattle.sp64.specs.declared.strength.Material.{Material}
use Rattle.sp64.specs.Tables.{table_strength}
use Rattle.sp64.specs.Strength.{undivided, design_strength, strength_remainder, exact_strength}

-- of any whole number divided by 10,000,000
split : (n : ℕ) → n / 10000000 * 10000000 + n % 10000000 ≡ n
split n = omega arith

below : (n : ℕ) → n % 10000000 < 10000000
below n = omega arith

only : (n s r : ℕ) → s * 10000000 + r ≡ n → r < 10000000 → (s ≡ n / 10000000) × (r ≡ n % 10000000)
only n s r e lt = (omega (arith, e, lt), omega (arith, e, lt))

module _ (stress : Stress) (m : Material) where
  -- strength × 10,000,000 + remainder is the undivided product
  pub product_split : design_strength stress m * 10000000 + strength_remainder stress m ≡ undivided (table_strength stress m.grade) m
  product_split = split (undivided (table_strength stress m.grade) m)

  -- and less than one kPa is dropped
  pub remainder_below : strength_remainder stress m < 10000000
  remainder_below = below (undivided (table_strength stress m.grade) m)

  -- R unrounded is strength + remainder / 10,000,000
  pub exact_strength_is : SameValue (exact_strength stress m) (whole (design_strength stress m) ⊕ fraction (strength_remainder stress m) 10000000)
  exact_strength_is = record { real = omega arith; written = omega arith; cross = omega (arith, product_split) }

  -- two numbers that give the product so, the second below 10,000,000, are the strength and the remainder
  pub no_other_two : (s r : ℕ) → s * 10000000 + r ≡ undivided (table_strength stress m.grade) m → r < 10000000 → (s ≡ design_strength stress m) × (r ≡ strength_remainder stress m)
  no_other_two = only (undivided (table_strength stress m.grade) m)
