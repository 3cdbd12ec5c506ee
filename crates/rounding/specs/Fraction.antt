-- Exact values: fractions of whole numbers, compared by cross multiplication. A fraction stands for a value where its denominator is above zero.
-- Assumes nothing.
use Rattle.std.specs.Prelude.{ℕ, ◌+◌, ◌-◌, ◌*◌, ◌≤◌, ◌<◌, ◌≡◌, cond, leb}

infixl 70 ◌⊗◌ ◌⊘◌
infixl 65 ◌⊕◌ ◌⊖◌
infix 50 ◌≼◌ ◌≺◌
-- num / den
pub record Fraction : Type 0 where
  pub num : ℕ
  pub den : ℕ

abbrev pub fraction : ℕ → ℕ → Fraction
fraction n d = record { num = n; den = d }

abbrev pub whole : ℕ → Fraction
whole n = fraction n 1

-- x × y
abbrev pub ◌⊗◌ : Fraction → Fraction → Fraction
x ⊗ y = fraction (x.num * y.num) (x.den * y.den)

-- x / y
abbrev pub ◌⊘◌ : Fraction → Fraction → Fraction
x ⊘ y = fraction (x.num * y.den) (x.den * y.num)

-- x + y
abbrev pub ◌⊕◌ : Fraction → Fraction → Fraction
x ⊕ y = fraction (x.num * y.den + y.num * x.den) (x.den * y.den)

-- x − y, and 0 where y is above x
abbrev pub ◌⊖◌ : Fraction → Fraction → Fraction
x ⊖ y = fraction (x.num * y.den - y.num * x.den) (x.den * y.den)

-- x ≤ y
abbrev pub ◌≼◌ : Fraction → Fraction → Type 0
x ≼ y = x.num * y.den ≤ y.num * x.den

-- x < y
abbrev pub ◌≺◌ : Fraction → Fraction → Type 0
x ≺ y = x.num * y.den < y.num * x.den

-- x²
abbrev pub square : Fraction → Fraction
square x = x ⊗ x

-- the smaller of x and y
abbrev pub smaller : Fraction → Fraction → Fraction
smaller x y = cond (leb (x.num * y.den) (y.num * x.den)) x y

-- two fractions stand for one value: denominators above zero, and equal cross products
pub record SameValue (x y : Fraction) : Type 0 where
  pub real : 0 < x.den
  pub written : 0 < y.den
  pub cross : x.num * y.den ≡ y.num * x.den

-- a force times k thousandths
abbrev pub scaled : ℕ → Fraction → Fraction
scaled k force = whole k ⊘ whole 1000 ⊗ force

-- the exact value x rounds up to the whole number n: x ≤ n < x + 1
pub record RoundsUpTo (n : ℕ) (x : Fraction) : Type 0 where
  pub real : 0 < x.den
  pub above : x ≼ whole n
  pub within : whole n ≺ x ⊕ whole 1
