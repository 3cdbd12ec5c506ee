-- The whole square root is the greatest number whose square is at most n, and a square keeps the order.
-- Assumes nothing.
use Prim.Native.Nat.{ℕ, zero, suc, ◌+◌, ◌-◌, ◌*◌, ◌/◌, ◌^◌, ◌≤◌, ◌<◌}
use native.Mathlib.Nat.{mul-le-mul, le_trans}
use native.Mathlib.Omega.{arith}
use mathlib.Core.Path.{◌≡◌, refl, subst}
use mathlib.Core.Bool.{Bool, true, false}
use borrow.Author.Tests.{leb-true, leb-false, le-leb, lt-leb}
use lib.Dec.{leb}
use Rattle.rounding.specs.Greatest.{Greatest}
use Rattle.rounding.specs.Range.{In}
use Rattle.rounding.specs.Root.{WholeRoot, whole_root}
use Rattle.rounding.proofs.GreatestLaws.{greatest_unique, greatest_by_digits}

-- a ≤ b exactly where a² ≤ b²
pub square_more : {a b : ℕ} → a ≤ b → a * a ≤ b * b
square_more le = mul-le-mul le le

pub root_below : {a b : ℕ} → a * a < b * b → a < b
root_below {a} {b} h = by (leb b a) refl
  where
    by : (t : Bool) → leb b a ≡ t → a < b
    by true e = absurd (omega (arith, h, square_more (leb-true b a e)))
    by false e = leb-false b a e

pub root_less : {a b : ℕ} → a * a ≤ b * b → a ≤ b
root_less {a} {b} h = omega (arith, root_below {a = a} {b = b + 1} (omega (arith, h)))

-- for an n of at most 64 bits `whole_root` is the whole root
module _ (n : ℕ) (few : n < 2 ^ 64) where
  -- no square of more than 32 bits is at most n, and that of 0 is
  zero_passes : leb (0 * 0) n ≡ true
  zero_passes = le-leb (0 * 0) n (omega arith)

  top_fails : leb ((0 + 2 ^ 32) * (0 + 2 ^ 32)) n ≡ false
  top_fails = lt-leb _ _ few

  pub root_greatest : WholeRoot n (whole_root n)
  root_greatest =
      let test : Greatest (λ s. leb (s * s) n ≡ true) (whole_root n) =
      greatest_by_digits (λ s. leb (s * s) n) (λ i j le h. le-leb _ _ (le_trans (square_more le) (leb-true _ _ h))) 32 0 zero_passes top_fails in
      record { holds = leb-true _ _ test.holds; greatest = λ j h. test.greatest j (le-leb _ _ h) }

  -- and a number is it that has n between its square and the next
  pub root_between : (s : ℕ) → s * s ≤ n → n < (s + 1) * (s + 1) → s ≡ whole_root n
  root_between s low high =
      greatest_unique (record { holds = low; greatest = λ j h. omega (arith, root_below {a = j} {b = s + 1} (omega (arith, h, high))) }) root_greatest

-- the square of the next number is above
pub root_next : {n s : ℕ} → WholeRoot n s → n < (s + 1) * (s + 1)
root_next {n} {s} root = by (leb ((s + 1) * (s + 1)) n) refl
  where
    by : (t : Bool) → leb ((s + 1) * (s + 1)) n ≡ t → n < (s + 1) * (s + 1)
    by true e = absurd (omega (arith, root.greatest (s + 1) (leb-true _ _ e)))
    by false e = leb-false _ _ e

-- the root over a range of n
pub root_in : {lo hi a b n s : ℕ} → WholeRoot n s → In lo hi n → a * a ≤ lo → hi < (b + 1) * (b + 1) → In a b s
root_in {a = a} {b = b} {s = s} root i low high =
    record {
      low = root.greatest a (le_trans low i.low);
      high = omega (arith, root_below {a = s} {b = b + 1} (omega (arith, root.holds, i.high, high)));
    }

-- (a + b)² ≥ 4ab
mean_above : (a b : ℕ) → 4 * (a * b) ≤ (a + b) * (a + b)
mean_above a b = by (leb a b) refl
  where
    apart : (c d : ℕ) → 4 * (c * (c + d)) ≤ (c + (c + d)) * (c + (c + d))
    apart c d = omega arith

    by : (t : Bool) → leb a b ≡ t → 4 * (a * b) ≤ (a + b) * (a + b)
    by true e = let le = leb-true a b e in let is : a + (b - a) ≡ b = omega (arith, le) in subst (λ (x : ℕ). 4 * (a * x) ≤ (a + x) * (a + x)) is (apart a (b - a))
    by false e = let le = leb-false a b e in let is : b + (a - b) ≡ a = omega (arith, le) in subst (λ (x : ℕ). 4 * (x * b) ≤ (x + b) * (x + b)) is (omega (arith, apart b (a - b)))

-- so Newton's step from any guess above zero, with its quotient of n, is not below the root
pub newton : (n guess quotient : ℕ) → n < guess * (quotient + 1) → n < ((guess + quotient) / 2 + 1) * ((guess + quotient) / 2 + 1)
newton n guess quotient h =
    let twice : guess + (quotient + 1) ≤ 2 * ((guess + quotient) / 2 + 1) = omega arith in
    omega (arith, h, mean_above guess (quotient + 1), square_more twice)

-- and what is not below the root is above zero
pub guess_above : {n guess : ℕ} → 0 < n → n < (guess + 1) * (guess + 1) → 0 < guess
guess_above {guess = zero} some h = absurd (omega (arith, h))
guess_above {guess = suc guess} some h = omega arith
