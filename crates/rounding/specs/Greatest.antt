-- The greatest whole number that has a property, and how it is found by its binary digits.
-- Assumes nothing.
use Rattle.std.specs.Prelude.{ℕ, zero, suc, ◌+◌, ◌^◌, ◌≤◌, Bool, cond}

pub record Greatest (P : ℕ → Type 0) (n : ℕ) : Type 0 where
  pub holds : P n
  pub greatest : (j : ℕ) → P j → j ≤ n

-- the greatest number that passes a test, where low passes, low + 2^k does not, and no number above one that fails passes
-- (law `greatest_by_digits`, proofs/GreatestLaws.antt)
unfoldable pub by_digits : (ℕ → Bool) → ℕ → ℕ → ℕ
by_digits passes low zero = low
by_digits passes low (suc k) = by_digits passes (cond (passes (low + 2 ^ k)) (low + 2 ^ k) low) k
