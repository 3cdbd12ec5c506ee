-- A number's range, and a result that is known together with its range.
-- Assumes nothing.
use Rattle.std.specs.Prelude.{ℕ, ◌≤◌, ◌≡◌}

-- lo ≤ n ≤ hi
pub record In (lo hi n : ℕ) : Type 0 where
  pub low : lo ≤ n
  pub high : n ≤ hi

-- the result r is `is`, and lies in the range
pub record Value (Range : ℕ → Type 0) (is r : ℕ) : Type 0 where
  pub exact : r ≡ is
  pub range : Range r
