-- The least whole number that has a property.
-- Assumes nothing.
use Rattle.std.specs.Prelude.{ℕ, ◌≤◌}

pub record Least (P : ℕ → Type 0) (n : ℕ) : Type 0 where
  pub holds : P n
  pub least : (j : ℕ) → P j → n ≤ j
