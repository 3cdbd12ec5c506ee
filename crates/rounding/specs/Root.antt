-- The whole square root.
-- Assumes nothing.
use Rattle.std.specs.Prelude.{ℕ, ◌*◌, ◌≤◌, leb}
use Rattle.rounding.specs.Greatest.{Greatest, by_digits}

-- the greatest whole number whose square is at most n
abbrev pub WholeRoot : ℕ → ℕ → Type 0
WholeRoot n = Greatest (λ s. s * s ≤ n)

-- it, for an n of at most 64 bits (laws `root_greatest` and `greatest_unique`: it is the greatest, and there is no other)
abbrev pub whole_root : ℕ → ℕ
whole_root n = by_digits (λ s. leb (s * s) n) 0 32
