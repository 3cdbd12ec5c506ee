-- Rounding a quotient to a whole number.
-- Assumes nothing.
use Rattle.std.specs.Prelude.{ℕ, ◌+◌, ◌-◌, ◌/◌}

-- "down": n / d rounded down, the quotient of whole numbers
abbrev pub down : ℕ → ℕ → ℕ
down n d = n / d

-- "up": n / d rounded up
abbrev pub up : ℕ → ℕ → ℕ
up n d = (n + (d - 1)) / d
