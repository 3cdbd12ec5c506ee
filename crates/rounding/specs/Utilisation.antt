-- The utilisation of a force against a capacity, in millionths.
-- Assumes nothing.
use Rattle.std.specs.Prelude.{ℕ, ◌*◌, min}
use Rattle.rounding.specs.Range.{In}
use Rattle.rounding.specs.Rounding.{up}

-- the capacities that a utilisation is taken against, in N or N·mm
abbrev pub InCapacity : ℕ → Type 0
InCapacity = In 1 1000000000000

-- a utilisation
abbrev pub InUtilisation : ℕ → Type 0
InUtilisation = In 0 9999999

-- the cap: no utilisation is given as more than 9,999,999
abbrev pub capped : ℕ → ℕ
capped u = min 9999999 u

-- the utilisation of a force against a capacity: 1,000,000 × force / capacity, up, and capped
abbrev pub utilisation : ℕ → ℕ → ℕ
utilisation force capacity = capped (up (1000000 * force) capacity)
