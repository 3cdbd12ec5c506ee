-- A member as a strut, and its slenderness, checks 2 and 3. Nothing in it is rounded, so the rule and the unrounded rule are one.
-- Assumes nothing.
use Rattle.std.specs.Prelude.{ℕ, ◌*◌, ◌≤◌, Bool, leb}
use Rattle.sp64.specs.declared.strut.Strut.{Strut}
use Rattle.sp64.specs.Ranges.{InLength, InSide}

-- the square of the effective length L
abbrev pub L² : Strut → ℕ
L² strut = strut.length * strut.length

-- the square of the side s across which the member buckles
abbrev pub s² : Strut → ℕ
s² strut = strut.side * strut.side

-- 12 × L² ≤ limit² × s²
abbrev pub Slenderness : ℕ → Strut → Type 0
Slenderness limit strut = 12 * L² strut ≤ limit * limit * s² strut

-- the same as a test
abbrev pub slenderness_holds : ℕ → Strut → Bool
slenderness_holds limit strut = leb (12 * L² strut) (limit * limit * s² strut)

-- the ranges of L, cells 11 and 12, and of s, cells 7 and 6
pub record StrutRanges (strut : Strut) : Type 0 where
  pub L : InLength strut.length
  pub s : InSide strut.side
