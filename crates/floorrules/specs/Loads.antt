-- The loads on a floor beam: their ranges, the regime, M and Q, rounded and, beside them, unrounded.
-- Assumes nothing.
use Rattle.std.specs.Prelude.{ℕ, ◌+◌, ◌*◌, Bool, cond, ◌&&◌, ltb}
use Rattle.rounding.specs.Fraction.{Fraction, whole, ◌⊘◌}
use Rattle.rounding.specs.Range.{In}
use Rattle.rounding.specs.Rounding.{up}
use Rattle.member.specs.Cells.{within}
use Rattle.floorrules.specs.declared.beam.Loading.{Loading}

-- request 1: the total load q, in N/m
abbrev pub total_load : Loading → ℕ
total_load l = l.lasting + l.remaining

-- request 1: q from 100 to 100,000 N/m, the span from 500 to 20,000 mm; a load may be 0
abbrev pub loading_in_range : Loading → Bool
loading_in_range l = within 100 100000 (total_load l) && within 500 20000 l.span

-- the same, as two ranges
pub record LoadingRanges (l : Loading) : Type 0 where
  pub load : In 100 100000 (total_load l)
  pub span : In 500 20000 l.span

-- request 1: the load that lasts exceeds 80 percent of q
abbrev pub mostly_lasting : Loading → Bool
mostly_lasting l = ltb (80 * total_load l) (100 * l.lasting)

-- request 1: the regime is Б (2) where it does, otherwise В (3)
abbrev pub regime_of : Loading → ℕ
regime_of l = cond (mostly_lasting l) 2 3

-- request 1: M = q × span² / 8000, up, in N·mm
abbrev pub moment_of : Loading → ℕ
moment_of l = up (total_load l * (l.span * l.span)) 8000

-- M, unrounded
abbrev pub exact_moment_of : Loading → Fraction
exact_moment_of l = whole (total_load l * (l.span * l.span)) ⊘ whole 8000

-- request 1: Q = q × span / 2000, up, in N
abbrev pub shear_of : Loading → ℕ
shear_of l = up (total_load l * l.span) 2000

-- Q, unrounded
abbrev pub exact_shear_of : Loading → Fraction
exact_shear_of l = whole (total_load l * l.span) ⊘ whole 2000
