-- M and Q of a floor beam: what they round, and between which values they lie.
-- Assumes nothing.
use Prim.Native.Nat.{◌*◌}
use native.Mathlib.Omega.{arith}
use mathlib.Core.Bool.{true, false}
use mathlib.Core.Path.{◌≡◌, refl}
use borrow.Author.Tests.{le-leb}
use lib.Dec.{lit<}
use Rattle.rounding.specs.Fraction.{RoundsUpTo}
use Rattle.rounding.specs.Range.{In}
use Rattle.rounding.proofs.Ranges.{in_mul}
use Rattle.rounding.proofs.RoundingLaws.{rounding_up}
use Rattle.member.specs.Cells.{in_range}
use Rattle.member.proofs.AcceptanceLaws.{both_true}
use Rattle.worksheet.proofs.OwnCellMeaning.{within_range}
use Rattle.floorrules.specs.Loads.{total_load, loading_in_range, LoadingRanges, moment_of, exact_moment_of, shear_of, exact_shear_of}
use Rattle.floorrules.specs.WorkedBeams.{loads}
use Rattle.floorrules.specs.declared.beam.Loading.{Loading}

-- M and Q are their unrounded values, rounded up
pub moment_rounds : (l : Loading) → RoundsUpTo (moment_of l) (exact_moment_of l)
moment_rounds l = omega (arith, rounding_up (total_load l * (l.span * l.span)) 8000 (lit< tt))

pub shear_rounds : (l : Loading) → RoundsUpTo (shear_of l) (exact_shear_of l)
shear_rounds l = omega (arith, rounding_up (total_load l * l.span) 2000 (lit< tt))

-- loads and span within their ranges
module _ (l : Loading) (given : loading_in_range l ≡ true) where
  pub loading_ranges : LoadingRanges l
  loading_ranges =
      let both = both_true _ _ given in
      record { load = within_range 100 100000 (total_load l) both.0; span = within_range 500 20000 l.span both.1 }

  -- M is from 3,125 to 5,000,000,000 N·mm: beyond 32 bits
  pub moment_in : In 3125 5000000000 (moment_of l)
  moment_in = omega (arith, in_mul loading_ranges.load (in_mul loading_ranges.span loading_ranges.span))

  -- Q is from 25 to 1,000,000 N
  pub shear_in : In 25 1000000 (shear_of l)
  shear_in = omega (arith, in_mul loading_ranges.load loading_ranges.span)

  -- so they lie in the ranges of cells 9 and 10
  pub moment_in_cell_9 : in_range 9 (moment_of l) ≡ true
  moment_in_cell_9 = let M = moment_in in rw (le-leb 1 (moment_of l) (omega arith), le-leb (moment_of l) 10000000000 (omega arith))

  pub shear_in_cell_10 : in_range 10 (shear_of l) ≡ true
  shear_in_cell_10 = let Q = shear_in in rw (le-leb 0 (shear_of l) (omega arith), le-leb (shear_of l) 100000000 (omega arith))

-- the ends of the ranges, and a load of 0
pub range_ends : (loading_in_range (loads 0 100 500) ≡ true) × (loading_in_range (loads 100 0 500) ≡ true)
    × (loading_in_range (loads 0 100000 20000) ≡ true) × (loading_in_range (loads 100000 0 20000) ≡ true)
range_ends = (refl, refl, refl, refl)

-- one past each end; and a load alone that exceeds every total, whose sum with the other would not fit 64 bits
pub range_past : (loading_in_range (loads 49 50 500) ≡ false) × (loading_in_range (loads 50000 50001 500) ≡ false)
    × (loading_in_range (loads 50 50 499) ≡ false) × (loading_in_range (loads 50 50 20001) ≡ false)
    × (loading_in_range (loads 18446744073709551615 18446744073709551615 500) ≡ false)
range_past = (refl, refl, refl, refl, refl)
