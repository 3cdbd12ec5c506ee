-- Request 4: no width, height or effective length of an accepted member is above 20,000, so that 16 bits hold each.
-- Assumes nothing.
use Prim.Native.Nat.{ℕ, ◌+◌, ◌≤◌, ◌<◌}
use native.Mathlib.Nat.{le_trans}
use native.Mathlib.Omega.{arith}
use mathlib.Core.Path.{◌≡◌, refl}
use mathlib.Core.Bool.{Bool, true, false}
use mathlib.Core.List.{List}
use borrow.Author.Tests.{leb-true}
use lib.Dec.{lit<, lit≤}
use lib.ListN.{length, get_or, get_or-map}
use Rattle.std.specs.Prelude.{None, Some}
use Rattle.cells.specs.Row.{cell_count, Cell}
use Rattle.cells.specs.Refusal.{gives}
use Rattle.member.specs.Acceptance.{out_of_range, lowest_cell, is_begun, accept}
use Rattle.member.specs.Cells.{greatest_of, value_of}
use Rattle.member.specs.Member.{values_of, member_of}
use Rattle.member.specs.Ranges.{NarrowLengths}
use Rattle.member.specs.declared.kind.Kind.{Kind}
use Rattle.member.specs.declared.member.Member.{Member}
use Rattle.member.proofs.AcceptanceLaws.{passes_test, both_true, unbroken, of_accepted}

-- a cell that is not outside its range is blank, or at most the greatest of its range
cell_at_most : (n : ℕ) (cell : Cell) → out_of_range n cell ≡ false → value_of cell ≤ greatest_of n
cell_at_most n None e = omega arith
cell_at_most n (Some value) e = leb-true _ _ (both_true _ _ (passes_test true _ refl e)).1

module _ (cells : List Cell) (whole : length cells ≡ cell_count) (range : lowest_cell out_of_range cells ≡ 0) where
  -- in a row in which no cell is outside its range, no value is above the greatest of its cell
  value_at_most : (k : ℕ) → k < cell_count → get_or (values_of cells) k 0 ≤ greatest_of (1 + k)
  value_at_most k h = rw (get_or-map value_of cells k None) (cell_at_most (1 + k) _ (unbroken cells whole out_of_range range k h))

  -- and none of the four ranges goes beyond 20,000
  pub narrow_lengths : (kind : Kind) (begun : Bool) → NarrowLengths (member_of kind begun (values_of cells))
  narrow_lengths kind begun =
      record {
        width = le_trans (value_at_most 5 (lit< tt)) (lit≤ tt);
        height = le_trans (value_at_most 6 (lit< tt)) (lit≤ tt);
        lh = le_trans (value_at_most 10 (lit< tt)) (lit≤ tt);
        lb = le_trans (value_at_most 11 (lit< tt)) (lit≤ tt);
      }

-- none of the four of an accepted member is above 20,000
pub accepted_narrow_lengths : (cells : List Cell) (m : Member) → length cells ≡ cell_count → accept cells ≡ gives m → NarrowLengths m
accepted_narrow_lengths cells m whole = of_accepted NarrowLengths cells (λ kind ok. narrow_lengths cells whole ok.range kind (is_begun kind cells)) m
