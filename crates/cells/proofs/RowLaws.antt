-- Cells by number.
-- Assumes nothing.
use Prim.Native.Nat.{ℕ, ◌+◌, ◌-◌, ◌≤◌}
use native.Mathlib.Omega.{arith}
use mathlib.Core.Path.{◌≡◌, refl, ◌∙◌}
use mathlib.Core.List.{List, [], ◌∷◌}
use lib.ListN.{length, get_or, length-set}
use lib.Seq.{get_or-set_same, get_or-set_other}
use Rattle.std.specs.Prelude.{None, Some}
use Rattle.cells.specs.Row.{blanks, with_cell, fill_from, Cell}

-- another cell n is there, and no other cell changes
pub cell_there : (n : ℕ) (cell : Cell) (cells : List Cell) → 1 ≤ n → n ≤ length cells → get_or (with_cell n cell cells) (n - 1) None ≡ cell
cell_there n cell cells some inside = get_or-set_same cells (n - 1) cell None (omega arith)

pub others_stay : (n k : ℕ) (cell : Cell) (cells : List Cell) → 1 ≤ n → 1 ≤ k → (k ≡ n → ⊥) → get_or (with_cell n cell cells) (k - 1) None ≡ get_or cells (k - 1) None
others_stay n k cell cells some one other = get_or-set_other cells (n - 1) (k - 1) cell None (λ e. other (omega (arith, e)))

-- values are in consecutive cells: by example, from cell 2 on
pub filled_from_2 : fill_from 2 (7 ∷ 8 ∷ []) (blanks 4) ≡ None ∷ Some 7 ∷ Some 8 ∷ None ∷ []
filled_from_2 = refl

-- and there are as many cells as before
pub length_filled : (n : ℕ) (values : List ℕ) (cells : List Cell) → length (fill_from n values cells) ≡ length cells
length_filled n [] cells = refl
length_filled n (value ∷ values) cells = length-set (fill_from (n + 1) values cells) (n - 1) (Some value) ∙ length_filled (n + 1) values cells
