-- A search through part of a row, which the code's searches are put together of.
-- Assumes nothing.
use Rattle.std.specs.Prelude.{ℕ, ◌+◌, ◌≡◌, Bool, cond, eqb, List, take, drop, Option, Some, None}
use denote.Param.Members.{Shared}
use Rattle.cells.specs.Lowest.{lowest}
use Rattle.cells.specs.Row.{Cell}
use Rattle.cellrules.specs.declared.rules.NumberedCell.{NumberedCell}

-- the cell of a number, none for 0
abbrev pub cell_found : ℕ → Option ℕ
cell_found n = cond (eqb n 0) None (Some n)

-- the lowest cell of which a test is true, of those from place i on; the first cell is at place 0
abbrev pub search_from : (ℕ → Cell → Bool) → List Cell → ℕ → ℕ
search_from test cells i = lowest test (i + 1) (drop i cells)

-- the same of those from one place up to another, none where there is none
unfoldable pub search_between : (ℕ → Cell → Bool) → List Cell → ℕ → ℕ → Option ℕ
search_between test cells from to = cell_found (search_from test (take to cells) from)

-- a closure answers of every numbered cell what a test says of it
abbrev pub Tests : {F : Type 0} → Shared F (NumberedCell × Unit {0}) Bool → F → (ℕ → Cell → Bool) → Type 0
Tests g f test = (n : ℕ) (cell : Cell) (answer : Bool) → g.post f (record { number = n; cell = cell }, tt) answer → answer ≡ test n cell
