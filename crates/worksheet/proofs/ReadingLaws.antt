-- When reading gives cells, and when it refuses.
-- Assumes nothing.
use mathlib.Core.Path.{◌≡◌}
use mathlib.Core.List.{List, map}
use Prim.Native.Nat.{ℕ, ◌+◌}
use native.Mathlib.Omega.{arith}
use borrow.Author.Tests.{ne_eqb}
use Rattle.cells.specs.Refusal.{gives, refuses}
use Rattle.cells.specs.Row.{Cell}
use Rattle.worksheet.specs.Reading.{read_cell, cell_read, lowest_unreadable, read_cells}
use Rattle.worksheet.specs.declared.host_cell.HostCell.{HostCell}

-- the cells that reading gives
abbrev pub as_read : List HostCell → List Cell
as_read cells = map (λ (cell : HostCell). cell_read (read_cell cell)) cells

pub read_given : (cells : List HostCell) → lowest_unreadable cells ≡ 0 → read_cells cells ≡ gives (as_read cells)
read_given cells e = rw e

pub read_refused : (cells : List HostCell) (n : ℕ) → lowest_unreadable cells ≡ n + 1 → read_cells cells ≡ refuses 1 (n + 1)
read_refused cells n e = rw (e, ne_eqb (n + 1) 0 (λ z. omega arith))
