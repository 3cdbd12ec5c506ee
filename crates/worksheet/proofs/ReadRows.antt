-- What a row is that reading gives: as many cells as were read, each blank or below 2 ^ 34.
-- Assumes nothing.
use Prim.Native.Nat.{ℕ, ◌*◌, ◌^◌, ◌<◌}
use mathlib.Core.Bool.{Bool, true, false, cond}
use mathlib.Core.List.{List, [], ◌∷◌}
use mathlib.Core.Path.{◌≡◌, refl, subst}
use lib.Dec.{eqb}
use lib.ListN.{length, length-map}
use Rattle.std.specs.Prelude.{None, Some, Ok, Err}
use Rattle.worksheet.specs.HostRow.{host_cell_bytes, host_cells_at, read_host_row}
use Rattle.worksheet.specs.Number.{read_number, Reading}
use Rattle.worksheet.specs.Reading.{read_cell, cell_read, lowest_unreadable, read_cells}
use Rattle.cells.specs.Refusal.{Result, gives, refuses}
use Rattle.cells.specs.Row.{cell_count, value_bits, Cell}
use Rattle.worksheet.specs.declared.host_cell.ReadError.TheVariants.{NotWhole}
use Rattle.worksheet.specs.declared.host_cell.HostCell.{HostCell}
use Rattle.worksheet.specs.declared.host_cell.HostCell.TheVariants.{Blank as Empty, Number}
use Rattle.worksheet.proofs.HostRowLaws.{host_cells_length}
use Rattle.worksheet.proofs.ReadingLaws.{as_read}
use Rattle.worksheet.proofs.ReadingMeaning.{reads_iff}

-- a cell whose value has 34 bits
abbrev pub Narrow : Cell → Type 0
Narrow None = Unit
Narrow (Some value) = value < 2 ^ value_bits

-- cells all of which are so
abbrev pub AllNarrow : List Cell → Type 0
AllNarrow [] = Unit
AllNarrow (cell ∷ cells) = Narrow cell × AllNarrow cells

-- n cells that were read
pub record AsRead (n : ℕ) (cells : List Cell) : Type 0 where
  pub long : length cells ≡ n
  pub narrow : AllNarrow cells

abbrev IfGiven : ℕ → Result (List Cell) → Type 0
IfGiven n (gives cells) = AsRead n cells
IfGiven n (refuses number cell) = Unit

cell_narrow : (cell : HostCell) → Narrow (cell_read (read_cell cell))
cell_narrow Empty = tt
cell_narrow (Number x) = by (read_number x) refl
  where
    by : (r : Reading) → read_number x ≡ r → Narrow (cell_read r)
    by (Ok None) e = tt
    by (Ok (Some n)) e = ((reads_iff x n).0 e).0
    by (Err NotWhole) e = tt

all_narrow : (cells : List HostCell) → AllNarrow (as_read cells)
all_narrow [] = tt
all_narrow (cell ∷ cells) = (cell_narrow cell, all_narrow cells)

read_cells_lem : (cells : List HostCell) → IfGiven (length cells) (read_cells cells)
read_cells_lem cells = by (eqb (lowest_unreadable cells) 0)
  where
    by : (t : Bool) → IfGiven (length cells) (cond t (gives (as_read cells)) (refuses 1 (lowest_unreadable cells)))
    by true = record { long = length-map cells (λ (cell : HostCell). cell_read (read_cell cell)); narrow = all_narrow cells }
    by false = tt

read_bytes : (bytes : List ℕ) → IfGiven cell_count (read_host_row bytes)
read_bytes bytes = by (eqb (length bytes) (host_cell_bytes * cell_count))
  where
    by : (t : Bool) → IfGiven cell_count (cond t (read_cells (host_cells_at cell_count bytes 0)) (refuses 1 0))
    by true =
        subst (λ (n : ℕ). IfGiven n (read_cells (host_cells_at cell_count bytes 0))) (host_cells_length cell_count bytes 0)
        (read_cells_lem (host_cells_at cell_count bytes 0))
    by false = tt

-- a row read from the host's bytes is whole, each cell blank or below 2 ^ 34
pub row_as_read : (bytes : List ℕ) (cells : List Cell) → read_host_row bytes ≡ gives cells → AsRead cell_count cells
row_as_read bytes cells e = subst (λ (r : Result (List Cell)). IfGiven cell_count r) e (read_bytes bytes)
