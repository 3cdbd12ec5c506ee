-- The host's row: nine bytes for each cell. The first is 1 for a filled cell and 0 for a blank; the other eight are the float, least significant byte first.
-- Assumes nothing.
use Rattle.std.specs.Prelude.{ℕ, zero, suc, ◌+◌, ◌*◌, cond, List, [], ◌∷◌, eqb, get_or, length}
use Rattle.std.specs.Float.{nan}
use Rattle.cells.specs.HostBytes.{float_at}
use Rattle.worksheet.specs.Reading.{read_cells}
use Rattle.cells.specs.Refusal.{Result, refuses}
use Rattle.cells.specs.Row.{cell_count, Cell}
use Rattle.worksheet.specs.declared.host_cell.HostCell.{HostCell}
use Rattle.worksheet.specs.declared.host_cell.HostCell.TheVariants.{Blank, Number}

-- the bytes of a host's cell
abbrev pub host_cell_bytes : ℕ
host_cell_bytes = 9

-- the cell whose bytes start at a place: 0 is a blank, whatever its bits; 1 is the float; another first byte is unreadable, as a NaN is
unfoldable pub host_cell_at : List ℕ → ℕ → HostCell
host_cell_at bytes at =
    cond (eqb (get_or bytes at 0) 0) Blank (cond (eqb (get_or bytes at 0) 1) (Number (float_at bytes (at + 1))) (Number nan))

-- n cells, the first at a place
unfoldable pub host_cells_at : ℕ → List ℕ → ℕ → List HostCell
host_cells_at zero bytes at = []
host_cells_at (suc n) bytes at = host_cell_at bytes at ∷ host_cells_at n bytes (at + host_cell_bytes)

-- reading the host's row: refusal 1, cell 0, for another length; otherwise its cells, read
abbrev pub read_host_row : List ℕ → Result (List Cell)
read_host_row bytes = cond (eqb (length bytes) (host_cell_bytes * cell_count)) (read_cells (host_cells_at cell_count bytes 0)) (refuses 1 0)
