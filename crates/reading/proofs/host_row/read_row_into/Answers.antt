-- `read_row_into` meets its contract: bytes of the right length are read as the cells that start nine apart.
-- Assumes nothing.
use Rattle.std.proofs.Common.{◌≡◌, sym, ap, ◌∙◌, List, ℕ, zero-add, ◌*◌, ◌<◌, length, get_or, eq-eqb, rules}
use Rattle.cells.specs.Row.{cell_count}
use Rattle.worksheet.specs.HostRow.{host_cell_bytes, host_cell_at, host_cells_at, read_host_row}
use Rattle.worksheet.specs.Reading.{read_cells}
use Rattle.worksheet.specs.declared.host_cell.HostCell.{HostCell}
use Rattle.worksheet.specs.declared.host_cell.HostCell.TheVariants.{Blank as Empty}
use Rattle.worksheet.proofs.HostRowLaws.{host_cells_length, host_cells_at_lem}
use Rattle.reading.specs.Cells.{ComeFrom}
use Rattle.reading.specs.Room.{zeros}
use Rattle.reading.proofs.LoopLaws.{refused_leaves, done_leaves}
use Rattle.reading.proofs.host_row.read_row_into.Goals as goal

-- bytes of the right length are read as these cells
read_whole : (bytes : List ℕ) → length bytes ≡ host_cell_bytes * cell_count → read_host_row bytes ≡ read_cells (host_cells_at cell_count bytes 0)
read_whole bytes whole = rw (eq-eqb _ _ whole)

-- the cell that starts i cells on is cell i
cell_there : (bytes : List ℕ) (i : ℕ) → i < cell_count → host_cell_at bytes (host_cell_bytes * i) ≡ get_or (host_cells_at cell_count bytes 0) i Empty
cell_there bytes i h = sym (host_cells_at_lem cell_count bytes 0 i Empty h ∙ ap (host_cell_at bytes) (zero-add (host_cell_bytes * i)))

-- what the closure answers for a place is the cell there
come_from : (bytes : List ℕ) (Answers : ℕ → HostCell → Type 0)
    → ((i : ℕ) (cell : HostCell) → Answers i cell → cell ≡ host_cell_at bytes (host_cell_bytes * i)) → ComeFrom (host_cells_at cell_count bytes 0) Answers
come_from bytes Answers told = record { whole = host_cells_length cell_count bytes 0; each = λ i cell h p. told i cell p ∙ cell_there bytes i h }

pub returns-then-is_err : goal.returns-then-is_err
returns-then-is_err c =
    let bytes = c.args.bytes.now in
    let read = c.read_each-outcome.ensures _ (come_from bytes _ (λ i cell p. search rules)) in
    let says = refused_leaves _ _ zeros _ (read ∙ sym (read_whole bytes c.if-bytes.false)) (sym c.is_err.ensures.value ∙ c.if-is_err.true) in
    rw c.row_room-then-is_err.ensures (record { result = says.0; whole = says.1 })

pub returns-else-is_err : goal.returns-else-is_err
returns-else-is_err c =
    let bytes = c.args.bytes.now in
    let read = c.read_each-outcome.ensures _ (come_from bytes _ (λ i cell p. search rules)) ∙ sym (read_whole bytes c.if-bytes.false) in
    record { result = read; whole = done_leaves _ _ zeros _ read (sym c.is_err.ensures.value ∙ c.if-is_err.false) }
