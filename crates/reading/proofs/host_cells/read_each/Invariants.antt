-- The cells before the one that the loop has come to are readable, and the row holds what they read as.
-- Assumes nothing.
use Rattle.std.proofs.Common.{List}
use Rattle.worksheet.specs.declared.host_cell.HostCell.{HostCell}
use Rattle.reading.specs.Cells.{ComeFrom}
use Rattle.reading.proofs.LoopLaws.{ReadUpTo}
use Rattle.reading.proofs.host_cells.read_each.Given as goal

abbrev pub invariant-loop-i : goal.invariant-loop-i
invariant-loop-i g l = (cells : List HostCell) → ComeFrom cells (goal.F-post g l.cell_at) → ReadUpTo cells l.i l.slot-items
