-- The loop of `unpack_cells` reads one cell after another into the row.
-- Assumes nothing.
use Rattle.codec.proofs.UnpackLaws.{ReadSoFar}
use Rattle.codec.proofs.unpack.unpack_cells.Given as goal

abbrev pub invariant-loop-i : goal.invariant-loop-i
invariant-loop-i l = ReadSoFar l.bytes l.n l.i l.unpacked.row.cells l.cursor
