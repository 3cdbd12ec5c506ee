-- The loop of `write_cells` writes one cell after another.
-- Assumes nothing.
use Rattle.std.proofs.Common.{◌<◌, take}
use Rattle.packed.specs.Bits.{Bytes}
use Rattle.packed.specs.Packing.{row_bits}
use Rattle.codec.specs.Place.{Wrote}
use Rattle.codec.proofs.writer.write_cells.Given as goal

abbrev pub invariant-loop-cell : goal.invariant-loop-cell
invariant-loop-cell l =
    Wrote l.initial.buffer l.buffer l.initial.cursor l.cursor (row_bits (take l.cell-index l.cells)) × (l.cursor.count < 8) × Bytes l.buffer
