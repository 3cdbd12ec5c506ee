-- `write_cells` meets its contract: the loop writes one cell after another, and the last byte is filled with zero bits.
-- Assumes nothing.
use mathlib.Core.Path.{refl}
use lib.Seq.{take_all}
use Rattle.std.proofs.Common.{arith, ◌+◌, ◌-◌}
use Rattle.packed.specs.Packing.{row_bits}
use Rattle.packed.proofs.CellLaws.{row_bits_le, row_bits_next, length_next, narrow_cells}
use Rattle.codec.proofs.WriterLaws.{wrote_none, wrote_more, joined}
use Rattle.codec.proofs.BufferLaws.{packed_none, packed_filled}
use Rattle.codec.proofs.writer.write_cells.Goals as goal

pub loop-cell-init : goal.loop-cell-init
unfolding row_bits
loop-cell-init c = (wrote_none _ _, omega (arith, c.start-cursor.ensures.1), λ i. (c.type_inv.buffer i).fits)

pub write_cell-requires-clause-narrow : goal.write_cell-requires-clause-narrow
write_cell-requires-clause-narrow c = narrow_cells _ c.requires.narrow _ (omega arith)

pub write_cell-requires-clause-room : goal.write_cell-requires-clause-room
write_cell-requires-clause-room c =
    let cells = c.args.cells.now in
    let i = c.loop-cell.cell-index in
    omega (arith, c.loop-cell.invariant.0.place, length_next cells i (omega arith), row_bits_le cells (i + 1), c.requires.room, c.start-cursor.ensures)

pub loop-cell-preserved : goal.loop-cell-preserved
loop-cell-preserved c =
    let w = c.write_cell.ensures in (
      rw (row_bits_next c.args.cells.now c.loop-cell.cell-index (omega arith)) (wrote_more c.loop-cell.invariant.0 w.wrote w.few),
      w.few,
      λ i. (c.type_inv.buffer i).fits,
    )

pub returns-then-cursor-gt0 : goal.returns-then-cursor-gt0
returns-then-cursor-gt0 c =
    let cells = c.args.cells.now in
    let start = c.start-cursor.ensures in
    let place = c.loop-cell.cursor in
    let w = rw (take_all c.loop-cell.cell-index cells (omega arith)) at c.loop-cell.invariant.0 in
    packed_filled cells start.0 start.1 c.requires.room (omega arith) (λ i. (c.type_inv.buffer i).fits)
    (8 - place.count) (omega arith) c.flush.ensures.few (place.at + 1) (omega (arith, w.place, start))
    (wrote_more w (joined c.append.ensures refl c.flush.ensures.wrote) c.flush.ensures.few)

pub returns-else-cursor-gt0 : goal.returns-else-cursor-gt0
returns-else-cursor-gt0 c =
    let cells = c.args.cells.now in
    let start = c.start-cursor.ensures in
    let w = rw (take_all c.loop-cell.cell-index cells (omega arith)) at c.loop-cell.invariant.0 in
    packed_none cells start.0 start.1 c.requires.room (omega arith) c.loop-cell.invariant.2 (omega arith) w
