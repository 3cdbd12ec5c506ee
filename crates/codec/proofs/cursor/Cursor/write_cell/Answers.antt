-- `write_cell` meets its contract: the cell's bits join those that wait, and `flush` writes the whole bytes.
-- Assumes nothing.
use Rattle.packed.proofs.CellLaws.{narrow_lt}
use Rattle.codec.proofs.WriterLaws.{room_joined, joined, blank_digits, whole_digits}
use Rattle.codec.proofs.cursor.Cursor.write_cell.Goals.{in-None, in-Some}
use Rattle.codec.proofs.cursor.Cursor.write_cell.Goals as goal

pub flush-requires : goal.flush-requires
flush-requires c =
    elim c.match-cell.branch [
      | in-None w ↦ rw w.self-is (room_joined w.append.ensures blank_digits (rw w.in-None.is at c.requires.room))
      | in-Some w ↦
          rw w.self-is
          (room_joined w.append-in-Some.ensures (whole_digits _ (narrow_lt _ (rw w.in-Some.is at c.requires.narrow))) (rw w.in-Some.is at c.requires.room))
    ]

pub returns-clause-wrote : goal.returns-clause-wrote
returns-clause-wrote c =
    elim c.match-cell.branch [
      | in-None w ↦ rw w.in-None.is (joined w.append.ensures blank_digits (rw w.self-is at c.flush.ensures.wrote))
      | in-Some w ↦
          rw w.in-Some.is
          (joined w.append-in-Some.ensures (whole_digits _ (narrow_lt _ (rw w.in-Some.is at c.requires.narrow))) (rw w.self-is at c.flush.ensures.wrote))
    ]
