-- The loop of `values_of`: up to the cell that it has come to, every value is stored.
-- Assumes nothing.
use Rattle.std.proofs.Common.{◌≡◌, length, take}
use Rattle.cells.specs.Row.{cell_count}
use Rattle.member.specs.Member.{values_of}
use Rattle.acceptance.proofs.naming.values_of.Given as goal

abbrev pub invariant-loop-i : goal.invariant-loop-i
invariant-loop-i l = (length l.values ≡ cell_count) × (take l.i l.values ≡ take l.i (values_of l.fn.row.cells))
