-- `member_of` meets its contract: 16 bits hold each of the four lengths.
-- Assumes nothing.
use Rattle.std.proofs.Common.{◌≡◌, ℕ, Bool, List, length, arith, rules}
use Rattle.cells.specs.Row.{cell_count, Cell, cells_of}
use Rattle.member.specs.Acceptance.{out_of_range, lowest_cell}
use Rattle.member.specs.Member.{values_of, member_of}
use Rattle.member.specs.Ranges.{NarrowLengths}
use Rattle.member.specs.declared.kind.Kind.{Kind}
use Rattle.member.proofs.Lengths.{narrow_lengths}
use Rattle.acceptance.proofs.naming.member_of.Goals as goal

-- the four of the values that the code has read
read_narrow : (kind : Kind) (jointed : Bool) (cells : List Cell) (values : List ℕ) → length cells ≡ cell_count → lowest_cell out_of_range cells ≡ 0 → values ≡ values_of cells
    → NarrowLengths (member_of kind jointed values)
read_narrow kind jointed cells values whole range are = rw are (narrow_lengths cells whole range kind jointed)

pub overflow_cast-result : goal.overflow_cast-result
overflow_cast-result c = omega (arith, read_narrow c.args.kind c.args.jointed (cells_of c.args.row) _ (search rules) c.requires c.values_of-values.ensures)

pub overflow_cast-result-2 : goal.overflow_cast-result-2
overflow_cast-result-2 c = omega (arith, read_narrow c.args.kind c.args.jointed (cells_of c.args.row) _ (search rules) c.requires c.values_of-values.ensures)

pub overflow_cast-result-3 : goal.overflow_cast-result-3
overflow_cast-result-3 c = omega (arith, read_narrow c.args.kind c.args.jointed (cells_of c.args.row) _ (search rules) c.requires c.values_of-values.ensures)

pub overflow_cast-result-4 : goal.overflow_cast-result-4
overflow_cast-result-4 c = omega (arith, read_narrow c.args.kind c.args.jointed (cells_of c.args.row) _ (search rules) c.requires c.values_of-values.ensures)
