-- `values_of` meets its contract: up to the cell that the loop has come to, every value is stored.
-- Assumes nothing.
use Rattle.std.proofs.Common.{◌≡◌, length, arith, rules, refl, sym, ◌∙◌, length-set, get_or}
use Rattle.std.specs.Prelude.{None, Some, unwrap_or}
use Rattle.std.proofs.lemmas.List.{length-map, get_or-map}
use Rattle.cells.specs.Row.{cell_count, Cell}
use Rattle.cells.proofs.FillLaws.{fill_step}
use Rattle.member.specs.Cells.{value_of}
use Rattle.member.specs.Member.{values_of}
use Rattle.acceptance.proofs.naming.values_of.Goals as goal

value_or_0 : (cell : Cell) → unwrap_or cell 0 ≡ value_of cell
value_or_0 None = refl
value_or_0 (Some value) = refl

pub loop-i-preserved : goal.loop-i-preserved
loop-i-preserved c =
    let cells = c.args.row.cells in
    let i = c.loop-i.i in
    let whole : length cells ≡ cell_count = search rules in
    let long : length (values_of cells) ≡ cell_count = length-map cells value_of ∙ whole in
    let stored = get_or-map value_of cells i None 0 (omega arith) ∙ sym (value_or_0 (get_or cells i None)) ∙ sym c.unwrap_or.ensures in
    (length-set c.loop-i.values i _ ∙ c.loop-i.invariant.0, fill_step c.loop-i.values (values_of cells) i _ 0 (omega arith) (omega arith) c.loop-i.invariant.1 stored)
