-- `material_in` meets its contract: each value is that of its cell.
-- Assumes nothing.
use Rattle.std.proofs.Common.{◌∙◌}
use Rattle.strengths.proofs.StrengthsLaws.{value_in}
use Rattle.strengths.proofs.host.material_in.Goals as goal

pub returns : goal.returns
returns c =
    let cells = c.args.row.cells in
    rw (c.unwrap_or.ensures ∙ value_in cells 1, c.unwrap_or-2.ensures ∙ value_in cells 2, c.unwrap_or-3.ensures ∙ value_in cells 3, c.unwrap_or-4.ensures ∙ value_in cells 4) at c.material_of.ensures
