-- `strengths_into` meets its contract: the material of the cells of a row that is judged is its member's.
-- Assumes nothing.
use Rattle.std.proofs.Common.{sym, ◌∙◌}
use Rattle.strengths.proofs.StrengthsLaws.{judged_material, judged_leaves}
use Rattle.strengths.proofs.host.strengths_into.Goals as goal

pub write_strengths-requires : goal.write_strengths-requires
write_strengths-requires c =
    judged_material c.args.row.now c.args.answer.now _ _ (sym c.in_ok-read_row_into.ensures.result) (sym c.in_ok-check_row.ensures.result) c.material_in-material.ensures

pub returns-clause-buffer : goal.returns-clause-buffer
returns-clause-buffer c =
    c.write_strengths.ensures.buffer
    ∙ judged_leaves c.args.row.now c.args.answer.now _ _ (sym c.in_ok-read_row_into.ensures.result) (sym c.in_ok-check_row.ensures.result) c.material_in-material.ensures
