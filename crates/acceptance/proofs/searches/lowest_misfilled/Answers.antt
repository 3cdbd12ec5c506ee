-- `lowest_misfilled` meets its contract: the searches of its parts, one after the other, are the search of the row.
-- Assumes nothing.
use Rattle.std.proofs.Common.{arith, rules, ◌∙◌}
use Rattle.cells.specs.Row.{cell_count}
use Rattle.member.specs.Acceptance.{misfilled}
use Rattle.acceptance.proofs.SearchLaws.{whole_row, next_part, or_later}
use Rattle.acceptance.proofs.searches.lowest_misfilled.Goals as goal

pub returns : goal.returns
returns c =
    let test = misfilled c.args.kind c.args.begun in
    let cells = c.args.row.cells in
    next_part test cells (search rules) {from = 0} {mid = 13} {to = cell_count}
    (c.lowest_in.ensures test (λ n cell answer e. search rules))
    (or_later c.lowest_in.result _ c.or_else.result (λ later. search rules) c.or_else.ensures)
    (omega arith)
    (omega arith)
    (omega arith)
    ∙ whole_row test cells (search rules)
