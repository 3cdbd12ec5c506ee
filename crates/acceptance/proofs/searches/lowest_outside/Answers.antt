-- `lowest_outside` meets its contract: the searches of its parts, one after another, are the search of the row. Where they are cut is read from the code.
-- Assumes nothing.
use Rattle.std.proofs.Common.{arith, rules, ◌∙◌}
use Rattle.member.specs.Acceptance.{out_of_range}
use Rattle.acceptance.proofs.SearchLaws.{whole_row, next_part}
use Rattle.acceptance.proofs.searches.lowest_outside.Goals as goal

pub returns : goal.returns
returns c =
    let cells = c.args.row.cells in
    let first = c.lowest_in-first.ensures out_of_range (λ n cell answer e. search rules) in
    let second = next_part out_of_range cells (search rules) first (c.next_in-second.ensures out_of_range (λ n cell answer e. search rules)) (omega arith) (omega arith) (omega arith) in
    next_part out_of_range cells (search rules) second (c.next_in.ensures out_of_range (λ n cell answer e. search rules)) (omega arith) (omega arith) (omega arith)
    ∙ whole_row out_of_range cells (search rules)
