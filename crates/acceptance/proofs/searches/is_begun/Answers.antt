-- `is_begun` meets its contract: the search finds a cell just where one begins a joint.
-- Assumes nothing.
use Rattle.std.proofs.Common.{rules, ap, ◌∙◌}
use Rattle.std.specs.Option.{is_some}
use Rattle.member.specs.Acceptance.{begins, lowest_cell}
use Rattle.acceptance.proofs.SearchLaws.{whole_row, some_found}
use Rattle.acceptance.proofs.searches.is_begun.Goals as goal

pub returns : goal.returns
returns c =
    let test = begins c.args.kind in
    let found = c.lowest_in.ensures test (λ n cell answer e. search rules) ∙ whole_row test c.args.row.cells (search rules) in
    c.is_some.ensures ∙ ap is_some found ∙ some_found (lowest_cell test c.args.row.cells)
