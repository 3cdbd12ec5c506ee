-- `lowest_unknown` meets its contract: no cell but the three that it looks at has a code.
-- Assumes nothing.
use Rattle.std.proofs.Common.{arith, rules}
use Rattle.member.specs.Acceptance.{unknown_code}
use Rattle.acceptance.proofs.SearchLaws.{codes_in_parts, or_later}
use Rattle.acceptance.proofs.searches.lowest_unknown.Goals as goal

pub returns : goal.returns
returns c =
    let test = unknown_code c.args.kind in
    codes_in_parts c.args.kind c.args.row.cells (search rules) {a = 1} {b = 3} {c = 12} {d = 13}
    (c.lowest_in.ensures test (λ n cell answer e. search rules))
    (or_later c.lowest_in.result _ c.or_else.result (λ later. search rules) c.or_else.ensures)
    (omega arith)
    (omega arith)
    (omega arith)
    (omega arith)
    (omega arith)
    (omega arith)
