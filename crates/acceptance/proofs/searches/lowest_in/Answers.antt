-- `lowest_in` meets its contract: the loop has come to the lowest cell of the part, or to its end.
-- Assumes nothing.
use Rattle.std.proofs.Common.{arith, rules, ◌∙◌, sym, true, false}
use Rattle.acceptance.proofs.SearchLaws.{search_step, search_end}
use Rattle.acceptance.proofs.searches.lowest_in.Goals as goal

pub returns-then-test : goal.returns-then-test
returns-then-test g c = λ rule tests.
    sym (
    c.loop-i.invariant rule tests
    ∙ search_step rule c.args.row.cells (search rules) c.loop-i.i c.args.part.end true (omega arith) (omega arith) (sym (tests _ _ _ c.test.ensures) ∙ c.if-test.true)
    )

pub loop-i-preserved : goal.loop-i-preserved
loop-i-preserved g c = λ rule tests.
    c.loop-i.invariant rule tests
    ∙ search_step rule c.args.row.cells (search rules) c.loop-i.i c.args.part.end false (omega arith) (omega arith) (sym (tests _ _ _ c.test.ensures) ∙ c.if-test.false)

pub returns : goal.returns
returns g c = λ rule tests.
    sym (c.loop-i.invariant rule tests ∙ search_end rule c.args.row.cells (search rules) c.loop-i.i c.args.part.end (omega arith) (omega arith))
