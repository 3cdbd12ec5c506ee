-- `check_sag` meets its contract: what equals the definition keeps the reading of passes and fails.
-- Assumes nothing.
use Rattle.std.proofs.Common.{◌≡◌, rules, length, lit≤}
use Rattle.cells.specs.Row.{cell_count, cells_of}
use Rattle.sagrules.proofs.SagDemand.{answer_keeps}
use Rattle.sagcheck.proofs.check.check_sag.Goals as goal

pub returns-clause-demand : goal.returns-clause-demand
returns-clause-demand c =
    let whole : length (cells_of c.args.row) ≡ cell_count = search rules in
    answer_keeps (cells_of c.args.row) c.args.sag _ whole (search rules) _ (lit≤ tt)
