-- `check_host_row` keeps demand 3: what it returns and leaves is what the definitions say.
-- Assumes nothing.
use Rattle.std.proofs.Common.{rules, lit≤}
use Rattle.member.specs.Demand3.{demand_factor}
use Rattle.worksheet.proofs.HostDemand.{host_keeps_demand_3}
use Rattle.hosting.proofs.check.check_host_row.Goals as goal

pub returns-clause-demand : goal.returns-clause-demand
returns-clause-demand c =
    host_keeps_demand_3 c.args.row.now c.args.answer.now _ _ (search rules) c.check_into.ensures.buffer demand_factor (λ c. lit≤ tt)
