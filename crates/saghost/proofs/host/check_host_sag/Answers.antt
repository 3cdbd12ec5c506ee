-- `check_host_sag`: what is told and left in the bytes equals the definition, so it keeps the reading of passes and fails.
-- Assumes nothing.
use Rattle.std.proofs.Common.{rules, lit≤}
use Rattle.sagrules.proofs.HostSagLaws.{host_keeps}
use Rattle.saghost.proofs.host.check_host_sag.Goals as goal

pub returns-clause-demand : goal.returns-clause-demand
returns-clause-demand c = host_keeps c.args.row.now c.args.sag.now c.args.answer.now _ _ (search rules) (search rules) _ (lit≤ tt)
