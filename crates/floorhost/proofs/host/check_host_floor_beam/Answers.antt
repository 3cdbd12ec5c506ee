-- `check_host_floor_beam`: what is told and left in the bytes equals the definition, so it keeps demand 3.
-- Assumes nothing.
use Rattle.std.proofs.Common.{rules, lit≤}
use Rattle.floorrules.proofs.HostBeamLaws.{host_keeps}
use Rattle.floorhost.proofs.host.check_host_floor_beam.Goals as goal

pub returns-clause-demand : goal.returns-clause-demand
returns-clause-demand c = host_keeps c.args.beam.now c.args.answer.now _ _ (search rules) (search rules) _ (λ c. lit≤ tt)
