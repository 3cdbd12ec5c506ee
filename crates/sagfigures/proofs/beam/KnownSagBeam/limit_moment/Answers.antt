-- `limit_moment` meets its contract: 4 × E × b × h³ fits, and its quotient lies in the range of Mf.
-- Assumes nothing.
use Rattle.std.proofs.Common.{rules, arith}
use Rattle.sagrules.proofs.SagLaws.{stiffness_in, limit_moment_in}
use Rattle.sagfigures.proofs.beam.KnownSagBeam.limit_moment.Goals as goal

pub overflow_mul-result-5 : goal.overflow_mul-result-5
overflow_mul-result-5 c = omega (arith, stiffness_in c.args.self.ranges c.args.sag.in_range c.design_modulus.ensures.range)

pub returns : goal.returns
returns c = record { exact = search rules; range = rw c.design_modulus.ensures.exact (limit_moment_in c.args.self.ranges c.args.sag.in_range) }
