-- `undivided_product` meets its contract: the product of four factors within their ranges.
-- Assumes nothing.
use Rattle.std.proofs.Common.{rules, arith}
use Rattle.sp64.proofs.StrengthLaws.{undivided_in}
use Rattle.strength.proofs.design.KnownMaterial.undivided_product.Goals as goal

pub returns : goal.returns
returns c = record { exact = search rules; range = undivided_in c.args.self.ranges c.requires }

pub overflow_mul-result-3 : goal.overflow_mul-result-3
overflow_mul-result-3 c = omega (arith, undivided_in c.args.self.ranges c.requires)
