-- `bending_capacity` meets its contract: the product of a section's sides, widened, and a strength within their ranges.
-- Assumes nothing.
use Rattle.std.proofs.Common.{rules, arith, lit<}
use Rattle.rounding.proofs.Ranges.{in_lit, in_mul, in_div}
use Rattle.sp64.specs.Ranges.{InHeight, InWidth}
use Rattle.section.proofs.capacity.CrossSection.bending_capacity.Goals as goal

pub overflow_mul-result-3 : goal.overflow_mul-result-3
overflow_mul-result-3 c =
    let b : InWidth c.from.result = rw c.from.ensures c.args.self.ranges.width in
    let h : InHeight c.from-height.result = rw c.from-height.ensures c.args.self.ranges.height in
    omega (arith, in_mul (in_mul b (in_mul h h)) c.requires)

pub returns : goal.returns
returns c =
    let b : InWidth c.from.result = rw c.from.ensures c.args.self.ranges.width in
    let h : InHeight c.from-height.result = rw c.from-height.ensures c.args.self.ranges.height in
    record {
      exact = search rules;
      range = in_div (lit< tt) (in_mul (in_mul b (in_mul h h)) c.requires) (in_lit 6000);
    }
