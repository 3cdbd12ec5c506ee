-- `whole_float` meets its contract: up to 2^53 nothing is lost, and the float of a whole number is no NaN.
-- Assumes nothing.
use Rattle.std.proofs.Common.{refl}
use Rattle.cells.proofs.FloatLaws.{whole_not_nan}
use Rattle.answer.proofs.floats.whole_float.Goals as goal

pub returns : goal.returns
returns c = (refl, whole_not_nan c.args.n c.requires)
