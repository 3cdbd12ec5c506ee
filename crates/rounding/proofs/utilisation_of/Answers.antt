-- `utilisation_of` meets its contract: the cap is reached exactly where the first test says so.
-- Assumes nothing.
use Rattle.std.proofs.Common.{◌*◌, arith}
use Rattle.rounding.proofs.RoundingLaws.{lt_up}
use Rattle.rounding.proofs.utilisation_of.Goals as goal

pub returns-then-capacity-force : goal.returns-then-capacity-force
returns-then-capacity-force c =
    omega (arith, lt_up {n = 1000000 * c.args.force} {k = 9999999} c.requires.low (omega arith))
