-- `read_number` meets its contract: a float is what its bits say.
-- Assumes nothing.
use Rattle.std.proofs.Common.{ap, ◌∙◌, rules}
use lib.Ieee.{binary64, of_bits}
use lib.Ieee.Bits.{of_bits-to_bits}
use Rattle.worksheet.specs.Number.{read_number}
use Rattle.reading.proofs.number.read_number.Goals as goal

pub returns : goal.returns
returns c = c.read_bits.ensures ∙ ap read_number (ap (of_bits binary64) c.f64_to_bits_with_nan.ensures ∙ of_bits-to_bits binary64 c.args.x (search rules))
