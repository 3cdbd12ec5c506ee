-- `bit_count` meets its contract: a blank has one bit, a whole number 35.
-- Assumes nothing.
use Rattle.std.proofs.Common.{rules}
use Rattle.packed.proofs.CellLaws.{length_blank, length_whole}
use Rattle.codec.proofs.measure.bit_count.Goals as goal

pub returns : goal.returns
returns c = search (rules, length_blank, length_whole)
