-- `taken_in` meets its contract: what is taken in ends at the limit or with the input.
-- Assumes nothing.
use Rattle.std.proofs.Common.{refl}
use Rattle.std.proofs.lemmas.List.{take_min}
use Rattle.report.proofs.output.taken_in.Goals as goal

pub returns : goal.returns
returns c = rw (c.min.ensures, take_min) refl
