-- After some numbers the line holds their fields, each of which takes at most eleven bytes.
-- Assumes nothing.
use Rattle.std.proofs.Common.{◌+◌, ◌*◌, ◌++◌, take}
use Rattle.std.specs.Prelude.{flat_map}
use Rattle.lines.specs.Text.{decimal, field}
use Rattle.report.proofs.LineLaws.{HoldsText}
use Rattle.report.proofs.line.fields_line.Given as goal

abbrev pub invariant-loop-n : goal.invariant-loop-n
invariant-loop-n l = HoldsText (28 + 11 * l.n-index) ((decimal l.number ++ field l.word) ++ flat_map (λ n. field (decimal n)) (take l.n-index l.numbers)) l.line
