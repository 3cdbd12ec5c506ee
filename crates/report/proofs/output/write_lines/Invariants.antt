-- Each turn writes the line of the row at the position after those written before.
-- Assumes nothing.
use Rattle.std.proofs.Common.{length, ◌-◌}
use Rattle.report.proofs.WriteLaws.{Written}
use Rattle.report.proofs.output.write_lines.Given as goal

abbrev pub invariant-loop-at : goal.invariant-loop-at
invariant-loop-at l = Written l.input l.initial.out l.at l.number l.len l.out

abbrev pub decreases-loop-at : goal.decreases-loop-at
decreases-loop-at l = length l.input - l.at
