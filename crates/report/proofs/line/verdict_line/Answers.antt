-- `verdict_line` meets its contract: the word, check, utilisation and count.
-- Assumes nothing.
use Rattle.std.proofs.Common.{rules}
use Rattle.report.proofs.LineLaws.{judged_row}
use Rattle.report.proofs.line.verdict_line.Goals as goal

pub returns : goal.returns
returns c = search (rules, judged_row)
