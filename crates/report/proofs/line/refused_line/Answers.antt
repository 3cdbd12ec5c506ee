-- `refused_line` meets its contract: the word, the refusal's number and its cell.
-- Assumes nothing.
use Rattle.std.proofs.Common.{rules}
use Rattle.report.proofs.LineLaws.{refused_row}
use Rattle.report.proofs.line.refused_line.Goals as goal

pub returns : goal.returns
returns c = search (rules, refused_row)
