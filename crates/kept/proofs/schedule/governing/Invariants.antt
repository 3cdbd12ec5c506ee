-- What is found so far and what is left give what governs.
-- Assumes nothing.
use Rattle.std.proofs.Common.{◌≡◌, drop}
use Rattle.cells.proofs.GreatestLaws.{found_from}
use Rattle.keptrules.specs.Kept.{verdicts_held, governing}
use Rattle.member.specs.Rank.{numbered_rank}
use Rattle.kept.proofs.schedule.governing.Given as goal

abbrev pub invariant-loop-entry : goal.invariant-loop-entry
invariant-loop-entry l = found_from numbered_rank l.found (verdicts_held (drop l.entry-index l.schedule.entries.items)) ≡ governing l.schedule
