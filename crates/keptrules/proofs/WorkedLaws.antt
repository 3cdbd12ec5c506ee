-- The worked calls, by computing.
-- Assumes nothing.
use mathlib.Core.Path.{◌≡◌, refl}
use Rattle.rounding.specs.Greatest.{by_digits}
use Rattle.cells.specs.Greatest.{greatest}
use Rattle.cells.specs.Lowest.{lowest}
use Rattle.member.specs.Acceptance.{accept_kind}
use Rattle.member.specs.Verdict.{judge_by}
use Rattle.keptrules.specs.Calls.{answers}
use Rattle.keptrules.specs.Kept.{without, empty}
use Rattle.keptrules.specs.WorkedCalls.{governing_each, worked_calls, worked_answers, worked_governing}

-- what each gives, and what governs after it
pub worked_answers_lem : answers worked_calls empty ≡ worked_answers
unfolding answers without accept_kind lowest judge_by greatest by_digits
worked_answers_lem = refl

pub worked_governing_lem : governing_each worked_calls empty ≡ worked_governing
unfolding governing_each without accept_kind lowest judge_by greatest by_digits
worked_governing_lem = refl
