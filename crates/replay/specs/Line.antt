-- The line of a call. The statement of the product does not cite it.
-- Assumes nothing.
use Rattle.std.specs.Prelude.{ℕ, Bool, cond, List, ◌++◌, Option, Some, None, codes, decimal}
use Rattle.cells.specs.Refusal.{Result, gives, refuses}
use Rattle.member.specs.declared.verdict.NumberedVerdict.{NumberedVerdict}
use Rattle.keptrules.specs.declared.call.Done.{Done}
use Rattle.keptrules.specs.declared.call.Done.TheVariants.{Added, Removed}

-- what a call gave: `added` and the number, `removed`, or `refused` with number and cell
abbrev pub answer_text : Result Done → List ℕ
answer_text (gives (Added number)) = codes "added " ++ decimal number
answer_text (gives Removed) = codes "removed"
answer_text (refuses number cell) = codes "refused " ++ decimal number ++ codes " " ++ decimal cell

abbrev pub word_of : Bool → List ℕ
word_of passes = cond passes (codes "pass") (codes "fail")

-- what governs: the number of the row, `pass` or `fail`, check, utilisation and count
abbrev pub held_text : NumberedVerdict → List ℕ
held_text v =
    codes " governing " ++ decimal v.number ++ codes " " ++ word_of v.verdict.passes ++ codes " " ++ decimal v.verdict.check
    ++ codes " " ++ decimal v.verdict.utilisation ++ codes " " ++ decimal v.verdict.count ++ codes "\n"

-- or `none`; and the end of the line
abbrev pub governing_text : Option NumberedVerdict → List ℕ
governing_text None = codes " governing none\n"
governing_text (Some v) = held_text v
