-- The rank of a verdict: which of several members governs.
-- Assumes nothing.
use Rattle.std.specs.Prelude.{ℕ, ◌≤◌, Bool, true, not, ◌&&◌, cond, List, leb, Option}
use Rattle.cells.specs.Greatest.{greatest}
use Rattle.member.specs.declared.verdict.NumberedVerdict.{NumberedVerdict}
use Rattle.member.specs.declared.verdict.Verdict.{Verdict}

-- request 6: a fail on a yes-or-no check, one of checks 1 to 4
abbrev pub yes_no_fail : Verdict → Bool
yes_no_fail v = not v.passes && (leb 1 v.check && leb v.check 4)

-- request 6: yes-or-no fails all rank equal, and before any utilisation, which is at most 9,999,999; otherwise the utilisation ranks
abbrev pub rank : Verdict → ℕ
rank v = cond (yes_no_fail v) 10000000 v.utilisation

-- the first verdict ranks no lower than the second
abbrev pub RanksAtLeast : Verdict → Verdict → Type 0
RanksAtLeast v w = rank w ≤ rank v

abbrev pub numbered_rank : NumberedVerdict → ℕ
numbered_rank v = rank v.verdict

-- request 6: of numbered verdicts the one that governs, of greatest rank, the first among equals; none where there is none
abbrev pub governing_verdict : List NumberedVerdict → Option NumberedVerdict
governing_verdict list = greatest (λ (v : NumberedVerdict). true) numbered_rank list
