-- Lists of calls by themselves, with no schedule kept: what each call gives, which rows were added and not removed, and what governs when they are checked afresh.
-- Assumes nothing.
use Rattle.std.specs.Prelude.{ℕ, ◌+◌, Bool, false, cond, ◌&&◌, List, [], ◌∷◌, ◌++◌, length, map, eqb, ltb, Option, Some, None, option_map, filter_map}
use Rattle.std.specs.List.{list_any}
use Rattle.cells.specs.Refusal.{Result, gives, refuses, and_then}
use Rattle.cells.specs.Row.{cells_of}
use Rattle.cells.specs.declared.row.Row.{Row}
use Rattle.member.specs.Rank.{governing_verdict}
use Rattle.member.specs.Verdict.{check_row}
use Rattle.member.specs.declared.verdict.NumberedVerdict.{NumberedVerdict}
use Rattle.member.specs.declared.verdict.Verdict.{Verdict}
use Rattle.keptrules.specs.Kept.{most_held, last_number}
use Rattle.keptrules.specs.declared.call.Call.{Call}
use Rattle.keptrules.specs.declared.call.Call.TheVariants.{Add, Remove}
use Rattle.keptrules.specs.declared.call.Done.{Done}
use Rattle.keptrules.specs.declared.call.Done.TheVariants.{Added, Removed}

-- a call with what it gave; a list of these is a history of calls
pub record Answered : Type 0 where
  pub call : Call
  pub answer : Result Done

-- a row with its number
pub record NumberedRow : Type 0 where
  pub number : ℕ
  pub row : Row

-- the row that a call added, with the number that it got; none for a removal and for a call that was refused
abbrev pub added_by : Call → Result Done → Option NumberedRow
added_by (Add row) (gives (Added number)) = Some (record { number = number; row = row })
added_by (Add row) (gives Removed) = None
added_by (Add row) (refuses number cell) = None
added_by (Remove number) answer = None

abbrev pub added_row : Answered → Option NumberedRow
added_row answered = added_by answered.call answered.answer

-- a call removed the row with a number: it asked for it and was not refused
abbrev pub removed_by : ℕ → Call → Result Done → Bool
removed_by number (Add row) answer = false
removed_by number (Remove n) (gives done) = eqb number n
removed_by number (Remove n) (refuses refusal cell) = false

-- one of the calls removed it
abbrev pub removed : ℕ → List Answered → Bool
removed number history = list_any (λ (answered : Answered). removed_by number answered.call answered.answer) history

-- a row that was added is among those left unless a later call removed it
abbrev pub unless_removed : Option NumberedRow → List Answered → List NumberedRow → List NumberedRow
unless_removed None later rows = rows
unless_removed (Some r) later rows = cond (removed r.number later) rows (r ∷ rows)

-- request 6: all rows added and not removed, in the order of their adds
unfoldable pub left : List Answered → List NumberedRow
left [] = []
left (answered ∷ history) = unless_removed (added_row answered) history (left history)

-- the numbers that were given, in the order of the adds
abbrev pub given : List Answered → List ℕ
given history = filter_map (λ (answered : Answered). option_map (λ (r : NumberedRow). r.number) (added_row answered)) history

-- a row with the number is among them
abbrev pub has_row : ℕ → List NumberedRow → Bool
has_row number rows = list_any (λ (r : NumberedRow). eqb r.number number) rows

-- request 6: an add after a history gives the row's own refusal, then 11, cell 0, where 64 are left or 1,000,000 numbers were given; otherwise the next number
abbrev pub add_gives : Row → List Answered → Result Done
add_gives row history =
    and_then (check_row (cells_of row))
    (λ (v : Verdict).
    cond (ltb (length (left history)) most_held && ltb (length (given history)) last_number)
    (gives (Added (length (given history) + 1)))
    (refuses 11 0))

-- request 6: a removal gives 12, cell 0, where no row with the number is left
abbrev pub remove_gives : ℕ → List Answered → Result Done
remove_gives number history = cond (has_row number (left history)) (gives Removed) (refuses 12 0)

-- request 6: what a call gives after a history
abbrev pub call_gives : Call → List Answered → Result Done
call_gives (Add row) history = add_gives row history
call_gives (Remove number) history = remove_gives number history

-- a history with a call more
abbrev pub and_call : List Answered → Call → List Answered
and_call history call = history ++ (record { call = call; answer = call_gives call history } ∷ [])

-- the history of calls, each after those before it
unfoldable pub history_from : List Answered → List Call → List Answered
history_from history [] = history
history_from history (call ∷ calls) = history_from (and_call history call) calls

-- of calls from the empty schedule: nothing came before
abbrev pub history_of : List Call → List Answered
history_of calls = history_from [] calls

-- what the calls of a history gave
abbrev pub answers_in : List Answered → List (Result Done)
answers_in history = map (λ (answered : Answered). answered.answer) history

-- request 6: what each call gives, numbers and refusals, by the list of calls alone
abbrev pub gives_afresh : List Call → List (Result Done)
gives_afresh calls = answers_in (history_of calls)

-- a number with what "Check a row" gives; a row that it refuses has no verdict
abbrev pub and_verdict : ℕ → Result Verdict → List NumberedVerdict → List NumberedVerdict
and_verdict number (gives v) verdicts = record { number = number; verdict = v } ∷ verdicts
and_verdict number (refuses refusal cell) verdicts = verdicts

-- rows checked afresh
unfoldable pub checked : List NumberedRow → List NumberedVerdict
checked [] = []
checked (r ∷ rows) = and_verdict r.number (check_row (cells_of r.row)) (checked rows)

-- request 6: what governs after calls, chosen by a fresh check of the rows left
abbrev pub governing_afresh : List Call → Option NumberedVerdict
governing_afresh calls = governing_verdict (checked (left (history_of calls)))
