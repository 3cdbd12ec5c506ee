-- The line that a packed row prints, and where the next row starts.
-- Assumes nothing.
use Rattle.std.specs.Prelude.{ℕ, ◌+◌, cond, List, [], ◌∷◌, ◌++◌, length, drop}
use Rattle.cells.specs.Refusal.{Result, gives, refuses}
use Rattle.cells.specs.Row.{cell_count, Cell}
use Rattle.packed.specs.Unpacking.{unpacked}
use Rattle.member.specs.Verdict.{check_row}
use Rattle.member.specs.declared.verdict.Verdict.{Verdict}
use Rattle.lines.specs.Text.{decimal, pass_word, fail_word, refused_word, field, newline, line_of}
use Rattle.lines.specs.declared.line.Step.{Step}

-- the fields of a verdict: `pass` or `fail`, check, utilisation, count
abbrev pub verdict_fields : Verdict → List ℕ
verdict_fields v =
    field (cond v.passes pass_word fail_word)
    ++ field (decimal v.check)
    ++ field (decimal v.utilisation)
    ++ field (decimal v.count)

-- the fields of a refusal: `refused`, its number, its cell
abbrev pub refusal_fields : ℕ → ℕ → List ℕ
refusal_fields number cell = field refused_word ++ field (decimal number) ++ field (decimal cell)

-- the fields of a row's result
abbrev pub fields_of : Result Verdict → List ℕ
fields_of (gives verdict) = verdict_fields verdict
fields_of (refuses number cell) = refusal_fields number cell

-- a row's line: its number, the fields of its result, the line's end
unfoldable pub row_line : ℕ → Result Verdict → List ℕ
row_line number result = decimal number ++ fields_of result ++ newline

-- an unpacked row, checked
abbrev pub checked_row : Result (List Cell × ℕ) → Result Verdict
checked_row (gives (cells, count)) = check_row cells
checked_row (refuses number cell) = refuses number cell

-- the bytes up to the next row, of those left: the row's own; all of them after 6 or 7, where the program stops
abbrev pub taken_of : Result (List Cell × ℕ) → ℕ → ℕ
taken_of (gives (cells, count)) left = count
taken_of (refuses number cell) left = left

-- the line of the row that the bytes left begin with; none where the input ends between rows
unfoldable pub line_for : ℕ → List ℕ → List ℕ
line_for number [] = []
line_for number (byte ∷ bytes) = row_line number (checked_row (unpacked cell_count (byte ∷ bytes)))

-- the bytes that this row takes
unfoldable pub taken : List ℕ → ℕ
taken left = taken_of (unpacked cell_count left) (length left)

-- the line at a position of the input, and the next position
abbrev pub step_at : List ℕ → ℕ → ℕ → Step
step_at input at number = record { line = line_of (line_for number (drop at input)); next = at + taken (drop at input) }
