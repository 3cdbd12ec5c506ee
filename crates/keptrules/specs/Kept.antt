-- A kept schedule: what each operation gives and what it leaves, for every schedule, whoever made it.
-- Assumes nothing.
use Rattle.std.specs.Prelude.{ℕ, ◌+◌, Bool, cond, ◌&&◌, List, [], ◌∷◌, ◌++◌, length, map, eqb, ltb, leb, Option, Result as Answer}
use Rattle.std.specs.List.{list_any}
use Rattle.cells.specs.Refusal.{Result, gives, refuses, refusal_number, refusal_cell, result_by}
use Rattle.cells.specs.Row.{cells_of}
use Rattle.cells.specs.declared.row.Row.{Row}
use Rattle.member.specs.Rank.{governing_verdict}
use Rattle.member.specs.Verdict.{check_row}
use Rattle.member.specs.declared.verdict.NumberedVerdict.{NumberedVerdict}
use Rattle.member.specs.declared.verdict.Verdict.{Verdict}
use Rattle.keptrules.specs.declared.answer.ScheduleRefusal.{ScheduleRefusal}
use Rattle.keptrules.specs.declared.answer.ScheduleRefusal.TheVariants.{NoRoom, NotHeld, Row as OfRow}
use Rattle.keptrules.specs.declared.schedule.Entry.{Entry}
use Rattle.keptrules.specs.declared.schedule.Schedule.{Schedule}

-- request 6: how many rows a schedule holds at most
abbrev pub most_held : ℕ
most_held = 64

-- request 6: the last number that it gives
abbrev pub last_number : ℕ
last_number = 1000000

-- the rows held, with their numbers and verdicts, in the order of their adds
abbrev pub held : Schedule → List Entry
held s = s.entries.items

-- the schedule that holds these, with the number that the next add gives
abbrev pub schedule_of : List Entry → ℕ → Schedule
schedule_of entries next = record { entries = record { items = entries }; next = next }

-- a row with its number and the verdict on it
abbrev pub entry_of : ℕ → Row → Verdict → Entry
entry_of number row v = record { row = row; judged = record { number = number; verdict = v } }

-- request 6: the schedule that holds nothing; numbers begin with 1
abbrev pub empty : Schedule
empty = schedule_of [] 1

-- what a call gives, and the schedule that it leaves
pub record Outcome (A : Type 0) : Type 0 where
  pub answer : Result A
  pub schedule : Schedule

-- request 6: a refused call gives number and cell, and the schedule is what it was
abbrev pub refused : {A : Type 0} → ℕ → ℕ → Schedule → Outcome A
refused number cell s = record { answer = refuses number cell; schedule = s }

-- request 6: fewer than 64 are held, and a number is left
abbrev pub has_room : Schedule → Bool
has_room s = ltb (length (held s)) most_held && (leb 1 s.next && leb s.next last_number)

-- request 6: an accepted row is held after the others, with the next number and its verdict; 11, cell 0, without room
abbrev pub add_judged : Row → Schedule → Result Verdict → Outcome ℕ
add_judged row s (gives v) =
    cond (has_room s)
    (record { answer = gives s.next; schedule = schedule_of (held s ++ (entry_of s.next row v ∷ [])) (s.next + 1) })
    (refused 11 0 s)
add_judged row s (refuses number cell) = refused number cell s

-- request 6, add: the row's own refusals first
abbrev pub add : Row → Schedule → Outcome ℕ
add row s = add_judged row s (check_row (cells_of row))

abbrev pub has_number : ℕ → Entry → Bool
has_number number e = eqb e.judged.number number

-- a row with the number is held
abbrev pub is_held : ℕ → List Entry → Bool
is_held number entries = list_any (has_number number) entries

-- the rows without the first that has the number
unfoldable pub without : ℕ → List Entry → List Entry
without number [] = []
without number (e ∷ entries) = cond (has_number number e) entries (e ∷ without number entries)

-- request 6, removal: of the row with a number; 12, cell 0, where none has it. The next number stays
abbrev pub remove : ℕ → Schedule → Outcome (Unit {0})
remove number s =
    cond (is_held number (held s))
    (record { answer = gives tt; schedule = schedule_of (without number (held s)) s.next })
    (refused 12 0 s)

-- the numbers held with their verdicts
abbrev pub verdicts_held : List Entry → List NumberedVerdict
verdicts_held entries = map (λ (e : Entry). e.judged) entries

-- request 6: the number and the verdict of the row that governs; none where none is held
abbrev pub governing : Schedule → Option NumberedVerdict
governing s = governing_verdict (verdicts_held (held s))

-- request 6: the number of a refusal
abbrev pub schedule_refusal_number : ScheduleRefusal → ℕ
schedule_refusal_number (OfRow refusal) = refusal_number refusal
schedule_refusal_number NoRoom = 11
schedule_refusal_number NotHeld = 12

-- request 6: the cell that a refusal names, 0 where it is tied to none
abbrev pub schedule_refusal_cell : ScheduleRefusal → ℕ
schedule_refusal_cell (OfRow refusal) = refusal_cell refusal
schedule_refusal_cell NoRoom = 0
schedule_refusal_cell NotHeld = 0

-- what a call's answer says, and the schedule beside it
abbrev pub outcome_of : {A : Type 0} → Answer A ScheduleRefusal → Schedule → Outcome A
outcome_of answer s = record { answer = result_by schedule_refusal_number schedule_refusal_cell answer; schedule = s }
