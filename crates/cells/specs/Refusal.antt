-- The refusals 1 to 7 by number and cell, what an operation gives, and how operations chain.
-- Assumes nothing.
use Rattle.std.specs.Prelude.{ℕ, ◌+◌, ◌*◌, List, Result as Answer, Ok, Err}
use Rattle.cells.specs.declared.refusal.Refusal.{Refusal}
use Rattle.cells.specs.declared.refusal.Refusal.TheVariants.{RowLength, Unreadable, Misfilled, UnknownCode, OutOfRange, BufferSize, CutOff, Padding}

-- document 01's number of a refusal
abbrev pub refusal_number : Refusal → ℕ
refusal_number RowLength = 1
refusal_number (Unreadable cell) = 1
refusal_number (Misfilled cell) = 2
refusal_number (UnknownCode cell) = 3
refusal_number (OutOfRange cell) = 4
refusal_number BufferSize = 5
refusal_number (CutOff cell) = 6
refusal_number Padding = 7

-- the cell that a refusal names, 0 where it is tied to none
abbrev pub refusal_cell : Refusal → ℕ
refusal_cell RowLength = 0
refusal_cell (Unreadable cell) = cell
refusal_cell (Misfilled cell) = cell
refusal_cell (UnknownCode cell) = cell
refusal_cell (OutOfRange cell) = cell
refusal_cell BufferSize = 0
refusal_cell (CutOff cell) = cell
refusal_cell Padding = 0

-- what the host is told of a refusal: 1000 × number + cell
abbrev pub refusal_code : Refusal → ℕ
refusal_code refusal = 1000 * refusal_number refusal + refusal_cell refusal

-- what an operation of document 01 gives: a value, or a refusal by its number and its cell
pub data Result (A : Type 0) : Type 0 where
  gives : A → Result A
  refuses : ℕ → ℕ → Result A

-- a refusal as a result
abbrev pub refused_by : {A : Type 0} → Refusal → Result A
refused_by refusal = refuses (refusal_number refusal) (refusal_cell refusal)

-- what the code's answer says in document 01's terms: its value, or its refusal by number and cell, which two functions give of each refusal
abbrev pub result_by : {A E : Type 0} → (E → ℕ) → (E → ℕ) → Answer A E → Result A
result_by number cell (Ok value) = gives value
result_by number cell (Err refusal) = refuses (number refusal) (cell refusal)

-- the same of the refusals 1 to 7
abbrev pub by_number : {A : Type 0} → Answer A Refusal → Result A
by_number answer = result_by refusal_number refusal_cell answer

-- the same of an answer without a value, and of what was handed over beside it
abbrev pub result_of : {A : Type 0} → Answer (Unit {0}) Refusal → A → Result A
result_of (Ok done) value = gives value
result_of (Err refusal) value = refused_by refusal

-- a result with its value in other terms
abbrev pub map_given : {A B : Type 0} → (A → B) → Result A → Result B
map_given in_other_terms (gives value) = gives (in_other_terms value)
map_given in_other_terms (refuses number cell) = refuses number cell

-- the value of a result, and `nothing` in its place where it is a refusal
abbrev pub value_or : {A : Type 0} → A → Result A → A
value_or nothing (gives value) = value
value_or nothing (refuses number cell) = nothing

-- the one where a result gives a value, the other where it is a refusal
abbrev pub where_given : {A B : Type 0} → Result A → B → B → B
where_given (gives value) given refused = given
where_given (refuses number cell) given refused = refused

-- an operation on what the one before gave; the first refusal stands
abbrev pub and_then : {A B : Type 0} → Result A → (A → Result B) → Result B
and_then (gives value) next = next value
and_then (refuses number cell) next = refuses number cell

-- the lent bytes after an operation on what the one before gave; untouched by its refusal
abbrev pub leaves : {A : Type 0} → Result A → (A → List ℕ) → List ℕ → List ℕ
leaves (gives value) after before = after value
leaves (refuses number cell) after before = before

-- what the host is told: the number for a value, or 1000 × number + cell
abbrev pub told : {A : Type 0} → (A → ℕ) → Result A → ℕ
told value-number (gives value) = value-number value
told value-number (refuses number cell) = 1000 * number + cell
