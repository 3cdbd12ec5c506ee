-- Floats in lent bytes, any number of them; and the answer of a check as the host gets it: three floats in 24 bytes.
-- Assumes nothing.
use Rattle.std.specs.Prelude.{ℕ, ◌*◌, ◌^◌, ◌≤◌, ◌<◌, cond, not, List, [], ◌∷◌, ◌++◌, map, T, eqb, length, get_or, Float}
use Rattle.std.specs.Float.{nan}
use Rattle.std.specs.Float.Ieee.{is_nan}
use Rattle.cells.specs.HostBytes.{float_bytes, whole_float}
use Rattle.cells.specs.Refusal.{Result, gives, refuses, where_given}
use Rattle.worksheet.specs.declared.answer.HostAnswer.{HostAnswer}

-- floats, eight bytes each, one after another
unfoldable pub floats_bytes : List Float → List ℕ
floats_bytes [] = []
floats_bytes (x ∷ xs) = float_bytes x ++ floats_bytes xs

-- so many floats have eight bytes each: another length is refused, 5, cell 0
abbrev pub floats_result : ℕ → ℕ → Result (Unit {0})
floats_result count room = cond (eqb room (8 * count)) (gives tt) (refuses 5 0)

-- the lent bytes after floats; untouched by a refusal
abbrev pub floats_buffer : List Float → List ℕ → List ℕ
floats_buffer floats buffer = where_given (floats_result (length floats) (length buffer)) (floats_bytes floats) buffer

-- whole numbers as floats
abbrev pub whole_floats : List ℕ → List Float
whole_floats numbers = map whole_float numbers

-- each is at most 2^53, so that a float holds it without loss
abbrev pub Lossless : List ℕ → Type 0
Lossless [] = Unit {0}
Lossless (n ∷ numbers) = (n ≤ 2 ^ 53) × Lossless numbers

-- none of the floats is a NaN, whose bits the language does not define
abbrev pub NoNans : List Float → Type 0
NoNans floats = (i : ℕ) → i < length floats → T (not (is_nan (get_or floats i nan)))

-- the three numbers of an answer, each as a float
abbrev pub host_answer : ℕ → ℕ → ℕ → HostAnswer
host_answer utilisation count check = record { utilisation = whole_float utilisation; count = whole_float count; check = whole_float check }

-- the bytes of an answer: the three floats in this order
abbrev pub answer_bytes : HostAnswer → List ℕ
answer_bytes answer = float_bytes answer.utilisation ++ float_bytes answer.count ++ float_bytes answer.check

-- an answer has 24 bytes: another length is refused, 5, cell 0
abbrev pub answer_room_result : ℕ → Result (Unit {0})
answer_room_result room = cond (eqb room 24) (gives tt) (refuses 5 0)

-- the lent bytes after an answer; untouched by a refusal
abbrev pub answer_buffer : ℕ → ℕ → ℕ → List ℕ → List ℕ
answer_buffer utilisation count check buffer = where_given (answer_room_result (length buffer)) (answer_bytes (host_answer utilisation count check)) buffer
