-- What the program `schedule` prints for an input.
-- Assumes nothing.
use Rattle.std.specs.Prelude.{ℕ, zero, suc, ◌+◌, ◌*◌, List, [], ◌∷◌, ◌++◌, length, take, drop}
use Rattle.lines.specs.Line.{line_for, taken}

-- the lines of the rows that bytes hold back to back, at most `rows` of them, the first with a given number
unfoldable pub lines_from : ℕ → ℕ → List ℕ → List (List ℕ)
lines_from zero number left = []
lines_from (suc rows) number [] = []
lines_from (suc rows) number (byte ∷ bytes) =
    line_for number (byte ∷ bytes) ∷ lines_from rows (suc number) (drop (taken (byte ∷ bytes)) (byte ∷ bytes))

-- the lines for bytes, numbered from 1: a row takes at least a byte, so there are no more rows than bytes
abbrev pub lines_of : List ℕ → List (List ℕ)
lines_of bytes = lines_from (length bytes) 1 bytes

-- the program takes in at most this many bytes
abbrev pub most_input : ℕ
most_input = 65536

-- the program's lines for an input: more than it takes in is ignored
abbrev pub output : List ℕ → List (List ℕ)
output input = lines_of (take most_input input)

-- lines one after another
unfoldable pub joined : List (List ℕ) → List ℕ
joined [] = []
joined (line ∷ lines) = line ++ joined lines

-- the bytes that the lines for n bytes of input have room in: a row that does not stop the program takes at least three
abbrev pub room_for : ℕ → ℕ
room_for n = 22 * n + 42
