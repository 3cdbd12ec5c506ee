-- Text as bytes, and a line that holds it.
-- Assumes nothing.
use Rattle.std.specs.Prelude.{ℕ, zero, suc, ◌+◌, ◌-◌, ◌/◌, ◌%◌, cond, List, [], ◌∷◌, ◌++◌, ltb, length, take, replicate}
use Rattle.lines.specs.declared.text.Line.{Line}

-- the ASCII code of a decimal digit
abbrev pub digit : ℕ → ℕ
digit d = 48 + d

-- n in decimal, most significant digit first, where it has at most `more` digits and one
unfoldable pub decimal_by : ℕ → ℕ → List ℕ
decimal_by zero n = digit (n % 10) ∷ []
decimal_by (suc more) n = cond (ltb n 10) (digit (n % 10) ∷ []) (decimal_by more (n / 10) ++ (digit (n % 10) ∷ []))

-- a number of 64 bits in decimal: 20 digits hold it
abbrev pub decimal : ℕ → List ℕ
decimal n = decimal_by 19 n

-- the words `pass`, `fail` and `refused` in ASCII
abbrev pub pass_word : List ℕ
pass_word = 112 ∷ 97 ∷ 115 ∷ 115 ∷ []

abbrev pub fail_word : List ℕ
fail_word = 102 ∷ 97 ∷ 105 ∷ 108 ∷ []

abbrev pub refused_word : List ℕ
refused_word = 114 ∷ 101 ∷ 102 ∷ 117 ∷ 115 ∷ 101 ∷ 100 ∷ []

-- a field after the first: one space, then its text
abbrev pub field : List ℕ → List ℕ
field text = 32 ∷ text

-- the end of a line
abbrev pub newline : List ℕ
newline = 10 ∷ []

-- the bytes that a line has room for
abbrev pub line_room : ℕ
line_room = 64

-- the line that holds a text: its bytes, zeros after them, and its length
abbrev pub line_of : List ℕ → Line
line_of text = record { text = text ++ replicate (line_room - length text) 0; len = length text }

-- the text of a line
abbrev pub text_of : Line → List ℕ
text_of line = take line.len line.text
