-- Numbers and floats as the host has them: whole numbers as floats, floats as eight bytes, the lowest byte first.
-- Assumes nothing.
use Rattle.std.specs.Prelude.{ℕ, zero, suc, ◌+◌, ◌*◌, ◌/◌, ◌%◌, ◌^◌, List, [], ◌∷◌, pos, get_or, Float}
use Rattle.std.specs.Float.{binary64}
use Rattle.std.specs.Float.Ieee.{of_int, of_bits, to_bits}

-- the n lowest bytes of w, lowest first
unfoldable pub word_bytes : ℕ → ℕ → List ℕ
word_bytes zero w = []
word_bytes (suc n) w = w % 256 ∷ word_bytes n (w / 256)

-- the four bytes from a place on as a number, lowest byte first
abbrev pub half_word_at : List ℕ → ℕ → ℕ
half_word_at bytes at = get_or bytes at 0 + 256 * (get_or bytes (at + 1) 0 + 256 * (get_or bytes (at + 2) 0 + 256 * get_or bytes (at + 3) 0))

-- the eight bytes from a place on as a number, lowest byte first
abbrev pub word_at : List ℕ → ℕ → ℕ
word_at bytes at = half_word_at bytes at + 2 ^ 32 * half_word_at bytes (at + 4)

-- a float as eight bytes, the least significant first
abbrev pub float_bytes : Float → List ℕ
float_bytes x = word_bytes 8 (to_bits binary64 x)

-- the float whose eight bytes start at a place
abbrev pub float_at : List ℕ → ℕ → Float
float_at bytes at = of_bits binary64 (word_at bytes at)

-- a whole number as a float
abbrev pub whole_float : ℕ → Float
whole_float n = of_int binary64 (pos n)
