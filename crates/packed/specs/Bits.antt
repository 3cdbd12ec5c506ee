-- Bits and bytes: a number's binary digits, the most significant first, and back.
-- Assumes nothing.
use Rattle.std.specs.Prelude.{ℕ, zero, suc, ◌+◌, ◌*◌, ◌/◌, ◌%◌, ◌^◌, ◌<◌, List, [], ◌∷◌, ◌++◌, Bool, true, false, get_or, drop, eqb}

-- the k lowest binary digits of v, the most significant first
unfoldable pub bits : ℕ → ℕ → List Bool
bits zero v = []
bits (suc k) v = eqb (v / 2 ^ k % 2) 1 ∷ bits k v

-- a bit as a number
abbrev pub bit_value : Bool → ℕ
bit_value true = 1
bit_value false = 0

-- the number that the first k of bs write, with 0 for those past the end
unfoldable pub number : ℕ → List Bool → ℕ
number zero bs = 0
number (suc k) [] = 0
number (suc k) (b ∷ bs) = bit_value b * 2 ^ k + number k bs

-- every element is a byte, as it is in every lent slice of bytes: clause `back` of `unpack_row` (codec/src/unpack.rt) asks for no such premise
abbrev pub Bytes : List ℕ → Type 0
Bytes bytes = (i : ℕ) → get_or bytes i 0 < 256

-- the bits of bytes
unfoldable pub bits_of : List ℕ → List Bool
bits_of [] = []
bits_of (byte ∷ bytes) = bits 8 byte ++ bits_of bytes

-- the n bytes whose bits bs starts with, with 0 for those past the end
unfoldable pub bytes_of : ℕ → List Bool → List ℕ
bytes_of zero bs = []
bytes_of (suc n) bs = number 8 bs ∷ bytes_of n (drop 8 bs)
